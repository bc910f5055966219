use Rattle.std.proofs.Common.{sym, ◌∙◌, ◌≡◌}
use Rattle.store_opening.specs.Reading.{ReadAll}
use Rattle.top_judging.proofs.DiskLaws.{no_disk, unjudged_disk}
use Rattle.top_judging.specs.Stages.{RepliesUnjudged}
use Rattle.top_judging.proofs.finding.judged_on.Goals as goal

pub returns-in-Err-clause-never : goal.returns-in-Err-clause-never
returns-in-Err-clause-never g c = λ given repo has is.
    let D = ReadAll g.P.Parts.disks given in
    no_disk c.in-Err.reply (RepliesUnjudged D c.args.plan.now c.args.script.now c.args.found.store) repo (unjudged_disk D c.args.plan.now c.args.script.now c.args.found.store) (c.in-Err.ensures.reply given has) (sym c.unplayed.ensures.reply ∙ is)
