use Rattle.store_opening.specs.Reading.{ReadAll}
use Rattle.top_judging.proofs.StageLaws.{err_reply_map, refused_unjudged}
use Rattle.top_judging.specs.Stages.{RepliesRefused, RepliesUnjudged}
use Rattle.top_judging.proofs.judging.base_in.Goals as goal

pub returns-in-None-clause-reply : goal.returns-in-None-clause-reply
returns-in-None-clause-reply g c = λ given has.
    let D = ReadAll g.P.Parts.disks given in
    let plan = c.args.plan.now in
    let script = c.args.script.now in
    let store = c.args.found.now.store in
    err_reply_map c.base_within.result (RepliesRefused plan script store) (RepliesUnjudged D plan script store) (refused_unjudged D plan script store) c.base_within.ensures.reply
