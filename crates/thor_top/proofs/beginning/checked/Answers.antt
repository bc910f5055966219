use Rattle.std.proofs.Common.{IfOk, Result, subst, sym}
use Rattle.store_opening.specs.Reading.{ReadAll}
use Rattle.thor_value.specs.declared.memory.NoMemory.{NoMemory}
use Rattle.top_judging.proofs.DiskLaws.{other_disk}
use Rattle.top_judging.proofs.StageLaws.{fits_disks, spelled_by}
use Rattle.top_reply.specs.declared.reply.Reply.TheVariants.{Accepted as IsAccepted}
use Rattle.top_reply.specs.declared.reply.Reply.{Reply}
use Rattle.top_statement.specs.Top.{RepliesTo}
use Rattle.top_statement.specs.Telling.{TellsNoRun}
use Rattle.thor_top.proofs.beginning.checked.Goals as goal

pub returns-clause-reply : goal.returns-clause-reply
returns-clause-reply g c = λ given stored.
    subst (λ (q : Result Reply NoMemory). IfOk q (RepliesTo (ReadAll g.P.Parts.disks given) c.args.plan.now c.args.script.now)) (sym c.unplayed.ensures.reply) (
      c.requires.command,
      (
        c.requires.judged.within,
        (
          fits_disks (ReadAll g.P.Parts.disks given) c.args.script.now.setup c.args.judged.found.store stored c.requires.judged.fits,
          (c.args.judged.base, (c.requires.judged.accepted, spelled_by (ReadAll g.P.Parts.disks given) c.args.script.now.setup c.args.judged.found.store c.args.judged.base stored c.requires.judged.schemas)),
        ),
      ),
    )

pub returns-clause-same : goal.returns-clause-same
returns-clause-same g c = λ given has. rw c.unplayed.ensures.parts (c.into_parts.ensures.parts given has)

pub returns-clause-untold : goal.returns-clause-untold
returns-clause-untold g c = subst (λ (q : Result Reply NoMemory). TellsNoRun q) (sym c.unplayed.ensures.reply) (λ tells. tells)

pub returns-clause-never : goal.returns-clause-never
returns-clause-never g c = λ repo is. other_disk c.unplayed.result.reply IsAccepted repo c.unplayed.ensures.reply (λ t. t) is
