use Rattle.std.proofs.Common.{Ok, ◌≡◌}
use Rattle.store_opening.specs.Failing.{FailsAt}
use Rattle.top_judging.proofs.StageLaws.{err_map}
use Rattle.top_reply.specs.declared.reply.Reply.TheVariants.{DiskFault}
use Rattle.thor_top.proofs.beginning.begin_script.Goals as goal

pub returns-in-Ok-clause-reply : goal.returns-in-Ok-clause-reply
returns-in-Ok-clause-reply g c = c.begin_judged.ensures.reply c.args.parts.items c.in-Ok.ensures.stored

pub returns-in-Ok-clause-failed : goal.returns-in-Ok-clause-failed
returns-in-Ok-clause-failed g c = λ repo.
    err_map c.begin_judged.result (λ a. a.reply ≡ Ok (DiskFault repo) → ⊥) (λ a. a.reply ≡ Ok (DiskFault repo) → FailsAt g.P.Parts.disks c.args.parts.items a.parts.items repo) (λ a never is. absurd (never is)) (c.begin_judged.ensures.never repo)
