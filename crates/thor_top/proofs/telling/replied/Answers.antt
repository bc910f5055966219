use Rattle.std.proofs.Common.{Result, subst, sym, ◌≡◌}
use Rattle.std.specs.Result.{IsErrAnd}
use Rattle.repo_opening.specs.declared.unopened.Unopened.TheVariants.{Failed}
use Rattle.thor_top.proofs.FailLaws.{told_no_disk}
use Rattle.thor_top.proofs.telling.replied.Goals as goal

pub returns-in-Ok-clause-failed : goal.returns-in-Ok-clause-failed
returns-in-Ok-clause-failed g c = λ repo is. absurd (told_no_disk c.args.expected c.told.result.reply repo c.told.ensures.reply is)

pub returns-in-Err-clause-failed : goal.returns-in-Err-clause-failed
returns-in-Err-clause-failed g c = λ repo is.
    subst (λ (r : Result _ _). IsErrAnd r (λ fault. fault.why ≡ Failed repo)) (sym c.in-Err.is) (c.unopened.ensures.failed repo is)
