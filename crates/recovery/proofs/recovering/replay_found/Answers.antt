use Rattle.std.proofs.Common.{◌≡◌, IsErrOf, IfSome, Option, rules, subst, sym}
use Rattle.recovery.specs.Damage.{Fault}
use Rattle.recovery.specs.declared.fault.RecoverFault.TheVariants.{Damaged}
use Rattle.commit_log.specs.Opening.{Found, log_of}
use Rattle.recovery.proofs.recovering.replay_found.Goals as goal

pub returns-in_err-replayed-in-Some-clause-damaged : goal.returns-in_err-replayed-in-Some-clause-damaged
returns-in_err-replayed-in-Some-clause-damaged c = λ d place is.
    let wrong : IsErrOf c.replay.result (Damaged d place) = search rules in
    subst (λ (o : Option Found). IfSome o (λ f. (d ≡ f.0.disk) × Fault (log_of f) place)) (sym c.in-Some.is) (c.replay.ensures.damaged d place wrong)
