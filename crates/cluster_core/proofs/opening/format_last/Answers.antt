use Rattle.cluster_core.proofs.Seating.{on_always}
use Rattle.std.proofs.Common.{IsErrOf, inl, inr, refl, rules}
use Rattle.repo_opening.specs.declared.unopened.Unopened.TheVariants.{Failed}
use Rattle.cluster_core.proofs.Failing.{is_ok_at}
use Rattle.std.specs.Prelude.{IsOk}
use Rattle.cluster_core.proofs.opening.format_last.Goals as goal

pub returns-in-Ok-clause-failed : goal.returns-in-Ok-clause-failed
returns-in-Ok-clause-failed g c = λ r is. inr (is_ok_at c.args.others _ c.in-Ok.is, c.format_from.ensures.failed r is)

pub returns-in-Err-clause-failed : goal.returns-in-Err-clause-failed
returns-in-Err-clause-failed g c = λ r is.
    let wrong : IsErrOf c.args.others (Failed r) = search rules in
    inl (wrong, refl)

pub returns-in-Ok-clause-others : goal.returns-in-Ok-clause-others
returns-in-Ok-clause-others g c = on_always c.format_from.result.1 (IsOk c.args.others) (is_ok_at c.args.others _ c.in-Ok.is)
