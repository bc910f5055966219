use Rattle.repo_opening.specs.declared.unopened.Unopened.TheVariants.{Failed}
use Rattle.std.proofs.Common.{IsErrOf, rules}
use Rattle.cluster_core.proofs.opening.told_to.Goals as goal

pub returns-in_err-held-clause-failed : goal.returns-in_err-held-clause-failed
returns-in_err-held-clause-failed c = λ r is.
    let wrong : IsErrOf c.args.opened (Failed r) = search rules in
    wrong
