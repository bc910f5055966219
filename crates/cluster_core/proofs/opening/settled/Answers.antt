use Rattle.cluster_core.proofs.Failing.{failed_settling}
use Rattle.repo_opening.specs.declared.unopened.Unopened.TheVariants.{Failed}
use Rattle.repo_opening.specs.declared.unopened.Unopened.{Unopened}
use Rattle.std.proofs.Common.{Err, IsErrOf, ap, ◌∙◌}
use Rattle.cluster_core.proofs.opening.settled.Goals as goal

pub returns-in-Err-clause-failed : goal.returns-in-Err-clause-failed
returns-in-Err-clause-failed g c = λ given each r is.
    let told = c.give_back.ensures.failed r is in
    let wrong : IsErrOf c.settle_all.result (Failed r) = c.in-Err.is ∙ ap (λ (w : Unopened). Err w) told.0 in
    failed_settling g.P.Parts.disks given c.give_back.result.parts.items c.args.cluster.sites.items c.settle_all.new.sites.items r each (c.settle_all.ensures.failed r wrong) told.1
