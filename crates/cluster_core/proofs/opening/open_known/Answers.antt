use Rattle.cluster_core.proofs.Failing.{goes_fell, same_err}
use Rattle.cluster_core.proofs.Recovered.{begun_moved}
use Rattle.cluster_core.specs.Failing.{faults_in}
use Rattle.cluster_core.specs.Seated.{IsBegunBy}
use Rattle.recovery.specs.declared.recovered.Recovered.{Recovered}
use Rattle.cluster_port.proofs.Begun.{begins_as}
use Rattle.cluster_port.specs.Failing.{HasFailed, NoneFell}
use Rattle.recovery.specs.declared.fault.RecoverFault.TheVariants as recovered
use Rattle.recovery.specs.declared.fault.RecoverFault.{RecoverFault}
use Rattle.repo_core.proofs.Unbegun.{err_failed, ok_fell}
use Rattle.repo_core.specs.Shown.{faults_of}
use Rattle.repo_core.specs.declared.OpenCause.TheVariants.{Failed as DiskFailed}
use Rattle.repo_opening.specs.declared.unopened.Unopened.TheVariants.{Failed}
use Rattle.std.proofs.Common.{Err, IsErrOf, ap, refl, subst, sym, ◌∙◌, ◌≡◌}
use Rattle.cluster_core.proofs.opening.open_known.Goals as goal

pub open-requires-clause-begins : goal.open-requires-clause-begins
open-requires-clause-begins g c =
    let run = g.O.Opening.run in
    let was = c.into_recovered-parts.result.1.state in
    let begun = subst (λ (r : Recovered). IsBegunBy run c.args.repos c.args.number r.state) (sym c.into_recovered-parts.ensures.same) c.requires in
    begins_as run c.args.number c.args.repos c.in-Ok.recovered.state
    (begun_moved run c.args.number c.args.repos was c.in-Ok.recovered.state c.in-Ok.ensures.stays c.in-Ok.ensures.limit begun)
    c.in-Ok.ensures.keeps

pub returns-in-Ok-clause-fell : goal.returns-in-Ok-clause-fell
returns-in-Ok-clause-fell g c =
    let disks = g.P.Parts.disks in
    let moved = goes_fell (disks c.into_recovered-parts.result.0) (disks c.migrate.new.parts) c.migrate.ensures.goes in
    c.of.ensures.fell (faults_in disks c.args.known.parts)
    (ok_fell c.open.result (faults_in disks c.args.known.parts) (disks c.migrate.new.parts).faults (λ site. faults_of site.shown) (subst (λ p. NoneFell (disks p).faults (disks c.migrate.new.parts).faults) c.into_recovered-parts.ensures.parts moved) c.open.ensures.fell)

pub returns-in-Ok-clause-failed : goal.returns-in-Ok-clause-failed
returns-in-Ok-clause-failed g c = λ r is.
    let disks = g.P.Parts.disks in
    let moved = goes_fell (disks c.into_recovered-parts.result.0) (disks c.migrate.new.parts) c.migrate.ensures.goes in
    c.of.ensures.failed (faults_in disks c.args.known.parts) r
    (err_failed c.open.result (faults_in disks c.args.known.parts) (disks c.migrate.new.parts).faults (λ fault. (disks fault.parts).faults) (λ fault. fault.cause ≡ DiskFailed) (subst (λ p. NoneFell (disks p).faults (disks c.migrate.new.parts).faults) c.into_recovered-parts.ensures.parts moved) c.open.ensures.failed) is

pub returns-in-Err-clause-failed : goal.returns-in-Err-clause-failed
returns-in-Err-clause-failed g c = λ r is.
    let disks = g.P.Parts.disks in
    let told : c.unmoved.result ≡ Failed r = same_err _ c.unmoved.result (Failed r) refl is in
    let by = c.unmoved.ensures r told in
    let wrong : IsErrOf c.migrate.result (recovered.Failed by.1.0) = c.in-Err.is ∙ ap (λ (f : RecoverFault). Err f) by.1.1.1 in
    (by.0, subst (λ p. HasFailed (disks p).faults (disks c.migrate.new.parts).faults) c.into_recovered-parts.ensures.parts (record { disk = by.1.0; within = by.1.1.0; rose = c.migrate.ensures.failed by.1.0 wrong }))
