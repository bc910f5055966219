use Rattle.cluster_core.specs.Failing.{faults_at}
use Rattle.cluster_port.specs.Failing.{HasFailed, NoneFell}
use Rattle.disk_trait.specs.Disks.{Disks}
use Rattle.repo_core.specs.Shown.{faults_of}
use Rattle.repo_core.specs.declared.OpenCause.TheVariants.{Failed as DiskFailed}
use Rattle.std.proofs.Common.{IfErr, IfOk, subst, ◌≡◌}
use Rattle.store_opening.proofs.Failing.{part_from}
use Rattle.cluster_core.proofs.opening.format_closed.Goals as goal

pub returns-in-Ok-clause-fell : goal.returns-in-Ok-clause-fell
returns-in-Ok-clause-fell g c =
    let disks = g.P.Parts.disks in
    c.of.ensures.fell (faults_at disks c.args.closed)
    (part_from disks (λ (d : Disks). IfOk c.format.result (λ site. NoneFell d.faults (faults_of site.shown))) c.args.closed c.in-Ok.settled c.in-Ok.ensures.part
    (subst (λ p. IfOk c.format.result (λ site. NoneFell (disks p).faults (faults_of site.shown))) c.into_parts.ensures.parts c.format.ensures.fell))

pub returns-in-Ok-clause-failed : goal.returns-in-Ok-clause-failed
returns-in-Ok-clause-failed g c = λ r is.
    let disks = g.P.Parts.disks in
    c.of.ensures.failed (faults_at disks c.args.closed) r
    (part_from disks (λ (d : Disks). IfErr c.format.result (λ fault. fault.cause ≡ DiskFailed → HasFailed d.faults (disks fault.parts).faults)) c.args.closed c.in-Ok.settled c.in-Ok.ensures.part
    (subst (λ p. IfErr c.format.result (λ fault. fault.cause ≡ DiskFailed → HasFailed (disks p).faults (disks fault.parts).faults)) c.into_parts.ensures.parts c.format.ensures.failed)) is
