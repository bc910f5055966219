use Rattle.cluster_core.proofs.Failing.{failed_then, ok_then}
use Rattle.cluster_core.proofs.Seating.{on_ok_of}
use Rattle.cluster_core.specs.Failing.{NoneFellOn, faults_at}
use Rattle.cluster_core.proofs.opening.format_found.Goals as goal

pub returns-clause-fell : goal.returns-clause-fell
returns-clause-fell g c =
    let disks = g.P.Parts.disks in
    let whole = ok_then disks (faults_at disks) c.format_all-seats.result.1 c.args.places.items c.seat_closed-2.result.items c.format_all-seats.result.0.items c.seat_closed-2.ensures.fell c.format_all-seats.ensures.fell in
    on_ok_of c.format_all-seats.result.1 c.with.result (NoneFellOn disks (faults_at disks) c.args.places.items c.format_all-seats.result.0.items) whole c.with.ensures.opened

pub returns-clause-failed : goal.returns-clause-failed
returns-clause-failed g c = λ r is.
    let disks = g.P.Parts.disks in
    failed_then disks (faults_at disks) c.args.places.items c.seat_closed-2.result.items c.format_all-seats.result.0.items r c.seat_closed-2.ensures.fell (c.format_all-seats.ensures.failed r (c.with.ensures.failed r is))
