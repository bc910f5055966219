use Rattle.cluster_core.proofs.Failing.{NoFall, none_fell}
use Rattle.cluster_core.proofs.Seating.{none_seated, seated_next}
use Rattle.cluster_core.specs.Failing.{faults_at}
use Rattle.repo_core.proofs.DiskFaults.{fell_none}
use Rattle.std.proofs.Common.{arith}
use Rattle.std.specs.Vec.Iter.{into_iter_items}
use Rattle.store_opening.proofs.Places.{next_one, none_left, zip_all, zip_more}
use Rattle.cluster_core.proofs.opening.seat_closed.Goals as goal

pub loop-closed-init : goal.loop-closed-init
loop-closed-init g c = (
  omega (arith, c.requires.empty),
  omega (arith, c.requires.empty, c.requires.room),
  none_seated 0 c.args.room.items (omega (arith, c.requires.empty, c.args.room.ok.0)),
  c.into_iter-closed-iterator.ensures.into_iter_gives.0,
  none_fell g.P.Parts.disks (faults_at g.P.Parts.disks) c.args.room.items (omega (arith, c.requires.empty, c.args.room.ok.0)),
)

pub loop-closed-preserved : goal.loop-closed-preserved
loop-closed-preserved g c =
    let inv = c.loop-closed.invariant in
    let next = c.in-Some.ensures.steps in (
      omega (arith, inv.0, next.1, c.push_reserved.ensures.len),
      omega (arith, inv.1, next.1, c.push_reserved.ensures.len, c.push_reserved.ensures.capacity),
      seated_next c.loop-closed.seats.items c.push_reserved.new.self.items _ c.push_reserved.ensures.items inv.2 tt,
      next_one c.loop-closed.yielded (into_iter_items c.loop-closed.closed-iterator) (into_iter_items c.next.new.self) c.args.places.items c.in-Some.closed inv.3 next.0,
      zip_more (NoFall g.P.Parts.disks (faults_at g.P.Parts.disks)) c.loop-closed.yielded c.loop-closed.seats.items c.push_reserved.new.self.items c.in-Some.closed _ c.push_reserved.ensures.items inv.4 (fell_none (faults_at g.P.Parts.disks c.in-Some.closed)),
    )

pub returns-clause-fell : goal.returns-clause-fell
returns-clause-fell g c =
    let inv = c.loop-closed.invariant in
    zip_all (NoFall g.P.Parts.disks (faults_at g.P.Parts.disks)) c.loop-closed.yielded (into_iter_items c.loop-closed.closed-iterator) c.args.places.items c.loop-closed.seats.items inv.3 (none_left c.loop-closed.closed-iterator c.next.new.self c.in-None.ensures.steps) inv.4
