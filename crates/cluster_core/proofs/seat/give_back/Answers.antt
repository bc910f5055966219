use Rattle.cluster_core.proofs.Failing.{none_given}
use Rattle.cluster_core.specs.Failing.{GivesPart}
use Rattle.std.proofs.Common.{arith, length, ℕ, ◌≡◌}
use Rattle.std.specs.Vec.Iter.{into_iter_items}
use Rattle.store_opening.proofs.Places.{next_one, none_left, zip_all, zip_more}
use Rattle.cluster_core.proofs.seat.give_back.Goals as goal

pub loop-seat-init : goal.loop-seat-init
loop-seat-init g c =
    let all = c.into_iter-seat-iterator.ensures.into_iter_gives in
    let none : length c.args.spare.items ≡ 0 = omega (arith, c.requires.empty, c.args.spare.ok.0) in (
      omega (arith, c.requires.empty),
      omega (arith, c.requires.empty, c.requires.room, all.1),
      all.0,
      none_given c.args.seats.items c.args.spare.items none,
    )

pub loop-seat-preserved : goal.loop-seat-preserved
loop-seat-preserved g c =
    let inv = c.loop-seat.invariant in
    let next = c.in-Some.ensures.steps in (
      omega (arith, inv.0, next.1, c.push_reserved.ensures.len),
      omega (arith, inv.1, next.1, c.push_reserved.ensures.len, c.push_reserved.ensures.capacity),
      next_one c.loop-seat.yielded (into_iter_items c.loop-seat.seat-iterator) (into_iter_items c.next.new.self) c.args.seats.items c.in-Some.seat inv.2 next.0,
      zip_more GivesPart c.loop-seat.yielded c.loop-seat.parts.items c.push_reserved.new.self.items c.in-Some.seat c.into_parts.result c.push_reserved.ensures.items inv.3 c.into_parts.ensures,
    )

pub returns-clause-gives : goal.returns-clause-gives
returns-clause-gives g c =
    let inv = c.loop-seat.invariant in
    zip_all GivesPart c.loop-seat.yielded (into_iter_items c.loop-seat.seat-iterator) c.args.seats.items c.loop-seat.parts.items inv.2 (none_left c.loop-seat.seat-iterator c.next.new.self c.in-None.ensures.steps) inv.3
