use Rattle.cluster_core.proofs.Failing.{none_opened}
use Rattle.cluster_core.proofs.Seating.{length_more, none_placed, open_left, placed_next, seated_left}
use Rattle.cluster_core.specs.Failing.{IsSite}
use Rattle.cluster_core.specs.Seated.{AreOpen, AreSeated}
use Rattle.std.proofs.Common.{arith, length, subst, sym, ℕ, ◌≡◌}
use Rattle.std.specs.Vec.Iter.{into_iter_items}
use Rattle.store_opening.proofs.Places.{next_one, none_left, zip_all, zip_more}
use Rattle.cluster_core.proofs.seat.take_all.Goals as goal

pub loop-seat-init : goal.loop-seat-init
loop-seat-init g c =
    let all = c.into_iter-seat-iterator.ensures.into_iter_gives in
    let none : length c.args.room.items ≡ 0 = omega (arith, c.requires.empty, c.args.room.ok.0) in (
      omega (arith, c.requires.empty),
      omega (arith, c.requires.empty, c.requires.room, all.1),
      none_placed c.args.room.items none,
      subst (λ (n : ℕ). AreSeated n (into_iter_items c.into_iter-seat-iterator.result)) (sym none) (subst (AreSeated 0) (sym all.0) c.requires.seated),
      subst AreOpen (sym all.0) c.requires.open,
      all.0,
      none_opened c.args.seats.items c.args.room.items none,
    )

pub loop-seat-preserved : goal.loop-seat-preserved
loop-seat-preserved g c =
    let inv = c.loop-seat.invariant in
    let next = c.in-Some.ensures.steps in
    let more = length_more c.loop-seat.sites.items c.push_reserved.new.self.items c.take.result c.push_reserved.ensures.items in (
      omega (arith, inv.0, next.1, c.push_reserved.ensures.len),
      omega (arith, inv.1, next.1, c.push_reserved.ensures.len, c.push_reserved.ensures.capacity),
      placed_next c.loop-seat.sites.items c.push_reserved.new.self.items c.take.result c.push_reserved.ensures.items (omega (arith, c.take.ensures.number, c.len-place.ensures, c.loop-seat.sites.ok.0)) inv.2,
      seated_left _ _ (into_iter_items c.loop-seat.seat-iterator) (into_iter_items c.next.new.self) c.in-Some.seat next.0 more inv.3,
      open_left (into_iter_items c.loop-seat.seat-iterator) (into_iter_items c.next.new.self) c.in-Some.seat next.0 inv.4,
      next_one c.loop-seat.yielded (into_iter_items c.loop-seat.seat-iterator) (into_iter_items c.next.new.self) c.args.seats.items c.in-Some.seat inv.5 next.0,
      zip_more IsSite c.loop-seat.yielded c.loop-seat.sites.items c.push_reserved.new.self.items c.in-Some.seat c.take.result c.push_reserved.ensures.items inv.6 c.take.ensures.same,
    )

pub returns-clause-same : goal.returns-clause-same
returns-clause-same g c =
    let inv = c.loop-seat.invariant in
    zip_all IsSite c.loop-seat.yielded (into_iter_items c.loop-seat.seat-iterator) c.args.seats.items c.loop-seat.sites.items inv.5 (none_left c.loop-seat.seat-iterator c.next.new.self c.in-None.ensures.steps) inv.6
