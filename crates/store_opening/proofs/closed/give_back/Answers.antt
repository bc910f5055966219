use Rattle.store_opening.proofs.Places.{next_one, none_left, zip_all, zip_more}
use Rattle.store_opening.proofs.closed.give_back.Goals as goal
use Rattle.store_opening.specs.Seated.{Gives, HasPart}
use Rattle.std.proofs.Common.{arith}
use Rattle.std.specs.Vec.Iter.{into_iter_items}

pub loop-place-preserved : goal.loop-place-preserved
loop-place-preserved g c =
    let inv = c.loop-place.invariant in
    let next = c.in-Some.ensures.steps in (
      omega (arith, inv.0, next.1, c.push_reserved.ensures.len),
      omega (arith, inv.1, next.1, c.push_reserved.ensures.len, c.push_reserved.ensures.capacity),
      next_one c.loop-place.yielded (into_iter_items c.loop-place.place-iterator) (into_iter_items c.next.new.self) c.args.places.items c.in-Some.place inv.2 next.0,
      zip_more (Gives g.P.Parts.disks) c.loop-place.yielded c.loop-place.parts.items c.push_reserved.new.self.items c.in-Some.place c.into_parts.result c.push_reserved.ensures.items inv.3 c.into_parts.ensures.gives,
      zip_more HasPart c.loop-place.yielded c.loop-place.parts.items c.push_reserved.new.self.items c.in-Some.place c.into_parts.result c.push_reserved.ensures.items inv.4 c.into_parts.ensures.part,
    )

pub returns-clause-gives : goal.returns-clause-gives
returns-clause-gives g c =
    let inv = c.loop-place.invariant in
    zip_all (Gives g.P.Parts.disks) c.loop-place.yielded (into_iter_items c.loop-place.place-iterator) c.args.places.items c.loop-place.parts.items inv.2 (none_left c.loop-place.place-iterator c.next.new.self c.in-None.ensures.steps) inv.3

pub returns-clause-parts : goal.returns-clause-parts
returns-clause-parts g c =
    let inv = c.loop-place.invariant in
    zip_all HasPart c.loop-place.yielded (into_iter_items c.loop-place.place-iterator) c.args.places.items c.loop-place.parts.items inv.2 (none_left c.loop-place.place-iterator c.next.new.self c.in-None.ensures.steps) inv.4
