use Rattle.std.proofs.Common.{refl}
use Rattle.store_opening.proofs.Limits.{place_has}
use Rattle.store_opening.specs.Limits.{HasLifeAbove}
use Rattle.store_opening.proofs.found.is_life_above.Goals as goal

pub returns-then-has_life_above : goal.returns-then-has_life_above
returns-then-has_life_above g c = λ _ parts images seated reads.
    place_has g.P.Parts.disks (HasLifeAbove c.args.limit) c.args.places.now c.loop-place.place-index c.place-item.result
    (c.if-has_life_above.ensures refl) c.loop-place-test.true c.place-item.is parts images seated reads
