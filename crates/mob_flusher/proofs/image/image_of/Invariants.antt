use Rattle.page_store.specs.Objects.{HasObjects}
use Rattle.mob_flusher.specs.Images.{IsImageTo}
use Rattle.mob_flusher.proofs.image.image_of.Given as goal

abbrev pub invariant-loop-slot : goal.invariant-loop-slot
invariant-loop-slot l = IsImageTo l.mob.objects l.repo l.base l.image l.slot × HasObjects l.image
