use Rattle.std.proofs.Common.{◌≡◌, refl}
use Rattle.page_format.specs.Pages.{Contents}
use Rattle.page_store.specs.Objects.{HasObjects}
use Rattle.mob_flusher.proofs.ImagesKept.{kept_or_this, this_one}
use Rattle.mob_flusher.proofs.kept_images.KeptImages.keep.Goals as goal

pub swap-requires-clause-objects : goal.swap-requires-clause-objects
swap-requires-clause-objects c = λ w is. this_one HasObjects c.args.image w c.requires is

pub swap-requires-clause-number : goal.swap-requires-clause-number
swap-requires-clause-number c = λ w is. rw c.number-page.ensures (this_one (λ (d : Contents). d.number ≡ c.args.image.number) c.args.image w refl is)

pub returns : goal.returns
returns c = kept_or_this c.args.self.now c.make_places.new.self c.swap.new.self c.args.image c.make_places.ensures (rw c.number-page.ensures at c.swap.ensures.here) (rw c.number-page.ensures at c.swap.ensures.others)
