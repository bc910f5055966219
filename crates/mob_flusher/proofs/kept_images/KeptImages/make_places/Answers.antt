use Rattle.mob_flusher.proofs.ImagesKept.{none_in}
use Rattle.mob_flusher.proofs.kept_images.KeptImages.make_places.Goals as goal

pub returns : goal.returns
returns c = λ page image here. absurd (none_in c.in_ok-no_images.field-0.items c.in_ok-no_images.ensures page image (rw c.replace.ensures.after at here))
