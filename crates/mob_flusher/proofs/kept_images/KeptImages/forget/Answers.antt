use Rattle.mob_flusher.proofs.ImagesKept.{swapped_none}
use Rattle.mob_flusher.proofs.kept_images.KeptImages.forget.Goals as goal

pub returns : goal.returns
returns c = swapped_none c.args.self.now c.swap.new.self c.args.page c.swap.ensures.here c.swap.ensures.others
