use Rattle.mob_flusher.proofs.ImagesKept.{not_kept_but, swapped_none, took}
use Rattle.mob_flusher.proofs.kept_images.KeptImages.take.Goals as goal

pub returns-then-not-has-clause-others : goal.returns-then-not-has-clause-others
returns-then-not-has-clause-others c = not_kept_but c.args.self.now c.args.page c.if-not-has.ensures

pub returns-clause-taken : goal.returns-clause-taken
returns-clause-taken c = took c.args.self.now c.args.page c.swap.result c.if-not-has.ensures c.swap.ensures.taken

pub returns-clause-others : goal.returns-clause-others
returns-clause-others c = swapped_none c.args.self.now c.swap.new.self c.args.page c.swap.ensures.here c.swap.ensures.others
