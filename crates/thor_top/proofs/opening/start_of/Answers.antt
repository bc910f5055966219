use Rattle.thor_top.proofs.opening.start_of.Goals as goal

pub roots_of-requires : goal.roots_of-requires
roots_of-requires c = c.requires.few 0
