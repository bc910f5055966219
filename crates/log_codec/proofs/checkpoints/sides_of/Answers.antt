use Rattle.log_codec.proofs.CheckpointLaws.{tested_sides}
use Rattle.log_codec.proofs.checkpoints.sides_of.Goals as goal

pub returns : goal.returns
returns c = tested_sides c.args.pairs c.requires c.from_pairs.result c.from_pairs.ensures.found c.from_pairs.ensures.fit
