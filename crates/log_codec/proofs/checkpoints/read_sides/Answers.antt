use Rattle.std.proofs.Common.{arith}
use Rattle.log_codec.proofs.CheckpointLaws.{exact_pairs}
use Rattle.log_codec.proofs.checkpoints.read_sides.Goals as goal

pub sides_of-requires : goal.sides_of-requires
sides_of-requires c = (exact_pairs.found c.args.bytes.now (c.in_ok-pairs.pairs, c.in_ok-pairs.rest.now) (λ i. omega (arith, c.type_inv.bytes i)) c.in_ok-pairs.ensures).0
