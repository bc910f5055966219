use Rattle.std.proofs.Common.{arith}
use Rattle.log_codec.specs.Checkpoint.{state_format}
use Rattle.log_codec.proofs.CheckpointLaws.{exact_state}
use Rattle.log_codec.proofs.WholeLaws.{is_found, is_not_one, is_not_one_only, is_only}
use Rattle.log_codec.proofs.checkpoints.read_state.Goals as goal

pub returns-clause-found : goal.returns-clause-found
returns-clause-found c = is_found state_format exact_state c.args.bytes.now (λ i. omega (arith, c.type_inv.bytes i)) c.read_whole.result c.read_whole.ensures

pub returns-clause-only : goal.returns-clause-only
returns-clause-only c = is_only state_format exact_state c.args.bytes.now (λ i. omega (arith, c.type_inv.bytes i)) c.read_whole.result c.read_whole.ensures

pub returns-clause-not_one : goal.returns-clause-not_one
returns-clause-not_one c = is_not_one state_format exact_state c.args.bytes.now (λ i. omega (arith, c.type_inv.bytes i)) c.read_whole.result c.read_whole.ensures

pub returns-clause-not_one_only : goal.returns-clause-not_one_only
returns-clause-not_one_only c = is_not_one_only state_format exact_state c.args.bytes.now (λ i. omega (arith, c.type_inv.bytes i)) c.read_whole.result c.read_whole.ensures
