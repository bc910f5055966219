use Rattle.std.proofs.Common.{arith}
use Rattle.log_codec.specs.Grammar.{body_format}
use Rattle.log_codec.proofs.Grammars.{exact_body}
use Rattle.log_codec.proofs.WholeLaws.{is_found, is_not_one, is_not_one_only, is_only}
use Rattle.log_codec.proofs.bodies.read_body.Goals as goal

pub returns-clause-found : goal.returns-clause-found
returns-clause-found c = is_found body_format exact_body c.args.bytes.now (λ i. omega (arith, c.type_inv.bytes i)) c.read_whole.result c.read_whole.ensures

pub returns-clause-only : goal.returns-clause-only
returns-clause-only c = is_only body_format exact_body c.args.bytes.now (λ i. omega (arith, c.type_inv.bytes i)) c.read_whole.result c.read_whole.ensures

pub returns-clause-not_one : goal.returns-clause-not_one
returns-clause-not_one c = is_not_one body_format exact_body c.args.bytes.now (λ i. omega (arith, c.type_inv.bytes i)) c.read_whole.result c.read_whole.ensures

pub returns-clause-not_one_only : goal.returns-clause-not_one_only
returns-clause-not_one_only c = is_not_one_only body_format exact_body c.args.bytes.now (λ i. omega (arith, c.type_inv.bytes i)) c.read_whole.result c.read_whole.ensures
