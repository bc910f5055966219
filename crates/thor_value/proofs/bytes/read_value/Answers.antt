use Rattle.std.proofs.Common.{arith}
use Rattle.thor_value.specs.Spelling.{ValueFits, value_bytes}
use Rattle.thor_value.specs.Reading.{value_at}
use Rattle.thor_value.proofs.ReadClauses.{is_found, is_only, is_short, is_bad}
use Rattle.thor_value.proofs.Spellings.{exact_value}
use Rattle.thor_value.proofs.bytes.read_value.Goals as goal

pub returns-clause-found : goal.returns-clause-found
returns-clause-found c = is_found ValueFits value_bytes value_at exact_value c.args.bytes.now (λ i. omega (arith, c.type_inv.bytes i)) c.counted_value.result c.counted_value.ensures

pub returns-clause-only : goal.returns-clause-only
returns-clause-only c = is_only ValueFits value_bytes value_at exact_value c.args.bytes.now (λ i. omega (arith, c.type_inv.bytes i)) c.counted_value.result c.counted_value.ensures

pub returns-clause-short : goal.returns-clause-short
returns-clause-short c = is_short ValueFits value_bytes value_at exact_value c.args.bytes.now (λ i. omega (arith, c.type_inv.bytes i)) c.counted_value.result c.counted_value.ensures

pub returns-clause-bad_tag : goal.returns-clause-bad_tag
returns-clause-bad_tag c = is_bad ValueFits value_bytes value_at exact_value c.args.bytes.now (λ i. omega (arith, c.type_inv.bytes i)) c.counted_value.result c.counted_value.ensures
