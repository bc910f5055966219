use Rattle.std.proofs.Common.{arith}
use Rattle.object_codec.proofs.Clauses.{is_found, is_only, is_short, is_short_only, is_large, is_large_only, is_bad, is_bad_only}
use Rattle.object_codec.proofs.reading.read_obj.Goals as goal

pub returns-clause-found : goal.returns-clause-found
returns-clause-found c = is_found c.args.bytes.now (λ i. omega (arith, c.type_inv.bytes i)) c.counted_obj.result c.counted_obj.ensures

pub returns-clause-only : goal.returns-clause-only
returns-clause-only c = is_only c.args.bytes.now (λ i. omega (arith, c.type_inv.bytes i)) c.counted_obj.result c.counted_obj.ensures

pub returns-clause-short : goal.returns-clause-short
returns-clause-short c = is_short c.args.bytes.now (λ i. omega (arith, c.type_inv.bytes i)) c.counted_obj.result c.counted_obj.ensures

pub returns-clause-short_only : goal.returns-clause-short_only
returns-clause-short_only c = is_short_only c.args.bytes.now (λ i. omega (arith, c.type_inv.bytes i)) c.counted_obj.result c.counted_obj.ensures

pub returns-clause-too_large : goal.returns-clause-too_large
returns-clause-too_large c = is_large c.args.bytes.now (λ i. omega (arith, c.type_inv.bytes i)) c.counted_obj.result c.counted_obj.ensures

pub returns-clause-too_large_only : goal.returns-clause-too_large_only
returns-clause-too_large_only c = is_large_only c.args.bytes.now (λ i. omega (arith, c.type_inv.bytes i)) c.counted_obj.result c.counted_obj.ensures

pub returns-clause-bad_tag : goal.returns-clause-bad_tag
returns-clause-bad_tag c = is_bad c.args.bytes.now (λ i. omega (arith, c.type_inv.bytes i)) c.counted_obj.result c.counted_obj.ensures

pub returns-clause-bad_tag_only : goal.returns-clause-bad_tag_only
returns-clause-bad_tag_only c = is_bad_only c.args.bytes.now (λ i. omega (arith, c.type_inv.bytes i)) c.counted_obj.result c.counted_obj.ensures
