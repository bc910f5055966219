use Rattle.std.proofs.Common.{arith}
use Rattle.thor_value.specs.Spelling.{OrefFits, oref_bytes}
use Rattle.thor_value.specs.Reading.{oref_at}
use Rattle.thor_value.proofs.ReadClauses.{is_found, is_only, is_short, is_bad}
use Rattle.thor_value.proofs.Spellings.{exact_oref}
use Rattle.thor_value.proofs.bytes.read_oref.Goals as goal

pub returns-clause-found : goal.returns-clause-found
returns-clause-found c = is_found OrefFits oref_bytes oref_at exact_oref c.args.bytes.now (λ i. omega (arith, c.type_inv.bytes i)) c.counted_oref.result c.counted_oref.ensures

pub returns-clause-only : goal.returns-clause-only
returns-clause-only c = is_only OrefFits oref_bytes oref_at exact_oref c.args.bytes.now (λ i. omega (arith, c.type_inv.bytes i)) c.counted_oref.result c.counted_oref.ensures

pub returns-clause-short : goal.returns-clause-short
returns-clause-short c = is_short OrefFits oref_bytes oref_at exact_oref c.args.bytes.now (λ i. omega (arith, c.type_inv.bytes i)) c.counted_oref.result c.counted_oref.ensures

pub returns-clause-bad_tag : goal.returns-clause-bad_tag
returns-clause-bad_tag c = is_bad OrefFits oref_bytes oref_at exact_oref c.args.bytes.now (λ i. omega (arith, c.type_inv.bytes i)) c.counted_oref.result c.counted_oref.ensures
