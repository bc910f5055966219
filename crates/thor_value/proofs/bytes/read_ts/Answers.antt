use Rattle.std.proofs.Common.{arith}
use Rattle.thor_value.specs.Spelling.{TsFits, ts_bytes}
use Rattle.thor_value.specs.Reading.{ts_at}
use Rattle.thor_value.proofs.ReadClauses.{is_found, is_only, is_short, is_bad}
use Rattle.thor_value.proofs.Spellings.{exact_ts}
use Rattle.thor_value.proofs.bytes.read_ts.Goals as goal

pub returns-clause-found : goal.returns-clause-found
returns-clause-found c = is_found TsFits ts_bytes ts_at exact_ts c.args.bytes.now (λ i. omega (arith, c.type_inv.bytes i)) c.counted_ts.result c.counted_ts.ensures

pub returns-clause-only : goal.returns-clause-only
returns-clause-only c = is_only TsFits ts_bytes ts_at exact_ts c.args.bytes.now (λ i. omega (arith, c.type_inv.bytes i)) c.counted_ts.result c.counted_ts.ensures

pub returns-clause-short : goal.returns-clause-short
returns-clause-short c = is_short TsFits ts_bytes ts_at exact_ts c.args.bytes.now (λ i. omega (arith, c.type_inv.bytes i)) c.counted_ts.result c.counted_ts.ensures

pub returns-clause-bad_tag : goal.returns-clause-bad_tag
returns-clause-bad_tag c = is_bad TsFits ts_bytes ts_at exact_ts c.args.bytes.now (λ i. omega (arith, c.type_inv.bytes i)) c.counted_ts.result c.counted_ts.ensures
