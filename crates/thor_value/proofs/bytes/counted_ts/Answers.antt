use Rattle.std.proofs.Common.{arith}
use Rattle.thor_value.specs.Spelling.{TsFits, ts_bytes}
use Rattle.thor_value.specs.Reading.{ts_at}
use Rattle.thor_value.specs.declared.bytes.ReadFault.TheVariants.{Short}
use Rattle.thor_value.proofs.Exactness.{counted, no_longer}
use Rattle.thor_value.proofs.Spellings.{exact_ts}
use Rattle.thor_value.proofs.bytes.counted_ts.Goals as goal

pub overflow_sub-result : goal.overflow_sub-result
overflow_sub-result c = no_longer TsFits ts_bytes Short ts_at exact_ts c.args.bytes.now (c.in_ok-ts.ts, c.in_ok-ts.rest.now) (λ i. omega (arith, c.type_inv.bytes i)) c.in_ok-ts.ensures

pub returns : goal.returns
returns c = counted TsFits ts_bytes Short ts_at exact_ts c.args.bytes.now (c.in_ok-ts.ts, c.in_ok-ts.rest.now) (λ i. omega (arith, c.type_inv.bytes i)) c.in_ok-ts.ensures
