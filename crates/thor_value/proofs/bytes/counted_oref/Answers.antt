use Rattle.std.proofs.Common.{arith}
use Rattle.thor_value.specs.Spelling.{OrefFits, oref_bytes}
use Rattle.thor_value.specs.Reading.{oref_at}
use Rattle.thor_value.specs.declared.bytes.ReadFault.TheVariants.{Short}
use Rattle.thor_value.proofs.Exactness.{counted, no_longer}
use Rattle.thor_value.proofs.Spellings.{exact_oref}
use Rattle.thor_value.proofs.bytes.counted_oref.Goals as goal

pub overflow_sub-result : goal.overflow_sub-result
overflow_sub-result c = no_longer OrefFits oref_bytes Short oref_at exact_oref c.args.bytes.now (c.in_ok-oref.oref, c.in_ok-oref.rest.now) (λ i. omega (arith, c.type_inv.bytes i)) c.in_ok-oref.ensures

pub returns : goal.returns
returns c = counted OrefFits oref_bytes Short oref_at exact_oref c.args.bytes.now (c.in_ok-oref.oref, c.in_ok-oref.rest.now) (λ i. omega (arith, c.type_inv.bytes i)) c.in_ok-oref.ensures
