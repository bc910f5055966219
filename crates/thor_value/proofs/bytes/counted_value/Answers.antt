use Rattle.std.proofs.Common.{arith}
use Rattle.thor_value.specs.Spelling.{ValueFits, value_bytes}
use Rattle.thor_value.specs.Reading.{value_at}
use Rattle.thor_value.specs.declared.bytes.ReadFault.TheVariants.{Short}
use Rattle.thor_value.proofs.Exactness.{counted, no_longer}
use Rattle.thor_value.proofs.Spellings.{exact_value}
use Rattle.thor_value.proofs.bytes.counted_value.Goals as goal

pub overflow_sub-result : goal.overflow_sub-result
overflow_sub-result c = no_longer ValueFits value_bytes Short value_at exact_value c.args.bytes.now (c.in-Ok.value, c.in-Ok.rest.now) (λ i. omega (arith, c.type_inv.bytes i)) c.in-Ok.ensures

pub returns-in-Ok : goal.returns-in-Ok
returns-in-Ok c = counted ValueFits value_bytes Short value_at exact_value c.args.bytes.now (c.in-Ok.value, c.in-Ok.rest.now) (λ i. omega (arith, c.type_inv.bytes i)) c.in-Ok.ensures
