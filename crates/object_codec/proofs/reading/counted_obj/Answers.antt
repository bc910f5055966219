use Rattle.std.proofs.Common.{arith}
use Rattle.thor_value.proofs.Exactness.{counted, no_longer}
use Rattle.object_codec.specs.Spelling.{ObjFits, obj_bytes}
use Rattle.object_codec.specs.Reading.{obj_at}
use Rattle.object_codec.specs.declared.fault.ObjFault.TheVariants.{Short}
use Rattle.object_codec.proofs.Objects.{exact_obj}
use Rattle.object_codec.proofs.reading.counted_obj.Goals as goal

pub overflow_sub-result : goal.overflow_sub-result
overflow_sub-result c = no_longer ObjFits obj_bytes Short obj_at exact_obj c.args.bytes.now (c.in_ok-obj.obj, c.in_ok-obj.rest.now) (λ i. omega (arith, c.type_inv.bytes i)) c.in_ok-obj.ensures

pub returns : goal.returns
returns c = counted ObjFits obj_bytes Short obj_at exact_obj c.args.bytes.now (c.in_ok-obj.obj, c.in_ok-obj.rest.now) (λ i. omega (arith, c.type_inv.bytes i)) c.in_ok-obj.ensures
