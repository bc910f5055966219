use Rattle.thor_value.proofs.Exactness.{apart}
use Rattle.object_codec.specs.Spelling.{ObjFits, obj_bytes}
use Rattle.object_codec.specs.Reading.{obj_at}
use Rattle.object_codec.specs.declared.fault.ObjFault.TheVariants.{Short}
use Rattle.object_codec.proofs.Objects.{exact_obj}
use Rattle.object_codec.proofs.reading.objects_are_apart.Goals as goal

pub returns : goal.returns
returns c = apart ObjFits obj_bytes Short obj_at exact_obj
