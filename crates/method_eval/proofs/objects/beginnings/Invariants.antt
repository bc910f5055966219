use Rattle.std.proofs.Common.{◌≡◌, take, map}
use Rattle.class_defs.specs.Steps.{beginning}
use Rattle.class_defs.specs.Types.{type_named}
use Rattle.method_eval.proofs.objects.beginnings.Given as goal

abbrev pub invariant-loop-field : goal.invariant-loop-field
invariant-loop-field l = l.fields ≡ map (λ f. beginning (type_named l.program.schema.now.classes f.type_name)) (take l.field-index l.field-items)
