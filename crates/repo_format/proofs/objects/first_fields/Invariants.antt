use Rattle.class_defs.specs.Steps.{beginning}
use Rattle.class_defs.specs.Types.{type_named}
use Rattle.std.proofs.Common.{length, map, take, ◌≡◌}
use Rattle.std.specs.List.{AllByRecursion}
use Rattle.repo_format.proofs.objects.first_fields.Given as goal
use Rattle.thor_value.specs.Spelling.{ValueFits}

-- the value with which each field so far begins
abbrev pub invariant-loop-field : goal.invariant-loop-field
invariant-loop-field l =
    (length l.fields ≡ l.field-index) × AllByRecursion ValueFits l.fields × (l.fields ≡ map (λ f. beginning (type_named l.classes f.type_name)) (take l.field-index l.declared))
