use Rattle.std.proofs.Common.{◌≡◌, map, take}
use Rattle.thor_value.specs.FiniteMap.{get}
use Rattle.class_defs.specs.Objects.{fitted_or_beginning}
use Rattle.class_defs.specs.Types.{type_named}
use Rattle.class_defs.specs.Upgrades.{tf_value}
use Rattle.lang_upgrade_eval.proofs.transforming.upgraded_fields.Given as goal

-- the values of the fields so far
abbrev pub invariant-loop-field : goal.invariant-loop-field
invariant-loop-field l = l.values ≡ map (λ f. fitted_or_beginning (type_named l.new f.type_name) (tf_value l.old (get l.objects) l.object f.value)) (take l.field-index l.fields)
