use Rattle.std.proofs.Common.{◌≡◌, Some, drop}
use Rattle.std.specs.Option.{option_copied}
use Rattle.thor_value.specs.FiniteMap.{get}
use Rattle.class_defs.specs.Upgrades.{path_value}
use Rattle.lang_upgrade_eval.specs.Paths.{path_from}
use Rattle.lang_upgrade_eval.proofs.field_values.path_value.Given as goal

-- the names to come lead from what was reached to what the whole path leads to
abbrev pub invariant-loop-name : goal.invariant-loop-name
invariant-loop-name l =
    path_from l.classes (get l.objects) l.value (option_copied l.reached) (drop l.name-index l.names) ≡ path_value l.classes (get l.objects) (Some l.object) l.names
