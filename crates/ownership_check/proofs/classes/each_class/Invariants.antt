use Rattle.std.proofs.Common.{◌≡◌, take}
use Rattle.std.specs.List.{flat_map}
use Rattle.class_defs.specs.Rules.{least_with}
use Rattle.class_defs.specs.UpgradeRules.{class_upgrade_rules}
use Rattle.ownership_check.proofs.classes.each_class.Given as goal

-- what those so far break
abbrev pub invariant-loop-class : goal.invariant-loop-class
invariant-loop-class l = l.found ≡ least_with l.fn.found (flat_map (class_upgrade_rules l.classes) (take l.class-index l.said))
