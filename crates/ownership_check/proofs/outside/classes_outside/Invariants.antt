use Rattle.std.proofs.Common.{◌≡◌, drop}
use Rattle.class_defs.specs.Rules.{least_with}
use Rattle.class_defs.specs.UpgradeOrder.{outside_class, over_classes}
use Rattle.ownership_check.proofs.outside.classes_outside.Given as goal

-- the classes to come break, beside what was found so far, what all break
abbrev pub invariant-loop-place : goal.invariant-loop-place
invariant-loop-place l =
    least_with l.found (over_classes (outside_class l.upgrade l.schema l.repos) l.place (drop l.place l.schema.classes))
    ≡ least_with l.fn.found (over_classes (outside_class l.upgrade l.schema l.repos) 0 l.schema.classes)
