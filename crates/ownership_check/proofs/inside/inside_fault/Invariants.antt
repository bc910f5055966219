use Rattle.std.proofs.Common.{◌≡◌, drop}
use Rattle.class_defs.specs.Rules.{least, least_with}
use Rattle.class_defs.specs.UpgradeOrder.{inside_class, over_classes}
use Rattle.ownership_check.proofs.inside.inside_fault.Given as goal

-- the classes to come break, beside what was found so far, what all break
abbrev pub invariant-loop-place : goal.invariant-loop-place
invariant-loop-place l =
    least_with l.found (over_classes (inside_class l.upgrade l.schema l.repos) l.place (drop l.place l.schema.classes))
    ≡ least (over_classes (inside_class l.upgrade l.schema l.repos) 0 l.schema.classes)
