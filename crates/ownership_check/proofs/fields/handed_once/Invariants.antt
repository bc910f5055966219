use Rattle.std.proofs.Common.{◌≡◌, [], drop}
use Rattle.class_defs.specs.Rules.{least_with}
use Rattle.class_defs.specs.UpgradeRules.{handed_once}
use Rattle.ownership_check.proofs.fields.handed_once.Given as goal

-- the fields to come break, beside what was found so far, what all break
abbrev pub invariant-loop-field : goal.invariant-loop-field
invariant-loop-field l =
    least_with l.found (handed_once l.classes l.class l.earlier (drop l.field-index l.fields)) ≡ least_with l.fn.found (handed_once l.classes l.class [] l.fields)
