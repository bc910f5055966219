use Rattle.std.proofs.Common.{◌≡◌, [], take, drop}
use Rattle.class_defs.specs.Rules.{least_with}
use Rattle.class_defs.specs.UpgradeRules.{named_once}
use Rattle.ownership_check.proofs.Names.{said_names}
use Rattle.ownership_check.proofs.classes.named_once.Given as goal

-- the names to come break, beside what was found so far, what all break
abbrev pub invariant-loop-place : goal.invariant-loop-place
invariant-loop-place l =
    least_with l.found (named_once l.classes (said_names (take l.place l.said)) (said_names (drop l.place l.said)))
    ≡ least_with l.fn.found (named_once l.classes [] (said_names l.said))
