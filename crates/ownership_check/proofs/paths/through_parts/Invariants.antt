use Rattle.std.proofs.Common.{◌≡◌, ◌&&◌, drop}
use Rattle.class_defs.specs.UpgradeRules.{goes_through_parts}
use Rattle.ownership_check.proofs.paths.through_parts.Given as goal

-- the names so far and those to come go through parts where all do
abbrev pub invariant-loop-place : goal.invariant-loop-place
invariant-loop-place l =
    (l.goes && goes_through_parts l.classes l.kind (drop l.place l.names)) ≡ goes_through_parts l.classes l.fn.kind l.names
