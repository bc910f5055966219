use Rattle.std.proofs.Common.{◌≡◌, drop}
use Rattle.class_defs.specs.UpgradeRules.{path_type}
use Rattle.ownership_check.proofs.paths.path_type.Given as goal

-- the names to come lead on from here to where all lead
abbrev pub invariant-loop-name : goal.invariant-loop-name
invariant-loop-name l = path_type l.classes l.kind (drop l.name-index l.names) ≡ path_type l.classes l.fn.kind l.names
