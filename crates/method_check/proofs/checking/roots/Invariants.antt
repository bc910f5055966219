use Rattle.std.proofs.Common.{◌≡◌, take}
use Rattle.std.specs.List.{flat_map}
use Rattle.class_defs.specs.Rules.{least_with}
use Rattle.class_defs.specs.SchemaRules.{root_rules}
use Rattle.method_check.proofs.checking.roots.Given as goal

-- what those so far break
abbrev pub invariant-loop-root : goal.invariant-loop-root
invariant-loop-root l = l.found ≡ least_with l.fn.found (flat_map (root_rules l.classes l.repos) (take l.root-index l.roots))
