use Rattle.std.proofs.Common.{drop, map, ◌≡◌}
use Rattle.thor_value.specs.FiniteMap.{overwrite}
use Rattle.model_reading.specs.Tables.{names_in}
use Rattle.repo_refusals.specs.Refusals.{set_of}
use Rattle.model_reading.proofs.names.set_of.Given as goal

-- what is left comes in
abbrev pub invariant-loop-name : goal.invariant-loop-name
invariant-loop-name l = overwrite (names_in l.set) (map (λ x. (x, tt)) (drop l.name-index l.names)) ≡ set_of l.names
