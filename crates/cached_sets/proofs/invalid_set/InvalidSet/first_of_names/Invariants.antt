use Rattle.cached_sets.proofs.invalid_set.InvalidSet.first_of_names.Given as goal
use Rattle.cached_sets.specs.Invalid.{first_stale}
use Rattle.std.proofs.Common.{drop, ◌+◌, ◌≡◌}

abbrev pub invariant-loop-name : goal.invariant-loop-name
invariant-loop-name g l = record {
  -- the names that are left decide
  left : first_stale l.self l.upto (drop l.name-index l.names) ≡ first_stale l.self l.upto l.names;
  cost : l.steps ≡ l.initial.steps + l.name-index;
}
