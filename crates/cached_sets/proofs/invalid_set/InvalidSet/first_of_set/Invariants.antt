use Rattle.cached_sets.proofs.Finding.{found}
use Rattle.cached_sets.proofs.invalid_set.InvalidSet.first_of_set.Given as goal
use Rattle.std.proofs.Common.{length, ◌+◌, ◌≡◌, ◌≤◌}

abbrev pub invariant-loop-oref : goal.invariant-loop-oref
invariant-loop-oref g l = record {
  -- the objects that are left decide
  left : found l.names l.upto l.oref-iterator ≡ found l.names l.upto l.self.pairs;
  cost : l.steps + length l.oref-iterator ≡ l.initial.steps + length l.self.pairs;
  rise : l.initial.steps ≤ l.steps;
}
