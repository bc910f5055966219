use Rattle.cluster_core.proofs.cluster.Cluster.round.Given as goal
use Rattle.cluster_core.specs.Counts.{steps_of}
use Rattle.std.proofs.Common.{true, vec_len, ◌<◌, ◌≡◌}
use Rattle.std.specs.Prelude.{◌≤◌}

abbrev pub invariant-loop-place : goal.invariant-loop-place
invariant-loop-place g l = (vec_len l.self.sites ≡ vec_len l.fn.self.sites) × (steps_of l.self ≤ steps_of l.fn.self) × (l.moved ≡ true → steps_of l.self < steps_of l.fn.self)
