use Rattle.cluster_core.proofs.cluster.Cluster.rounds.Given as goal
use Rattle.cluster_core.specs.Counts.{steps_of}
use Rattle.std.proofs.Common.{vec_len, ◌≡◌}

abbrev pub invariant-loop : goal.invariant-loop
invariant-loop g l = vec_len l.self.sites ≡ vec_len l.fn.self.sites

abbrev pub decreases-loop : goal.decreases-loop
decreases-loop g l = steps_of l.self
