use Rattle.std.proofs.Common.{vec_len, ◌≡◌}
use Rattle.cluster_core.proofs.cluster.Cluster.drain.Given as goal

abbrev pub invariant-loop-place : goal.invariant-loop-place
invariant-loop-place g l = vec_len l.self.sites ≡ vec_len l.fn.self.sites
