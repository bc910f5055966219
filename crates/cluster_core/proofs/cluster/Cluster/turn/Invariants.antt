use Rattle.std.proofs.Common.{vec_len}
use Rattle.cluster_core.proofs.cluster.Cluster.turn.Given as goal

abbrev pub ghosts-lend : goal.ghosts-lend
ghosts-lend g a = record { count = vec_len a.sites }
