use Rattle.cluster_core.specs.Counts.{parts_of}
use Rattle.std.proofs.Common.{◌≡◌}
use Rattle.cluster_core.proofs.playing.perform.Given as goal

-- no part is lost
abbrev pub invariant-loop-stretch : goal.invariant-loop-stretch
invariant-loop-stretch g l = parts_of l.cluster ≡ parts_of l.initial.cluster
