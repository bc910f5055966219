use Rattle.cluster_core.specs.Counts.{parts_of}
use Rattle.std.proofs.Common.{◌≡◌}
use Rattle.cluster_core.proofs.playing.perform_each.Given as goal

-- no part is lost
abbrev pub invariant-loop-event : goal.invariant-loop-event
invariant-loop-event g l = parts_of l.cluster ≡ parts_of l.initial.cluster
