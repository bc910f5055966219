use Rattle.cluster_core.specs.Committed.{take_traces}
use Rattle.std.proofs.Common.{drop, ◌≡◌}
use Rattle.cluster_core.proofs.history.take_traces.Given as goal

-- behind the traces to come it is as behind all
abbrev pub invariant-loop-place : goal.invariant-loop-place
invariant-loop-place l = take_traces l.place l.read (drop l.place l.traces) ≡ take_traces 0 l.fn.read l.traces
