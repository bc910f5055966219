use Rattle.spec_trace.specs.Calls.{is_forgotten}
use Rattle.std.proofs.Common.{drop, ◌≡◌}
use Rattle.model_reading.specs.Items.{trace_of}
use Rattle.model_reading.proofs.forgotten.is_forgotten.Given as goal

-- what is left to look at decides
abbrev pub invariant-loop-item : goal.invariant-loop-item
invariant-loop-item l = is_forgotten (trace_of (drop l.item-index l.items)) l.tx ≡ is_forgotten (trace_of l.items) l.tx
