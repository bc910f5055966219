use Rattle.client_state.proofs.phase.Phase.first_read.Given as goal
use Rattle.client_state.specs.Reading.{phase_reads}
use Rattle.std.proofs.Common.{drop, ◌≡◌}
use Rattle.std.specs.List.{list_any}

-- none so far was read
abbrev pub invariant-loop-oref : goal.invariant-loop-oref
invariant-loop-oref l = list_any (phase_reads l.fn.self) (drop l.oref-index l.oref-items) ≡ list_any (phase_reads l.fn.self) l.fn.orefs
