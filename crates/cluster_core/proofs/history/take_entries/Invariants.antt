use Rattle.cluster_core.specs.Committed.{take_entry}
use Rattle.std.proofs.Common.{drop, ◌≡◌}
use Rattle.std.specs.List.{fold}
use Rattle.cluster_core.proofs.history.take_entries.Given as goal

-- behind the entries to come it is as behind all
abbrev pub invariant-loop-entry : goal.invariant-loop-entry
invariant-loop-entry l = fold (take_entry l.repo) l.read (drop l.entry-index l.history) ≡ fold (take_entry l.repo) l.fn.read l.history
