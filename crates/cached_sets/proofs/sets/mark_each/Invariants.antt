use Rattle.cached_sets.proofs.sets.mark_each.Given as goal
use Rattle.cached_sets.specs.Invalid.{Invalids}
use Rattle.cached_sets.specs.Sets.{marked, others, told_of}
use Rattle.cached_sets.specs.Undoing.{undo}
use Rattle.std.proofs.Common.{drop, length, map, ◌+◌, ◌++◌, ◌≡◌, ◌≤◌}

abbrev pub invariant-loop-session : goal.invariant-loop-session
invariant-loop-session g l = record {
  -- the marks that are left lead to the same
  left : marked l.invalid (others l.writer l.oref (drop l.session-index l.sessions)) l.place
      ≡ marked l.initial.invalid (others l.writer l.oref l.sessions) l.place;
  told : map told_of l.done.items ++ others l.writer l.oref (drop l.session-index l.sessions)
      ≡ map told_of l.initial.done.items ++ others l.writer l.oref l.sessions;
  undone : (N : Invalids) → undo l.initial.invalid l.initial.done.items ≡ N → undo l.invalid l.done.items ≡ N;
  -- the sessions that are left lead to as many steps
  cost : l.steps + length (drop l.session-index l.sessions) ≡ l.initial.steps + length l.sessions;
  marks : length l.done.items + l.initial.steps ≤ length l.initial.done.items + l.steps;
}
