use Rattle.repo_sessions.proofs.telling.note_all.Given as goal
use Rattle.repo_sessions.specs.Noting.{noted_at, silent_at}
use Rattle.std.proofs.Common.{◌++◌, ◌≡◌}
use Rattle.std.specs.Map.{keys_of}

-- the sessions that are left lead to the same
abbrev pub invariant-loop-session : goal.invariant-loop-session
invariant-loop-session g l = record {
  cached : l.sets.cached ≡ l.fn.sets.cached;
  invalid : l.sets.invalid ≡ l.fn.sets.invalid;
  noted : noted_at l.sets.noted l.session-iterator l.place ≡ noted_at l.fn.sets.noted (keys_of l.fn.sessions.entries) l.place;
  silent : l.silent.items ++ silent_at l.sets.noted l.session-iterator l.place ≡ silent_at l.fn.sets.noted (keys_of l.fn.sessions.entries) l.place;
}
