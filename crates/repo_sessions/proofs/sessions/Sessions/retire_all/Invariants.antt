use Rattle.repo_sessions.proofs.sessions.Sessions.retire_all.Given as goal
use Rattle.repo_sessions.specs.Sessions.{KeepsNumbers, retire}
use Rattle.std.proofs.Common.{◌≡◌}
use Rattle.std.specs.List.{fold}
use Rattle.std.specs.Vec.Iter.{into_iter_items}

-- the sessions that are left lead to the same
abbrev pub invariant-loop-session : goal.invariant-loop-session
invariant-loop-session l = record {
  numbers : KeepsNumbers l.fn.self l.self;
  rest : fold retire l.self (into_iter_items l.session-iterator) ≡ fold retire l.fn.self l.fn.silent.items;
}
