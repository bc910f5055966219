use Rattle.repo_sessions.proofs.telling.send_names.Given as goal
use Rattle.repo_sessions.specs.Noting.{names_sent}
use Rattle.std.proofs.Common.{◌≡◌}

-- the names that are left lead to the same
abbrev pub invariant-loop-session : goal.invariant-loop-session
invariant-loop-session l = names_sent l.outbox l.session-iterator l.place ≡ names_sent l.fn.outbox l.fn.holders.entries l.fn.place
