use Rattle.repo_sessions.proofs.telling.send_upgrade.Given as goal
use Rattle.repo_sessions.specs.Noting.{upgrade_sent}
use Rattle.std.proofs.Common.{◌≡◌}

-- the sessions that are left lead to the same
abbrev pub invariant-loop-session : goal.invariant-loop-session
invariant-loop-session l = upgrade_sent l.outbox l.session-iterator l.number l.text l.place ≡ upgrade_sent l.fn.outbox l.fn.sessions.entries l.fn.number l.fn.text l.fn.place
