use Rattle.std.proofs.Common.{◌≡◌, None, take, fold}
use Rattle.schedule.specs.Breaks.{with_event}
use Rattle.schedule.proofs.checking.least_breach.Given as goal

-- the least line so far
abbrev pub invariant-loop-event : goal.invariant-loop-event
invariant-loop-event l = l.least ≡ fold (with_event l.clients l.repos) None (take l.event-index l.events)
