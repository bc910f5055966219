use Rattle.std.proofs.Common.{◌≡◌, ◌++◌, ◌+◌, ◌-◌, ◌/◌}
use Rattle.std.specs.String.{string_bytes}
use Rattle.script_bank.specs.Bank.{event_count, event_line, lines, state}
use Rattle.script_bank.proofs.bank.print_events.Given as goal

-- the events so far, and the numbers drawn for them
abbrev pub invariant-loop-event : goal.invariant-loop-event
invariant-loop-event l =
    (string_bytes l.out ≡ string_bytes l.fn.out ++ lines (event_line l.n l.repos) l.event)
    × (l.numbers.state ≡ state l.n (event_count l.n + (l.event - l.event / 50)))
