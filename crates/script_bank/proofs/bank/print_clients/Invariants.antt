use Rattle.std.proofs.Common.{◌≡◌, ◌++◌}
use Rattle.std.specs.String.{string_bytes}
use Rattle.script_bank.specs.Bank.{client_text, draws_before, lines, state}
use Rattle.script_bank.proofs.bank.print_clients.Given as goal

-- the clients so far, and the numbers drawn for them
abbrev pub invariant-loop-client : goal.invariant-loop-client
invariant-loop-client l =
    (string_bytes l.out ≡ string_bytes l.fn.out ++ lines (client_text l.n) l.client)
    × (l.numbers.state ≡ state l.n (draws_before l.n l.client 0))
