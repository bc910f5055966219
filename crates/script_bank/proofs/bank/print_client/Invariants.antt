use Rattle.std.proofs.Common.{◌≡◌, ◌++◌, ◌∷◌, ◌+◌, codes}
use Rattle.std.specs.String.{string_bytes}
use Rattle.std.specs.Fmt.{decimal}
use Rattle.script_bank.specs.Bank.{draws_before, item_line, lines, state}
use Rattle.script_bank.proofs.bank.print_client.Given as goal

-- the items so far, and the numbers drawn for them
abbrev pub invariant-loop-place : goal.invariant-loop-place
invariant-loop-place l =
    (string_bytes l.out ≡ string_bytes l.fn.out ++ (codes "client " ++ (decimal (l.client + 1) ++ (10 ∷ lines (item_line l.n l.client) l.place))))
    × (l.numbers.state ≡ state l.n (draws_before l.n l.client l.place))
