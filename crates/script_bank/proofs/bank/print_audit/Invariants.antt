use Rattle.std.proofs.Common.{◌≡◌, ◌++◌, codes}
use Rattle.std.specs.String.{string_bytes}
use Rattle.script_bank.specs.Bank.{later_balance, lines}
use Rattle.script_bank.proofs.bank.print_audit.Given as goal

-- the balances so far
abbrev pub invariant-loop-i : goal.invariant-loop-i
invariant-loop-i l = string_bytes l.out ≡ string_bytes l.fn.out ++ (codes "tx { print a0.get()" ++ lines later_balance l.i)
