use Rattle.std.proofs.Common.{◌≡◌, ◌++◌, codes}
use Rattle.std.specs.String.{string_bytes}
use Rattle.script_bank.specs.Bank.{class_line, lines, root_line}
use Rattle.script_bank.proofs.bank.print_store.Given as goal

-- the roots so far
abbrev pub invariant-loop-i : goal.invariant-loop-i
invariant-loop-i l = string_bytes l.out ≡ string_bytes l.fn.out ++ (codes "setup\n" ++ (class_line ++ lines (root_line l.repos) l.i))
