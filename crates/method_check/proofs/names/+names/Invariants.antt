use Rattle.std.proofs.Common.{◌≡◌, ◌++◌, take}
use Rattle.class_defs.specs.StatementRules.{names_in}
use Rattle.method_check.proofs.names.+names.Given as goal

-- the names of the statements so far
abbrev pub invariant-names_in-loop-stmt : goal.invariant-names_in-loop-stmt
invariant-names_in-loop-stmt l = l.names ≡ l.fn.names ++ names_in (take l.stmt-index l.block)
