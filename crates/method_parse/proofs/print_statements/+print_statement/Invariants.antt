use Rattle.std.proofs.Common.{◌≡◌, ◌++◌, take}
use Rattle.std.specs.List.{flat_map}
use Rattle.class_defs.specs.Spelling.{stmt_words}
use Rattle.method_parse.proofs.Spaced.{one_text}
use Rattle.method_parse.proofs.print_statements.+print_statement.Given as goal

-- the words of those so far
abbrev pub invariant-print_stmts-loop-stmt : goal.invariant-print_stmts-loop-stmt
invariant-print_stmts-loop-stmt l = l.out ≡ l.fn.out ++ flat_map (one_text stmt_words) (take l.stmt-index l.stmt-items)
