use Rattle.class_defs.specs.Spelling.{stmt_words}
use Rattle.method_parse.proofs.Spaced.{turns_end}
use Rattle.method_parse.proofs.print_statements.+print_statement.Goals as goal

pub print_stmts-returns : goal.print_stmts-returns
print_stmts-returns t c =
    turns_end stmt_words c.args.block.now c.as_slice-stmt-items.result.now c.args.out.now c.loop-stmt.out c.loop-stmt.stmt-index
    c.as_slice-stmt-items.ensures c.loop-stmt-test.false c.loop-stmt.invariant
