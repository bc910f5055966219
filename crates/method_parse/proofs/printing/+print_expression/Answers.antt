use Rattle.std.proofs.Common.{sym, ◌∙◌}
use Rattle.class_defs.specs.Spelling.{expr_words}
use Rattle.method_parse.proofs.Spaced.{list_end}
use Rattle.method_parse.proofs.printing.+print_expression.Goals as goal

pub print_arguments-returns : goal.print_arguments-returns
print_arguments-returns t c =
    list_end expr_words c.args.arguments.now c.in-Some.more.now c.in-Some.first.now c.args.out.now c.loop-argument.out
    c.loop-argument.argument-index (sym c.as_slice.ensures ∙ c.in-Some.ensures.cases.0) c.loop-argument-test.false c.loop-argument.invariant
