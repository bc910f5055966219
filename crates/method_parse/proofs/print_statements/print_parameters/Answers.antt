use Rattle.std.proofs.Common.{sym, ◌∙◌}
use Rattle.class_defs.specs.Spelling.{parameter_words}
use Rattle.method_parse.proofs.Spaced.{list_end}
use Rattle.method_parse.proofs.print_statements.print_parameters.Goals as goal

pub returns : goal.returns
returns c =
    list_end parameter_words c.args.parameters.now c.in-Some.more.now c.in-Some.first.now c.args.out.now c.loop-parameter.out
    c.loop-parameter.parameter-index (sym c.as_slice.ensures ∙ c.in-Some.ensures.cases.0) c.loop-parameter-test.false c.loop-parameter.invariant
