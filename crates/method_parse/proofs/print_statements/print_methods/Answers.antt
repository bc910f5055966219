use Rattle.std.proofs.Common.{refl}
use Rattle.class_defs.specs.Spelling.{method_words}
use Rattle.method_parse.proofs.Spaced.{turns_end}
use Rattle.method_parse.proofs.print_statements.print_methods.Goals as goal

pub returns : goal.returns
returns c =
    turns_end method_words c.args.methods.now c.args.methods.now c.args.out.now c.loop-method.out c.loop-method.method-index refl c.loop-method-test.false c.loop-method.invariant
