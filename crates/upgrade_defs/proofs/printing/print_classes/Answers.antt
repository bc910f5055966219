use Rattle.std.proofs.Common.{refl}
use Rattle.method_parse.proofs.Spaced.{turns_end}
use Rattle.upgrade_defs.specs.Spelling.{class_upgrade_words}
use Rattle.upgrade_defs.proofs.printing.print_classes.Goals as goal

pub returns : goal.returns
returns c =
    turns_end class_upgrade_words c.args.classes.now c.args.classes.now c.args.out.now c.loop-class.out c.loop-class.class-index refl
    c.loop-class-test.false c.loop-class.invariant
