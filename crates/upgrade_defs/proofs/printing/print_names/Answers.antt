use Rattle.std.proofs.Common.{refl}
use Rattle.method_parse.proofs.Spaced.{turns_end}
use Rattle.upgrade_defs.specs.Spelling.{dot_name}
use Rattle.upgrade_defs.proofs.printing.print_names.Goals as goal

pub returns : goal.returns
returns c =
    turns_end dot_name c.args.names.now c.args.names.now c.args.out.now c.loop-name.out c.loop-name.name-index refl
    c.loop-name-test.false c.loop-name.invariant
