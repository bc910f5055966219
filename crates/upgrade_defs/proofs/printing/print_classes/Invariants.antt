use Rattle.std.proofs.Common.{◌≡◌, ◌++◌, take}
use Rattle.std.specs.List.{flat_map}
use Rattle.method_parse.proofs.Spaced.{one_text}
use Rattle.upgrade_defs.specs.Spelling.{class_upgrade_words}
use Rattle.upgrade_defs.proofs.printing.print_classes.Given as goal

-- the words of those so far
abbrev pub invariant-loop-class : goal.invariant-loop-class
invariant-loop-class l = l.out ≡ l.fn.out ++ flat_map (one_text class_upgrade_words) (take l.class-index l.classes)
