use Rattle.std.proofs.Common.{take, ◌≡◌}
use Rattle.repo_format.specs.Fresh.{classes_text}
use Rattle.repo_format.proofs.state.text_of_classes.Given as goal

-- the text of the classes so far
abbrev pub invariant-loop-class : goal.invariant-loop-class
invariant-loop-class l = l.text ≡ classes_text (take l.class-index l.classes)
