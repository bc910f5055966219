use Rattle.std.proofs.Common.{◌≡◌, take}
use Rattle.lang_small_steps.specs.Methods.{methods_among}
use Rattle.lang_small_steps.proofs.methods.class_methods.Given as goal

-- those of as many classes as were looked at so far
abbrev pub invariant-loop-class : goal.invariant-loop-class
invariant-loop-class l = l.methods ≡ methods_among l.classes (take l.class-index l.classes)
