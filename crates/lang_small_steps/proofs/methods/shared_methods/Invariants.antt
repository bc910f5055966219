use Rattle.std.proofs.Common.{◌≡◌, map, take}
use Rattle.lang_small_steps.specs.Typed.{typed}
use Rattle.lang_small_steps.proofs.methods.shared_methods.Given as goal

-- as many as were copied so far
abbrev pub invariant-loop-method : goal.invariant-loop-method
invariant-loop-method l = l.copied ≡ map (typed l.classes) (take l.method-index l.methods)
