use Rattle.std.proofs.Common.{◌≡◌, map, take}
use Rattle.lang_small_steps.specs.Typed.{typed_parameter}
use Rattle.lang_small_steps.proofs.parameters.typed_parameters.Given as goal

-- as many as were copied so far
abbrev pub invariant-loop-declared : goal.invariant-loop-declared
invariant-loop-declared l = l.copied ≡ map (typed_parameter l.classes) (take l.declared-index l.parameters)
