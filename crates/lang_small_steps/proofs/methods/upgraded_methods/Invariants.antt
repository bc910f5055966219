use Rattle.std.proofs.Common.{◌≡◌, map, take}
use Rattle.lang_small_steps.specs.Methods.{class_methods}
use Rattle.lang_small_steps.proofs.methods.upgraded_methods.Given as goal

-- those of as many schemas as were looked at so far
abbrev pub invariant-loop-one : goal.invariant-loop-one
invariant-loop-one l = l.methods ≡ map (λ u. class_methods u.schema.classes) (take l.one-index l.upgraded)
