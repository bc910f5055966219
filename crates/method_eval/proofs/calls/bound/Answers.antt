use Rattle.std.proofs.Common.{◌≡◌, ℕ, ◌+◌, ◌<◌, List, ◌∷◌, [], ◌++◌, length, drop, get_or, slice_get, append_assoc, arith, ◌∙◌, ap, sym}
use Rattle.std.proofs.lemmas.List.{at_drop_more}
use Rattle.std.proofs.lemmas.Grind.{common_steps}
use Rattle.thor_value.specs.declared.values.Value.{Value}
use Rattle.class_defs.specs.declared.classes.Class.{Class}
use Rattle.class_defs.specs.declared.classes.Parameter.{Parameter}
use Rattle.class_defs.specs.declared.machine.Local.{Local}
use Rattle.class_defs.specs.Calls.{bound_from, parameter}
use Rattle.method_eval.proofs.calls.bound.Goals as goal

one_more : (cs : List Class) (ps : List Parameter) (vs : List Value) (i : ℕ) (p : Parameter) (done all : List Local) → i < length ps → p ≡ get_or ps i p → done ++ bound_from cs i (drop i ps) vs ≡ all → (done ++ parameter cs p (slice_get vs i) ∷ []) ++ bound_from cs (i + 1) (drop (i + 1) ps) vs ≡ all
one_more cs ps vs i p done all within is h =
    append_assoc done _ _
    ∙ ap (λ q. done ++ parameter cs q (slice_get vs i) ∷ bound_from cs (i + 1) (drop (i + 1) ps) vs) is
    ∙ sym (ap (λ rest. done ++ rest) (at_drop_more (λ qs. bound_from cs i qs vs) ps i p within))
    ∙ h

pub loop-place-preserved : goal.loop-place-preserved
loop-place-preserved c = grind (arith, common_steps, one_more c.args.program.now.schema.now.classes c.args.parameters.now c.args.arguments.now c.loop-place.place c.parameter-item.result c.loop-place.locals)
