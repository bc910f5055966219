-- What the parameters of a method are bound to, by the types that stand beside them.
use Rattle.std.proofs.Common.{◌≡◌, ℕ, ◌+◌, ◌<◌, List, ◌∷◌, [], ◌++◌, length, drop, get_or, map, slice_get, append_assoc, ◌∙◌, ap, sym, refl}
use Rattle.std.proofs.lemmas.List.{at_drop_more}
use Rattle.thor_value.specs.declared.values.Value.{Value}
use Rattle.class_defs.specs.Calls.{bound, bound_from, parameter}
use Rattle.class_defs.specs.declared.classes.Class.{Class}
use Rattle.class_defs.specs.declared.classes.Parameter.{Parameter}
use Rattle.class_defs.specs.declared.machine.Local.{Local}
use Rattle.lang_small_steps.specs.Typed.{IsTyped, TypedMethod, local_of, locals_from, typed_parameter}
use Rattle.lang_small_steps.specs.declared.parameters.TypedParameter.{TypedParameter}

pub declared_are : (cs : List Class) (ps : List Parameter) → map (λ p. p.declared) (map (typed_parameter cs) ps) ≡ ps
declared_are cs [] = refl
declared_are cs (p ∷ ps) = ap (λ qs. p ∷ qs) (declared_are cs ps)

-- the parameters that are bound so far, and those to come, are all
pub one_more : (ps : List TypedParameter) (vs : List Value) (i : ℕ) (p : TypedParameter) (done all : List Local) → i < length ps → p ≡ get_or ps i p
    → done ++ locals_from i (drop i ps) vs ≡ all → (done ++ local_of p (slice_get vs i) ∷ []) ++ locals_from (i + 1) (drop (i + 1) ps) vs ≡ all
one_more ps vs i p done all within is h =
    append_assoc done _ _
    ∙ ap (λ q. done ++ local_of q (slice_get vs i) ∷ locals_from (i + 1) (drop (i + 1) ps) vs) is
    ∙ sym (ap (λ rest. done ++ rest) (at_drop_more (λ qs. locals_from i qs vs) ps i p within))
    ∙ h

bound_is : (cs : List Class) (n : ℕ) (ps : List Parameter) (vs : List Value) → locals_from n (map (typed_parameter cs) ps) vs ≡ bound_from cs n ps vs
bound_is cs n [] vs = refl
bound_is cs n (p ∷ ps) vs = ap (λ ls. parameter cs p (slice_get vs n) ∷ ls) (bound_is cs (n + 1) ps vs)

pub bound_as : (cs : List Class) (m : TypedMethod) (vs : List Value) (ls : List Local) → ls ≡ locals_from 0 m.parameters vs → IsTyped cs m → ls ≡ bound cs m.method.parameters vs
bound_as cs m vs ls are is = are ∙ ap (λ ps. locals_from 0 ps vs) is.0 ∙ bound_is cs 0 m.method.parameters vs
