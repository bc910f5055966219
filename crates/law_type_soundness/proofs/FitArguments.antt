-- That the arguments of a checked call fit the method's parameters.
use Rattle.std.proofs.Common.{◌≡◌, arith, List, [], ◌∷◌, ◌++◌, Option, Some, None, refl, ℕ, suc, map, length}
use Rattle.std.specs.List.{AllByRecursion}
use Rattle.std.specs.Prelude.{◌+◌, slice_get}
use Rattle.thor_value.specs.declared.names.Oref.{Oref}
use Rattle.thor_value.specs.declared.values.Value.{Value}
use Rattle.law_type_soundness.proofs.FitObjects.{value_suits}
use Rattle.class_defs.proofs.KeptRules.{nothing, held, free_is_type, type_told}
use Rattle.law_type_soundness.proofs.FitValues.{Keeps, value_keeps}
use Rattle.class_defs.specs.Calls.{bound_from, parameter}
use Rattle.class_defs.specs.ExpressionRules.{judged, argument_rules, argument_fits, arguments_rules}
use Rattle.class_defs.specs.Types.{IsDeclared, type_named}
use Rattle.law_type_soundness.specs.Fits.{ValueFits, LocalsFit}
use Rattle.class_defs.specs.Rules.{Sight, is_free_type}
use Rattle.class_defs.specs.SchemaRules.{parameter_named}
use Rattle.class_defs.specs.declared.classes.Class.{Class}
use Rattle.class_defs.specs.declared.classes.Parameter.{Parameter}
use Rattle.class_defs.specs.declared.expressions.Expr.{Expr}
use Rattle.class_defs.specs.declared.rules.Position.TheVariants.{Value as AsValue}
use Rattle.class_defs.specs.declared.store.Object.{Object}
use Rattle.class_defs.specs.declared.types.ExprType.{ExprType}

-- values of these types
abbrev pub ValuesFit : (Oref → Option Object) → List ExprType → List Value → Type 0
ValuesFit f [] [] = Unit {0}
ValuesFit f [] (v ∷ vs) = ⊥
ValuesFit f (k ∷ ks) [] = ⊥
ValuesFit f (k ∷ ks) (v ∷ vs) = ValueFits f k v × ValuesFit f ks vs

pub values_keep : (f g : Oref → Option Object) → Keeps f g → (ks : List ExprType) (vs : List Value) → ValuesFit f ks vs → ValuesFit g ks vs
values_keep f g k [] [] h = tt
values_keep f g k [] (v ∷ vs) h = absurd h
values_keep f g k (t ∷ ts) [] h = absurd h
values_keep f g k (t ∷ ts) (v ∷ vs) h = (value_keeps f g k t v h.0, values_keep f g k ts vs h.1)

pub one_more_fits : (f : Oref → Option Object) (ks : List ExprType) (vs : List Value) (k : ExprType) (v : Value) → ValuesFit f ks vs
    → ValueFits f k v → ValuesFit f (ks ++ k ∷ []) (vs ++ v ∷ [])
one_more_fits f [] [] k v h fit = (fit, tt)
one_more_fits f [] (u ∷ us) k v h fit = absurd h
one_more_fits f (t ∷ ts) [] k v h fit = absurd h
one_more_fits f (t ∷ ts) (u ∷ us) k v h fit = (h.0, one_more_fits f ts us k v h.1 fit)

-- a value for each parameter
abbrev pub ArgumentsFit : (Oref → Option Object) → List Class → List Parameter → List Value → Type 0
ArgumentsFit f classes [] [] = Unit {0}
ArgumentsFit f classes [] (v ∷ vs) = ⊥
ArgumentsFit f classes (p ∷ ps) [] = ⊥
ArgumentsFit f classes (p ∷ ps) (v ∷ vs) = ValueFits f (type_named classes p.type_name) v × ArgumentsFit f classes ps vs

pub arguments_keep : (f g : Oref → Option Object) → Keeps f g → (classes : List Class) (ps : List Parameter) (vs : List Value)
    → ArgumentsFit f classes ps vs → ArgumentsFit g classes ps vs
arguments_keep f g k classes [] [] h = tt
arguments_keep f g k classes [] (v ∷ vs) h = absurd h
arguments_keep f g k classes (p ∷ ps) [] h = absurd h
arguments_keep f g k classes (p ∷ ps) (v ∷ vs) h = (value_keeps f g k _ v h.0, arguments_keep f g k classes ps vs h.1)

-- the words of the parameters' types name types
abbrev pub Told : List Class → List Parameter → Type 0
Told classes ps = AllByRecursion (λ (p : Parameter). is_free_type classes p.type_name ≡ []) ps

pub parameter_told : (classes : List Class) (p : Parameter) → is_free_type classes p.type_name ≡ [] → IsDeclared (type_named classes p.type_name)
parameter_told classes p h = type_told classes p.type_name (free_is_type classes p.type_name h)

module _ (s : Sight) (classes : List Class) where
  abbrev pub kinds : List Expr → List ExprType
  kinds es = map (λ e. (judged s e).kind) es

  abbrev pub Unbroken : List Expr → Type 0
  Unbroken es = AllByRecursion (λ (e : Expr). (judged s e).broken AsValue ≡ []) es

  pub unbroken : (ps : List Parameter) (es : List Expr) → arguments_rules classes ps (map (judged s) es) ≡ [] → Unbroken es
  unbroken ps [] h = tt
  unbroken [] (e ∷ es) h =
      let p = nothing (argument_rules classes None (judged s e)) (arguments_rules classes [] (map (judged s) es)) h in
      ((nothing ((judged s e).broken AsValue) [] p.0).0, unbroken [] es p.1)
  unbroken (q ∷ qs) (e ∷ es) h =
      let p = nothing (argument_rules classes (Some q) (judged s e)) (arguments_rules classes qs (map (judged s) es)) h in
      ((nothing ((judged s e).broken AsValue) (argument_fits classes (Some q) (judged s e).kind (judged s e).line) p.0).0, unbroken qs es p.1)

  pub arguments_fit : (f : Oref → Option Object) (ps : List Parameter) (es : List Expr) (vs : List Value)
      → arguments_rules classes ps (map (judged s) es) ≡ [] → length ps ≡ length (map (judged s) es)
      → Told classes ps → ValuesFit f (kinds es) vs → ArgumentsFit f classes ps vs
  arguments_fit f [] [] [] h n told fit = tt
  arguments_fit f [] [] (v ∷ vs) h n told fit = absurd fit
  arguments_fit f [] (e ∷ es) vs h n told fit = absurd (omega (arith, n))
  arguments_fit f (q ∷ qs) [] vs h n told fit = absurd (omega (arith, n))
  arguments_fit f (q ∷ qs) (e ∷ es) [] h n told fit = absurd fit
  arguments_fit f (q ∷ qs) (e ∷ es) (v ∷ vs) h n told fit =
      let p = nothing (argument_rules classes (Some q) (judged s e)) (arguments_rules classes qs (map (judged s) es)) h in
      let suits = (nothing ((judged s e).broken AsValue) (argument_fits classes (Some q) (judged s e).kind (judged s e).line) p.0).1 in (
        value_suits f (type_named classes q.type_name) (judged s e).kind v (parameter_told classes q told.0) (held _ _ _ suits) fit.0,
        arguments_fit f qs es vs p.1 (omega (arith, n)) told.1 fit.1,
      )

-- the parameters with their arguments are the locals that the check of the body saw
pub bound_fits : (f : Oref → Option Object) (classes : List Class) (ps : List Parameter) (us vs : List Value) (n : ℕ)
    → ((k : ℕ) → slice_get vs (n + k) ≡ slice_get us k)
    → Told classes ps → ArgumentsFit f classes ps us → LocalsFit f (map (parameter_named classes) ps) (bound_from classes n ps vs)
bound_fits f classes [] us vs n at told fit = tt
bound_fits f classes (p ∷ ps) [] vs n at told fit = absurd fit
bound_fits f classes (p ∷ ps) (u ∷ us) vs n at told fit =
    let z : n ≡ n + 0 = omega arith in
    let first : slice_get vs n ≡ Some u = rw z (at 0) in
    let value : ValueFits f (type_named classes p.type_name) (parameter classes p (slice_get vs n)).value = rw first fit.0 in (
      record { name = refl; kind = refl; declared = parameter_told classes p told.0; value = value },
      bound_fits f classes ps us vs (n + 1) (λ k. let e : (n + 1) + k ≡ n + suc k = omega arith in rw e (at (suc k))) told.1 fit.1,
    )
