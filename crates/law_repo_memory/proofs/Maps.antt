-- Maps by timestamps, and lists of pairs of which some stay.
use Rattle.std.proofs.Common.{Bool, List, [], ap, cond, refl, subst, sym, ◌≡◌, ◌∙◌, ◌∷◌}
use Rattle.std.proofs.lemmas.Cmp.{tied_itself}
use Rattle.std.proofs.lemmas.Map.Views.{tells_apart}
use Rattle.std.specs.BTreeMap.{is_at}
use Rattle.std.specs.List.{AllByRecursion, filter}
use Rattle.std.specs.List.Sorted.{IsStrictlySortedBy}
use Rattle.std.specs.Map.{keys_of, lookup}
use Rattle.std.specs.Option.{option_and_then, option_map}
use Rattle.std.specs.Ordering.{eq_by_cmp, is_eq}
use Rattle.std.specs.Prelude.{None, Option, Some, false, true}
use Rattle.std.specs.declared.cmp.Ordering.TheVariants.{Less}
use Rattle.std.specs.declared.cmp.Ordering.{Ordering}
use Rattle.thor_value.proofs.NameOrders.{ts_exact, ts_total}
use Rattle.thor_value.specs.Names.{ts_cmp}
use Rattle.thor_value.specs.declared.names.Ts.{Ts}

pub same-key : (t u : Ts) → t ≡ u → eq_by_cmp ts_cmp t u ≡ true
same-key t u e = subst (λ v. eq_by_cmp ts_cmp t v ≡ true) e (ap is_eq (tied_itself ts_total t))

-- whether two timestamps are one doesn't depend on their order
pub key-turned : (t u : Ts) → eq_by_cmp ts_cmp t u ≡ eq_by_cmp ts_cmp u t
key-turned t u = by (eq_by_cmp ts_cmp t u) refl (eq_by_cmp ts_cmp u t) refl
  where
    by : (x : Bool) → eq_by_cmp ts_cmp t u ≡ x → (y : Bool) → eq_by_cmp ts_cmp u t ≡ y → x ≡ y
    by true e true f = refl
    by true e false f = let k = same-key u t (sym (tells_apart ts_exact t u e)) in cc
    by false e true f = let k = same-key t u (sym (tells_apart ts_exact u t f)) in cc
    by false e false f = refl

pub map-cond : {A B : Type 0} (f : A → B) (x : Bool) (v : A) (o : Option A) → option_map f (cond x (Some v) o) ≡ cond x (Some (f v)) (option_map f o)
map-cond f true v o = refl
map-cond f false v o = refl

pub then-cond : {A B : Type 0} (f : A → Option B) (x : Bool) (o p : Option A) → option_and_then f (cond x o p) ≡ cond x (option_and_then f o) (option_and_then f p)
then-cond f true o p = refl
then-cond f false o p = refl

pub ap-cond : {A B : Type 0} (f : A → B) (x : Bool) (o p : A) → f (cond x o p) ≡ cond x (f o) (f p)
ap-cond f true o p = refl
ap-cond f false o p = refl

-- ---- pairs of which some stay

abbrev pub if_stays : {X : Type 0} → (Ts × X → Bool) → Ts → X → Option X
if_stays stays t v = cond (stays (t, v)) (Some v) None

-- a key above which all others are isn't found there
above-none : {X : Type 0} (t : Ts) (es : List (Ts × X)) → AllByRecursion (λ u. ts_cmp t u ≡ Less) (keys_of es) → lookup (is_at (ts_cmp t)) es ≡ None
above-none t [] h = refl
above-none t (e ∷ es) h = ap (λ (o : Ordering). cond (is_eq o) (Some e.1) (lookup (is_at (ts_cmp t)) es)) h.0 ∙ above-none t es h.1

pub lookup-stays : {X : Type 0} (stays : Ts × X → Bool) (t : Ts) (es : List (Ts × X)) → IsStrictlySortedBy ts_cmp (keys_of es)
    → lookup (is_at (ts_cmp t)) (filter stays es) ≡ option_and_then (if_stays stays t) (lookup (is_at (ts_cmp t)) es)
unfolding IsStrictlySortedBy
lookup-stays stays t [] h = refl
lookup-stays stays t (e ∷ es) h = by (lookup-stays stays t es h.1) (is_at (ts_cmp t) e.0) refl (stays e) refl
  where
    by : lookup (is_at (ts_cmp t)) (filter stays es) ≡ option_and_then (if_stays stays t) (lookup (is_at (ts_cmp t)) es) → (x : Bool) → is_at (ts_cmp t) e.0 ≡ x → (y : Bool) → stays e ≡ y
        → lookup (is_at (ts_cmp t)) (cond y (e ∷ filter stays es) (filter stays es)) ≡ option_and_then (if_stays stays t) (cond x (Some e.1) (lookup (is_at (ts_cmp t)) es))
    by rest true k true s =
        let key : e.0 ≡ t = sym (tells_apart ts_exact t e.0 k) in
        let here : stays (t, e.1) ≡ true = subst (λ u. stays (u, e.1) ≡ true) key s in
        ap (λ x. cond x (Some e.1) (lookup (is_at (ts_cmp t)) (filter stays es))) k ∙ sym (ap (λ x. cond x (Some e.1) None) here)
    by rest true k false s =
        let key : e.0 ≡ t = sym (tells_apart ts_exact t e.0 k) in
        let here : stays (t, e.1) ≡ false = subst (λ u. stays (u, e.1) ≡ false) key s in
        let none : lookup (is_at (ts_cmp t)) es ≡ None = above-none t es (subst (λ u. AllByRecursion (λ v. ts_cmp u v ≡ Less) (keys_of es)) key h.0) in
        rest ∙ ap (option_and_then (if_stays stays t)) none ∙ sym (ap (λ x. cond x (Some e.1) None) here)
    by rest false k true s = ap (λ x. cond x (Some e.1) (lookup (is_at (ts_cmp t)) (filter stays es))) k ∙ rest
    by rest false k false s = rest

-- the pairs that stay rise as all did
keys_stay : {X : Type 0} (P : Ts → Type 0) (stays : Ts × X → Bool) (es : List (Ts × X)) → AllByRecursion P (keys_of es) → AllByRecursion P (keys_of (filter stays es))
keys_stay P stays [] h = tt
keys_stay P stays (e ∷ es) h = by (stays e) (keys_stay P stays es h.1)
  where
    by : (x : Bool) → AllByRecursion P (keys_of (filter stays es)) → AllByRecursion P (keys_of (cond x (e ∷ filter stays es) (filter stays es)))
    by true rest = (h.0, rest)
    by false rest = rest

pub sorted-stays : {X : Type 0} (stays : Ts × X → Bool) (es : List (Ts × X)) → IsStrictlySortedBy ts_cmp (keys_of es) → IsStrictlySortedBy ts_cmp (keys_of (filter stays es))
unfolding IsStrictlySortedBy
sorted-stays stays [] h = tt
sorted-stays stays (e ∷ es) h = by (stays e) (sorted-stays stays es h.1)
  where
    by : (x : Bool) → IsStrictlySortedBy ts_cmp (keys_of (filter stays es)) → IsStrictlySortedBy ts_cmp (keys_of (cond x (e ∷ filter stays es) (filter stays es)))
    by true rest = (keys_stay (λ u. ts_cmp e.0 u ≡ Less) stays es h.0, rest)
    by false rest = rest
