-- The sets stand in the order of their keys, whatever was called.
use Rattle.cached_sets.proofs.Meaning.{get_replace, same_test}
use Rattle.cached_sets.specs.Invalid.{Invalid, Invalids, change, changed, from, mark, replace, set_of}
use Rattle.cached_sets.specs.Meaning.{IsOrdered, place_in, unless_below}
use Rattle.cached_sets.specs.Sets.{Sets, acknowledge, drop_session, marked, opened}
use Rattle.std.proofs.Common.{Bool, List, [], ap, cond, false, nat_eq, nat_le, refl, subst, sym, true, ◌∙◌, ◌∷◌, ◌≡◌, ℕ}
use Rattle.std.proofs.lemmas.Bool.{eqb-true}
use Rattle.std.proofs.lemmas.Cmp.{eq_by_cmp_equiv}
use Rattle.std.proofs.lemmas.Map.Entries.{lookup-filter-values, option_filter}
use Rattle.std.proofs.lemmas.Map.Keys.{IsDistinct-from_sorted}
use Rattle.std.proofs.lemmas.Map.{keys-set_value}
use Rattle.std.specs.BTreeMap.{is_at}
use Rattle.std.specs.Cmp.{nat_cmp_total}
use Rattle.std.specs.List.Sorted.{IsStrictlySortedBy}
use Rattle.std.specs.List.{AllByRecursion, filter}
use Rattle.std.specs.Map.{keys_of}
use Rattle.std.specs.Option.{option_and_then, unwrap_or}
use Rattle.std.specs.Ordering.{eq_by_cmp, nat_cmp}
use Rattle.std.specs.Prelude.{None, Option, Some}
use Rattle.std.specs.declared.cmp.Ordering.TheVariants.{Less}
use Rattle.thor_value.proofs.FiniteMap.{IsSorted-insert, IsSorted-remove, get-insert, get-remove}
use Rattle.thor_value.proofs.NameOrders.{oref_total}
use Rattle.thor_value.specs.FiniteMap.{IsSorted, empty, get, has, insert, remove}
use Rattle.thor_value.specs.Names.{oref_cmp}
use Rattle.thor_value.specs.declared.names.Oref.{Oref}

-- ---- one set

below_kept : (x : Oref) (upto : ℕ) (es : List (Oref × ℕ)) → AllByRecursion (λ y. oref_cmp x y ≡ Less) (keys_of es) → AllByRecursion (λ y. oref_cmp x y ≡ Less) (keys_of (filter (λ e. nat_le upto e.1) es))
below_kept x upto [] h = tt
below_kept x upto (e ∷ es) h = by (nat_le upto e.1) (below_kept x upto es h.1)
  where
    by : (t : Bool) → AllByRecursion (λ y. oref_cmp x y ≡ Less) (keys_of (filter (λ e. nat_le upto e.1) es)) → AllByRecursion (λ y. oref_cmp x y ≡ Less) (keys_of (cond t (e ∷ filter (λ e. nat_le upto e.1) es) (filter (λ e. nat_le upto e.1) es)))
    by true more = (h.0, more)
    by false more = more

sorted_kept : (upto : ℕ) (es : List (Oref × ℕ)) → IsStrictlySortedBy oref_cmp (keys_of es) → IsStrictlySortedBy oref_cmp (keys_of (filter (λ e. nat_le upto e.1) es))
unfolding IsStrictlySortedBy
sorted_kept upto [] h = tt
sorted_kept upto (e ∷ es) h = by (nat_le upto e.1) (sorted_kept upto es h.1)
  where
    by : (t : Bool) → IsStrictlySortedBy oref_cmp (keys_of (filter (λ e. nat_le upto e.1) es)) → IsStrictlySortedBy oref_cmp (keys_of (cond t (e ∷ filter (λ e. nat_le upto e.1) es) (filter (λ e. nat_le upto e.1) es)))
    by true more = (below_kept e.0 upto es h.0, more)
    by false more = more

sorted_nothing : IsStrictlySortedBy oref_cmp []
unfolding IsStrictlySortedBy
sorted_nothing = tt

no_session : IsStrictlySortedBy nat_cmp []
unfolding IsStrictlySortedBy
no_session = tt

-- ---- all sets

pub none_ordered : IsOrdered empty
none_ordered = record { sessions = no_session; sets = λ s m h. cc }

ordered_replace : (N : Invalids) (n : ℕ) (o m : Invalid) → IsOrdered N → get N n ≡ Some o → IsSorted m → IsOrdered (replace N n m)
ordered_replace N n o m h f g = record {
  sessions = subst (IsStrictlySortedBy nat_cmp) (sym (keys-set_value (is_at (nat_cmp n)) N.pairs m)) h.sessions;
  sets = λ s v e. by s v (nat_eq n s) (sym (get_replace N n s m o f) ∙ e);
}
  where
    by : (s : ℕ) (v : Invalid) (t : Bool) → cond t (Some m) (get N s) ≡ Some v → IsSorted v
    by s v true e = let a : m ≡ v = cc in subst (λ (w : Invalid). IsSorted w) a g
    by s v false e = h.sets s v e

ordered_change : (N : Invalids) (n : ℕ) (f : Invalid → Invalid) → IsOrdered N → ((m : Invalid) → IsSorted m → IsSorted (f m)) → IsOrdered (change N n f)
ordered_change N n f h keeps = by (get N n) refl
  where
    by : (o : Option Invalid) → get N n ≡ o → IsOrdered (changed N n f o)
    by None e = h
    by (Some m) e = ordered_replace N n m (f m) h e (keeps m (h.sets n m e))

pub ordered_marked : (N : Invalids) (ts : List (ℕ × Oref)) (k : ℕ) → IsOrdered N → IsOrdered (marked N ts k)
ordered_marked N [] k h = h
ordered_marked N (t ∷ ts) k h = ordered_marked (mark N t.0 t.1 k) ts k (ordered_change N t.0 (λ m. insert m t.1 k) h (λ m g. IsSorted-insert oref_total m t.1 k g))

pub ordered_from : (N : Invalids) (n upto : ℕ) → IsOrdered N → IsOrdered (change N n (from upto))
ordered_from N n upto h = ordered_change N n (from upto) h (λ m g. sorted_kept upto m.pairs g)

pub ordered_opened : (N : Invalids) (n : ℕ) → IsOrdered N → IsOrdered (opened N n)
ordered_opened N n h = by (has N n)
  where
    set_at : (s : ℕ) (m : Invalid) (t : Bool) → cond t (Some empty) (get N s) ≡ Some m → IsSorted m
    set_at s m true e = let a : empty ≡ m = cc in subst (λ (w : Invalid). IsSorted w) a sorted_nothing
    set_at s m false e = h.sets s m e

    by : (t : Bool) → IsOrdered (cond t N (insert N n empty))
    by true = h
    by false = record { sessions = IsSorted-insert nat_cmp_total N n empty h.sessions; sets = λ s m e. set_at s m (eq_by_cmp nat_cmp s n) (sym (get-insert nat_cmp_total N n empty s) ∙ e) }

pub ordered_removed : (N : Invalids) (n : ℕ) → IsOrdered N → IsOrdered (remove N n)
ordered_removed N n h = record { sessions = IsSorted-remove nat_cmp N n h.sessions; sets = λ s m e. by s m (eq_by_cmp nat_cmp n s) (sym (get-remove nat_cmp_total N n s h.sessions) ∙ e) }
  where
    by : (s : ℕ) (m : Invalid) (t : Bool) → cond t None (get N s) ≡ Some m → IsSorted m
    by s m true e = cc
    by s m false e = h.sets s m e

-- ---- what is acknowledged, and what ends

kept_at : (upto : ℕ) (m : Invalid) (x : Oref) → IsSorted m → get (from upto m) x ≡ option_and_then (unless_below upto) (get m x)
kept_at upto m x h = lookup-filter-values (eq_by_cmp_equiv oref_total) (nat_le upto) x m.pairs (IsDistinct-from_sorted oref_cmp (keys_of m.pairs) h) ∙ by (get m x)
  where
    by : (o : Option ℕ) → option_filter (nat_le upto) o ≡ option_and_then (unless_below upto) o
    by None = refl
    by (Some k) = refl

pub acknowledged : (S : Sets) (n upto s : ℕ) (x : Oref) → IsOrdered S.invalid → place_in (acknowledge S n upto) s x ≡ cond (nat_eq n s) (option_and_then (unless_below upto) (place_in S s x)) (place_in S s x)
acknowledged S n upto s x h = by (get S.invalid n) refl (nat_eq n s) refl
  where
    by : (o : Option Invalid) → get S.invalid n ≡ o → (t : Bool) → nat_eq n s ≡ t → get (set_of (changed S.invalid n (from upto) o) s) x ≡ cond t (option_and_then (unless_below upto) (place_in S s x)) (place_in S s x)
    by None e true f = let a : n ≡ s = eqb-true n s f in let b : get S.invalid s ≡ None = ap (get S.invalid) (sym a) ∙ e in rw b refl
    by None e false f = refl
    by (Some m) e true f =
        let a : n ≡ s = eqb-true n s f in
        let b : get S.invalid s ≡ Some m = ap (get S.invalid) (sym a) ∙ e in
        let c : get (replace S.invalid n (from upto m)) s ≡ Some (from upto m) = get_replace S.invalid n s (from upto m) m e ∙ ap (λ (t : Bool). cond t (Some (from upto m)) (get S.invalid s)) f in
        rw (c, b) (kept_at upto m x (h.sets n m e))
    by (Some m) e false f =
        let c : get (replace S.invalid n (from upto m)) s ≡ get S.invalid s = get_replace S.invalid n s (from upto m) m e ∙ ap (λ (t : Bool). cond t (Some (from upto m)) (get S.invalid s)) f in
        rw c refl

pub dropped : (S : Sets) (n s : ℕ) (x : Oref) → IsOrdered S.invalid → place_in (drop_session S n) s x ≡ cond (nat_eq n s) None (place_in S s x)
dropped S n s x h =
    ap (λ (o : Option Invalid). get (unwrap_or o empty) x) (get-remove nat_cmp_total S.invalid n s h.sessions ∙ ap (λ (t : Bool). cond t None (get S.invalid s)) (same_test n s))
    ∙ by (nat_eq n s)
  where
    by : (t : Bool) → get (unwrap_or (cond t None (get S.invalid s)) empty) x ≡ cond t None (get (unwrap_or (get S.invalid s) empty) x)
    by true = refl
    by false = refl
