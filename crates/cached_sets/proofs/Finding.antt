-- What is found first among the names and among the objects of an invalid set.
use Rattle.cached_sets.specs.Invalid.{Invalid, comes_behind, first_stale, if_behind, next_of}
use Rattle.cached_sets.specs.Bounds.{bound_behind}
use Rattle.link_table.specs.Pairs.{first}
use Rattle.std.proofs.Common.{◌≡◌, Bool, List, [], ◌∷◌, ap, add-one, cond, drop, drop-cons, false, find, get_or, length, refl, suc, sym, true, ◌+◌, ◌<◌, ◌∙◌, ℕ}
use Rattle.std.proofs.lemmas.Cmp.{tied_itself}
use Rattle.std.specs.BTreeMap.Range.{entries_between}
use Rattle.std.specs.BTreeMap.{is_at}
use Rattle.std.specs.List.Sorted.{IsStrictlySortedBy}
use Rattle.std.specs.List.{AllByRecursion, filter}
use Rattle.std.specs.Map.{keys_of, lookup}
use Rattle.std.specs.Option.{option_and_then, option_or}
use Rattle.std.specs.Ordering.{is_eq, is_lt, ordering_reverse}
use Rattle.std.specs.Prelude.{None, Option, Some, nat_le, ◌&&◌, ◌||◌}
use Rattle.std.specs.declared.ops.Bound.TheVariants.{Unbounded}
use Rattle.std.specs.declared.cmp.Ordering.TheVariants.{Equal, Greater, Less}
use Rattle.std.specs.declared.cmp.Ordering.{Ordering}
use Rattle.thor_value.proofs.NameOrders.{oref_exact, oref_total}
use Rattle.thor_value.specs.FiniteMap.{get}
use Rattle.thor_value.specs.Names.{oref_cmp}
use Rattle.thor_value.specs.declared.names.Oref.{Oref}
use Rattle.validation_queue.specs.Clashes.{first_some}
use Rattle.validation_queue.specs.Names.{Rises, is_among}

-- the first that passes is the first of those that pass
pub first_kept : {X : Type 0} (test : X → Bool) (xs : List X) → first (filter test xs) ≡ find test xs
first_kept test [] = refl
first_kept test (x ∷ xs) = by (test x) (first_kept test xs)
  where
    by : (t : Bool) → first (filter test xs) ≡ find test xs → first (cond t (x ∷ filter test xs) (filter test xs)) ≡ cond t (Some x) (find test xs)
    by true more = refl
    by false more = more

-- the objects of a set that are behind and among some names
abbrev pub found : List Oref → ℕ → List (Oref × ℕ) → Option (Oref × ℕ)
found names upto es = find (λ e. nat_le upto e.1 && is_among names e.0) es

-- the first of the names, by what a look at each gives
abbrev pub first_by : (Oref → Option ℕ) → ℕ → List Oref → Option (Oref × ℕ)
first_by look upto names = first_some (λ x. option_and_then (if_behind upto x) (look x)) names

equal : (r : Ordering) → is_eq r ≡ true → r ≡ Equal
equal Equal h = refl
equal Less h = cc
equal Greater h = cc

itself : (x : Oref) → oref_cmp x x ≡ Equal
itself x = tied_itself oref_total x

none_above : (k : Oref) (es : List (Oref × ℕ)) → AllByRecursion (λ y. oref_cmp k y ≡ Less) (keys_of es) → (x : Oref) → oref_cmp x k ≡ Less → lookup (is_at (oref_cmp x)) es ≡ None
none_above k [] h x l = refl
none_above k (e ∷ es) h x l = let f : oref_cmp x e.0 ≡ Less = oref_total.trans x k e.0 l h.0 in rw f (none_above k es h.1 x l)

none_at : (k : Oref) (es : List (Oref × ℕ)) → AllByRecursion (λ y. oref_cmp k y ≡ Less) (keys_of es) → lookup (is_at (oref_cmp k)) es ≡ None
none_at k [] h = refl
none_at k (e ∷ es) h = rw h.0 (none_at k es h.1)

-- no name is one of an empty set
pub nothing : (upto : ℕ) (names : List Oref) → first_by (λ x. lookup (is_at (oref_cmp x)) []) upto names ≡ None
nothing upto [] = refl
nothing upto (x ∷ xs) = nothing upto xs

module _ (upto : ℕ) (e : Oref × ℕ) (es : List (Oref × ℕ)) (h : AllByRecursion (λ y. oref_cmp e.0 y ≡ Less) (keys_of es)) where
  abbrev here : Oref → Option ℕ
  here x = lookup (is_at (oref_cmp x)) (e ∷ es)

  abbrev there : Oref → Option ℕ
  there x = lookup (is_at (oref_cmp x)) es

  -- names behind the first object don't see it
  behind_it : (names : List Oref) → AllByRecursion (λ y. oref_cmp e.0 y ≡ Less) names → first_by here upto names ≡ first_by there upto names
  behind_it [] a = refl
  behind_it (x ∷ xs) a =
      let g : oref_cmp x e.0 ≡ Greater = oref_total.antisymm x e.0 ∙ ap ordering_reverse a.0 in
      rw (g, behind_it xs a.1) refl

  all_behind : (x : Oref) (xs : List Oref) → oref_cmp e.0 x ≡ Less → AllByRecursion (λ y. oref_cmp x y ≡ Less) xs → AllByRecursion (λ y. oref_cmp e.0 y ≡ Less) xs
  all_behind x [] l a = tt
  all_behind x (y ∷ ys) l a = (oref_total.trans e.0 x y l a.0, all_behind x ys l a.1)

  not_among : (names : List Oref) → AllByRecursion (λ y. oref_cmp e.0 y ≡ Less) names → is_among names e.0 ≡ false
  not_among [] a = refl
  not_among (x ∷ xs) a = rw a.0 (not_among xs a.1)

  -- the first object counts, where it is behind and among the names
  one_step : (names : List Oref) → Rises names → first_by here upto names ≡ option_or (cond (nat_le upto e.1 && is_among names e.0) (Some e) None) (first_by there upto names)
  unfolding IsStrictlySortedBy
  one_step [] r = by (nat_le upto e.1)
    where
      by : (t : Bool) → None ≡ option_or (cond (t && false) (Some e) None) None
      by true = refl
      by false = refl
  one_step (x ∷ xs) r = by (oref_cmp e.0 x) refl (nat_le upto e.1) refl (one_step xs r.1)
    where
      by : (o : Ordering) → oref_cmp e.0 x ≡ o → (t : Bool) → nat_le upto e.1 ≡ t
          → first_by here upto xs ≡ option_or (cond (nat_le upto e.1 && is_among xs e.0) (Some e) None) (first_by there upto xs)
          → first_by here upto (x ∷ xs) ≡ option_or (cond (t && (is_eq o || is_among xs e.0)) (Some e) None) (first_by there upto (x ∷ xs))
      by Less f t u more =
          let all : AllByRecursion (λ y. oref_cmp e.0 y ≡ Less) (x ∷ xs) = (f, all_behind x xs f r.0) in
          let a : is_among xs e.0 ≡ false = not_among xs all.1 in
          rw (a, behind_it (x ∷ xs) all) (either t)
        where
          either : (t : Bool) → first_by there upto (x ∷ xs) ≡ option_or (cond (t && false) (Some e) None) (first_by there upto (x ∷ xs))
          either true = refl
          either false = refl
      by Equal f t u more =
          let same : e.0 ≡ x = oref_exact e.0 x f in
          let at : oref_cmp x e.0 ≡ Equal = rw same (itself x) in
          let no : there x ≡ None = rw (← same) (none_at e.0 es h) in
          let rest : first_by here upto xs ≡ first_by there upto xs = behind_it xs (rw same r.0) in
          rw (at, no, u, rest, ← same) (either t)
        where
          either : (t : Bool) → option_or (cond t (Some (e.0, e.1)) None) (first_by there upto xs) ≡ option_or (cond (t && true) (Some e) None) (first_by there upto xs)
          either true = refl
          either false = refl
      by Greater f t u more =
          let back : oref_cmp x e.0 ≡ Less = oref_total.antisymm x e.0 ∙ ap ordering_reverse f in
          let no : there x ≡ None = none_above e.0 es h x back in
          rw (back, no) (more ∙ ap (λ (s : Bool). option_or (cond (s && is_among xs e.0) (Some e) None) (first_by there upto xs)) u)

found_is : (upto : ℕ) (names : List Oref) → Rises names → (es : List (Oref × ℕ)) → IsStrictlySortedBy oref_cmp (keys_of es) → found names upto es ≡ first_by (λ x. lookup (is_at (oref_cmp x)) es) upto names
unfolding IsStrictlySortedBy
found_is upto names r [] h = sym (nothing upto names)
found_is upto names r (e ∷ es) h = by (nat_le upto e.1 && is_among names e.0) (found_is upto names r es h.1) ∙ sym (one_step upto e es h.0 names r)
  where
    by : (t : Bool) → found names upto es ≡ first_by (λ x. lookup (is_at (oref_cmp x)) es) upto names
        → cond t (Some e) (found names upto es) ≡ option_or (cond t (Some e) None) (first_by (λ x. lookup (is_at (oref_cmp x)) es) upto names)
    by true more = refl
    by false more = more

-- the first object of the set that is behind and among the names is the first of the names that is
-- behind in the set
pub found_in_set : (m : Invalid) (upto : ℕ) (names : List Oref) → Rises names → IsStrictlySortedBy oref_cmp (keys_of m.pairs) → found names upto m.pairs ≡ first_stale m upto names
found_in_set m upto names r h = found_is upto names r m.pairs h

-- a name that isn't found is passed over
pub stale_later : (m : Invalid) (upto : ℕ) (names : List Oref) (i : ℕ) (d : Oref) → i < length names → option_and_then (if_behind upto (get_or names i d)) (get m (get_or names i d)) ≡ None → first_stale m upto (drop (i + 1) names) ≡ first_stale m upto (drop i names)
stale_later m upto names i d l n =
    let parts : drop i names ≡ get_or names i d ∷ drop (suc i) names = drop-cons names i d l in
    rw (parts, n, add-one) refl

pub stale_here : (m : Invalid) (upto : ℕ) (names : List Oref) (i : ℕ) (d : Oref) (found : Oref × ℕ) → i < length names → option_and_then (if_behind upto (get_or names i d)) (get m (get_or names i d)) ≡ Some found → first_stale m upto (drop i names) ≡ Some found
stale_here m upto names i d found l n =
    let parts : drop i names ≡ get_or names i d ∷ drop (suc i) names = drop-cons names i d l in
    rw (parts, n) refl

-- the objects of a set behind a name
pub next_is : (m : Invalid) (last : Option Oref) (r : List (Oref × ℕ)) → r ≡ entries_between oref_cmp (bound_behind last) Unbounded m.pairs → first r ≡ next_of m last
next_is m last r e = ap first (e ∙ same last m.pairs) ∙ first_kept (λ (e : Oref × ℕ). comes_behind last e.0) m.pairs
  where
    same : (last : Option Oref) (es : List (Oref × ℕ)) → entries_between oref_cmp (bound_behind last) Unbounded es ≡ filter (λ e. comes_behind last e.0) es
    same None [] = refl
    same (Some x) [] = refl
    same None (e ∷ es) = ap (λ (fs : List (Oref × ℕ)). e ∷ fs) (same None es)
    same (Some x) (e ∷ es) = by (is_lt (oref_cmp x e.0)) (same (Some x) es)
      where
        by : (t : Bool) → entries_between oref_cmp (bound_behind (Some x)) Unbounded es ≡ filter (λ e. comes_behind (Some x) e.0) es
            → cond (t && true) (e ∷ entries_between oref_cmp (bound_behind (Some x)) Unbounded es) (entries_between oref_cmp (bound_behind (Some x)) Unbounded es) ≡ cond t (e ∷ filter (λ e. comes_behind (Some x) e.0) es) (filter (λ e. comes_behind (Some x) e.0) es)
        by true more = ap (λ (fs : List (Oref × ℕ)). e ∷ fs) more
        by false more = more
