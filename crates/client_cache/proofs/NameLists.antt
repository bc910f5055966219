-- What is among names that rise behind one that was put or taken out.
use Rattle.std.proofs.Common.{◌≡◌, ℕ, zero, suc, ◌<◌, Bool, true, false, cond, List, [], ◌∷◌, length, refl, sym, ap, subst, ◌∙◌, arith, append-nil, Option, Some, None, not, take, take-suc, ◌+◌}
use Rattle.std.specs.BTreeMap.{is_at}
use Rattle.std.specs.BTreeSet.{insert_key}
use Rattle.std.specs.Cmp.{eq_by_cmp_equiv}
use Rattle.std.proofs.lemmas.Map.Views.{tells_apart}
use Rattle.std.specs.Prelude.{get_or}
use Rattle.std.specs.List.{AllByRecursion, filter, list_any, remove, slice_index_or}
use Rattle.std.specs.List.Sorted.{IsStrictlySortedBy}
use Rattle.std.specs.Option.{IfSome, option_to_list}
use Rattle.std.specs.Prelude.{◌++◌, ◌||◌}
use Rattle.std.specs.declared.cmp.Ordering.TheVariants.{Less, Equal, Greater}
use Rattle.thor_value.proofs.NameOrders.{oref_total, oref_exact}
use Rattle.thor_value.proofs.Rising.{all_at, none_below, over}
use Rattle.thor_value.specs.Names.{oref_cmp}
use Rattle.thor_value.specs.Rising.{Rise}
use Rattle.thor_value.specs.declared.names.Oref.{Oref}
use Rattle.client_cache.specs.Pages.{page_of, same_name}
use Rattle.std.proofs.lemmas.Bool.{eq-eqb}
use Rattle.client_cache.proofs.PageLookups.{itself}
use Rattle.client_cache.proofs.SettledOne.{one-name}

-- ---- the two tests of names are one

equal_itself : (k : Oref) → is_at (oref_cmp k) k ≡ true
equal_itself k = (eq_by_cmp_equiv oref_total).refl k

same_there : (x : Oref) → same_name x x ≡ true
same_there x = rw (itself (page_of x), eq-eqb x.slot x.slot refl) refl

pub name_tests : (x y : Oref) → same_name x y ≡ is_at (oref_cmp x) y
name_tests x y = by (same_name x y) (is_at (oref_cmp x) y) refl refl
  where
    by : (a b : Bool) → same_name x y ≡ a → is_at (oref_cmp x) y ≡ b → a ≡ b
    by true true g h = refl
    by false false g h = refl
    by true false g h = sym (subst (λ (z : Oref). is_at (oref_cmp x) z ≡ true) (one-name x y g) (equal_itself x)) ∙ h
    by false true g h = sym g ∙ subst (λ (z : Oref). same_name x z ≡ true) (tells_apart oref_exact x y h) (same_there x)

-- ---- the names that are left without some

-- without a name that isn't among them
pub none_removed : (x : Oref) (xs : List Oref) → list_any (is_at (oref_cmp x)) xs ≡ false → filter (λ y. not (same_name x y)) xs ≡ xs
none_removed x [] h = refl
none_removed x (q ∷ xs) h = (elim (is_at (oref_cmp x) q) as (λ b. is_at (oref_cmp x) q ≡ b → filter (λ y. not (same_name x y)) (q ∷ xs) ≡ q ∷ xs) [
  | true ↦ λ t. let never = rw t at h in cc
  | false ↦ λ t. rw (name_tests x q, t) (ap (λ (ys : List Oref). q ∷ ys) (none_removed x xs (rw t at h)))
]) refl

-- without the name at a place
removed_here : (q x : Oref) (xs : List Oref) → oref_cmp q x ≡ Equal → Rise (q ∷ xs) → xs ≡ filter (λ y. not (same_name x y)) (q ∷ xs)
unfolding IsStrictlySortedBy
removed_here q x xs is rise =
    let e : q ≡ x = oref_exact q x is in
    let none : list_any (is_at (oref_cmp x)) xs ≡ false = subst (λ (z : Oref). list_any (is_at (oref_cmp z)) xs ≡ false) e (none_below q xs rise.0) in
    let same : same_name x q ≡ true = subst (λ (z : Oref). same_name x z ≡ true) (sym e) (same_there x) in
    rw same (sym (none_removed x xs none))

removed_behind : (q x : Oref) (xs left : List Oref) → oref_cmp x q ≡ Greater → left ≡ filter (λ y. not (same_name x y)) xs → q ∷ left ≡ filter (λ y. not (same_name x y)) (q ∷ xs)
removed_behind q x xs left g h = rw (name_tests x q, g) (ap (λ (ys : List Oref). q ∷ ys) h)

pub removed_at : (xs : List Oref) (x : Oref) (at : ℕ) → Rise xs → at < length xs → oref_cmp (slice_index_or xs at x) x ≡ Equal → remove xs at ≡ filter (λ y. not (same_name x y)) xs
unfolding IsStrictlySortedBy
removed_at [] x at rise within is = absurd (omega (arith, within))
removed_at (q ∷ xs) x zero rise within is = removed_here q x xs is rise
removed_at (q ∷ xs) x (suc at) rise within is =
    let y = slice_index_or xs at x in
    let lt : oref_cmp q y ≡ Less = all_at (λ z. oref_cmp q z ≡ Less) xs x at rise.0 (omega (arith, within)) in
    let g : oref_cmp x q ≡ Greater = sym (oref_total.congr y x q is) ∙ over q y lt in
    removed_behind q x xs (remove xs at) g (removed_at xs x at rise.1 (omega (arith, within)) is)

or_none : (b : Bool) → (b || false) ≡ b
or_none true = refl
or_none false = refl

or_apart : (a b c : Bool) → (a || (b || c)) ≡ ((a || b) || c)
or_apart true b c = refl
or_apart false b c = refl

-- where nothing is dropped, and where one more name is
pub none_dropped : (ws : List Oref) → filter (λ (x : Oref). true) ws ≡ ws
none_dropped [] = refl
none_dropped (w ∷ ws) = ap (λ (l : List Oref). w ∷ l) (none_dropped ws)

any_more : (y w : Oref) (zs : List Oref) → list_any (λ z. same_name z w) (zs ++ y ∷ []) ≡ (list_any (λ z. same_name z w) zs || same_name y w)
any_more y w [] = or_none (same_name y w)
any_more y w (z ∷ zs) = ap (λ (b : Bool). same_name z w || b) (any_more y w zs) ∙ or_apart (same_name z w) (list_any (λ z. same_name z w) zs) (same_name y w)

drop_turn : (a b : Bool) (w : Oref) (p : Oref → Bool) (l m : List Oref) → p w ≡ not b → filter p l ≡ m → filter p (cond (not a) (w ∷ l) l) ≡ cond (not (a || b)) (w ∷ m) m
drop_turn true b w p l m e h = h
drop_turn false true w p l m e h = rw e h
drop_turn false false w p l m e h = rw e (ap (λ (ws : List Oref). w ∷ ws) h)

pub one_more_dropped : (ys : List Oref) (y : Oref) (ws : List Oref)
    → filter (λ x. not (same_name y x)) (filter (λ x. not (list_any (λ z. same_name z x) ys)) ws) ≡ filter (λ x. not (list_any (λ z. same_name z x) (ys ++ y ∷ []))) ws
one_more_dropped ys y [] = refl
one_more_dropped ys y (w ∷ ws) = rw (any_more y w ys)
    (drop_turn (list_any (λ z. same_name z w) ys) (same_name y w) w (λ x. not (same_name y x)) (filter (λ x. not (list_any (λ z. same_name z x) ys)) ws) _ refl (one_more_dropped ys y ws))

pub dropped_next : (names : List Oref) (i : ℕ) (d : Oref) (ws a b : List Oref) → i < length names
    → a ≡ filter (λ x. not (list_any (λ y. same_name y x) (take i names))) ws → b ≡ filter (λ x. not (same_name (get_or names i d) x)) a
    → b ≡ filter (λ x. not (list_any (λ y. same_name y x) (take (i + 1) names))) ws
dropped_next names i d ws a b within before here =
    let e : i + 1 ≡ suc i = omega arith in
    let step : take (i + 1) names ≡ take i names ++ get_or names i d ∷ [] = ap (λ (k : ℕ). take k names) e ∙ take-suc names i d within in
    here
    ∙ ap (λ (l : List Oref). filter (λ x. not (same_name (get_or names i d) x)) l) before
    ∙ one_more_dropped (take i names) (get_or names i d) ws
    ∙ sym (ap (λ (l : List Oref). filter (λ x. not (list_any (λ y. same_name y x) l)) ws) step)

-- ---- a name is put

turn : (a b c : Bool) → (a || (b || c)) ≡ (b || (a || c))
turn true true c = refl
turn true false c = refl
turn false true c = refl
turn false false c = refl

twice : (a c : Bool) → (a || c) ≡ (a || (a || c))
twice true c = refl
twice false c = refl

either : (b c : Bool) → (b || c) ≡ cond b true c
either true c = refl
either false c = refl

put_any : (t : Oref → Bool) (k : Oref) (xs : List Oref) → list_any t (insert_key oref_cmp xs k) ≡ (t k || list_any t xs)
put_any t k [] = refl
put_any t k (y ∷ xs) = (elim (oref_cmp k y) as (λ o. oref_cmp k y ≡ o → list_any t (insert_key oref_cmp (y ∷ xs) k) ≡ (t k || list_any t (y ∷ xs))) [
  | Less ↦ λ e. rw e refl
  | Equal ↦ λ e. rw e (subst (λ z. (t y || list_any t xs) ≡ (t z || (t y || list_any t xs))) (sym (oref_exact k y e)) (twice (t y) (list_any t xs)))
  | Greater ↦ λ e. rw e (ap (λ b. t y || b) (put_any t k xs) ∙ turn (t y) (t k) (list_any t xs))
]) refl

-- two names are one, whichever is asked for
alike : (x k : Oref) → is_at (oref_cmp x) k ≡ is_at (oref_cmp k) x
alike x k = (eq_by_cmp_equiv oref_total).symm x k

-- what is found behind a name that was put
pub put_has : (xs : List Oref) (k x : Oref) → list_any (is_at (oref_cmp x)) (insert_key oref_cmp xs k) ≡ cond (is_at (oref_cmp k) x) true (list_any (is_at (oref_cmp x)) xs)
put_has xs k x = put_any (is_at (oref_cmp x)) k xs ∙ ap (λ b. b || list_any (is_at (oref_cmp x)) xs) (alike x k) ∙ either (is_at (oref_cmp k) x) (list_any (is_at (oref_cmp x)) xs)

-- ---- the last of them goes

all_before : (P : Oref → Type 0) (xs : List Oref) (k : Oref) → AllByRecursion P (xs ++ k ∷ []) → AllByRecursion P xs
all_before P [] k h = tt
all_before P (x ∷ xs) k h = (h.0, all_before P xs k h.1)

at_end : (P : Oref → Type 0) (xs : List Oref) (k : Oref) → AllByRecursion P (xs ++ k ∷ []) → P k
at_end P [] k h = h.0
at_end P (x ∷ xs) k h = at_end P xs k h.1

rise_before : (xs : List Oref) (k : Oref) → Rise (xs ++ k ∷ []) → Rise xs
unfolding IsStrictlySortedBy
rise_before [] k h = tt
rise_before (x ∷ xs) k h = (all_before (λ z. oref_cmp x z ≡ Less) xs k h.0, rise_before xs k h.1)

-- the last isn't among those before it
none_before : (xs : List Oref) (k : Oref) → Rise (xs ++ k ∷ []) → list_any (is_at (oref_cmp k)) xs ≡ false
unfolding IsStrictlySortedBy
none_before [] k h = refl
none_before (z ∷ xs) k h = let g : oref_cmp k z ≡ Greater = over z k (at_end (λ y. oref_cmp z y ≡ Less) xs k h.0) in rw g (none_before xs k h.1)

any_before : (t : Oref → Bool) (xs : List Oref) (k : Oref) → t k ≡ false → list_any t (xs ++ k ∷ []) ≡ list_any t xs
any_before t [] k h = rw h refl
any_before t (z ∷ xs) k h = ap (λ b. t z || b) (any_before t xs k h)

left_before : (xs : List Oref) (k : Oref) → Rise (xs ++ k ∷ []) → (x : Oref)
    → list_any (is_at (oref_cmp x)) xs ≡ cond (is_at (oref_cmp k) x) false (list_any (is_at (oref_cmp x)) (xs ++ k ∷ []))
left_before xs k h x = (elim (is_at (oref_cmp k) x) as (λ b. is_at (oref_cmp k) x ≡ b → list_any (is_at (oref_cmp x)) xs ≡ cond b false (list_any (is_at (oref_cmp x)) (xs ++ k ∷ []))) [
  | true ↦ λ t. subst (λ y. list_any (is_at (oref_cmp y)) xs ≡ false) (tells_apart oref_exact k x t) (none_before xs k h)
  | false ↦ λ t. sym (any_before (is_at (oref_cmp x)) xs k (alike x k ∙ t))
]) refl

pub popped_rise : (all xs : List Oref) (o : Option Oref) → all ≡ xs ++ option_to_list o → Rise all → Rise xs
popped_rise all xs None e h = subst Rise (e ∙ append-nil xs) h
popped_rise all xs (Some k) e h = rise_before xs k (subst Rise e h)

-- what is found behind the last that was taken out
pub popped_left : (all xs : List Oref) (o : Option Oref) → all ≡ xs ++ option_to_list o → Rise all
    → IfSome o (λ k. (x : Oref) → list_any (is_at (oref_cmp x)) xs ≡ cond (is_at (oref_cmp k) x) false (list_any (is_at (oref_cmp x)) all))
popped_left all xs None e h = tt
popped_left all xs (Some k) e h = λ x. rw e (left_before xs k (subst Rise e h) x)
