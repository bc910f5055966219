-- The least of the names that fail a test.
use Rattle.store_check.specs.Tests.{least_with}
use Rattle.std.proofs.Common.{◌≡◌, ◌⊎◌, ◌||◌, ℕ, zero, suc, Bool, true, false, cond, List, [], ◌∷◌, Option, Some, None, inl, inr, refl, sym, ap, subst, slice_get, ◌∙◌}
use Rattle.std.proofs.lemmas.Cmp.{tied_itself}
use Rattle.std.proofs.lemmas.Map.Views.{tells_apart}
use Rattle.std.proofs.lemmas.Bool.{both_ways}
use Rattle.std.proofs.lemmas.Option.{same_Some}
use Rattle.std.specs.List.{fold, list_any}
use Rattle.std.specs.Ordering.{is_lt}
use Rattle.std.specs.declared.cmp.Ordering.{Ordering}
use Rattle.std.specs.declared.cmp.Ordering.TheVariants.{Equal, Greater, Less}
use Rattle.thor_value.proofs.NameOrders.{oref_exact, oref_total}
use Rattle.thor_value.specs.Names.{oref_cmp, same_oref}
use Rattle.thor_value.specs.declared.names.Oref.{Oref}

not_before_itself : (x : Oref) → oref_cmp x x ≡ Less → ⊥
not_before_itself x h = let e : Less ≡ Equal = sym h ∙ tied_itself oref_total x in cc

is_less : (o : Ordering) → is_lt o ≡ true → o ≡ Less
is_less Less h = refl
is_less Equal h = cc
is_less Greater h = cc

-- a name is the least of those of which Bad holds, or it holds of none
abbrev pub IsLeast : (Oref → Type 0) → Option Oref → Type 0
IsLeast Bad None = (y : Oref) → ¬ Bad y
IsLeast Bad (Some x) = Bad x × ((y : Oref) → oref_cmp y x ≡ Less → ¬ Bad y)

pub as_least : (P Q : Oref → Type 0) → ((y : Oref) → P y → Q y) → ((y : Oref) → Q y → P y) → (u : Option Oref) → IsLeast P u → IsLeast Q u
as_least P Q f g None h = λ y q. h y (g y q)
as_least P Q f g (Some x) h = (f x h.0, λ y low q. h.1 y low (g y q))

abbrev Or : (Oref → Type 0) → Bool → Oref → Oref → Type 0
Or Bad b z y = Bad y ⊎ ((b ≡ false) × (y ≡ z))

least_step : (Bad : Oref → Type 0) (b : Bool) (z : Oref) (u : Option Oref) → IsLeast Bad u → IsLeast (Or Bad b z) (least_with b z u)
least_step Bad true z u h = as_least Bad (Or Bad true z) (λ y p. inl p) back u h
  where
    back : (y : Oref) → Or Bad true z y → Bad y
    back y (inl p) = p
    back y (inr e) = absurd (both_ways _ e.0 refl)
least_step Bad false z None h = (inr (refl, refl), none)
  where
    none : (y : Oref) → oref_cmp y z ≡ Less → ¬ Or Bad false z y
    none y low (inl p) = h y p
    none y low (inr e) = not_before_itself z (subst (λ x. oref_cmp x z ≡ Less) e.1 low)
least_step Bad false z (Some x) h = by_order (is_lt (oref_cmp z x)) refl
  where
    by_order : (t : Bool) → is_lt (oref_cmp z x) ≡ t → IsLeast (Or Bad false z) (Some (cond t z x))
    by_order true e = (inr (refl, refl), none)
      where
        none : (y : Oref) → oref_cmp y z ≡ Less → ¬ Or Bad false z y
        none y low (inl p) = h.1 y (oref_total.trans y z x low (is_less (oref_cmp z x) e)) p
        none y low (inr f) = not_before_itself z (subst (λ w. oref_cmp w z ≡ Less) f.1 low)
    by_order false e = (inl h.0, none)
      where
        none : (y : Oref) → oref_cmp y x ≡ Less → ¬ Or Bad false z y
        none y low (inl p) = h.1 y low p
        none y low (inr f) =
            let less : oref_cmp z x ≡ Less = subst (λ w. oref_cmp w x ≡ Less) f.1 low in
            let t : is_lt (oref_cmp z x) ≡ true = ap is_lt less in
            both_ways _ e t

-- x is one of these
abbrev pub Among : {X : Type 0} → List X → X → Type 0
Among [] x = ⊥
Among (y ∷ ys) x = (x ≡ y) ⊎ Among ys x

pub among_names : (xs : List Oref) (x : Oref) → list_any (same_oref x) xs ≡ true → Among xs x
among_names [] x h = both_ways _ refl h
among_names (y ∷ ys) x h = by_test (same_oref x y) refl (λ t. among_names ys x t) h
  where
    by_test : (b : Bool) → same_oref x y ≡ b → (list_any (same_oref x) ys ≡ true → Among ys x) → (b || list_any (same_oref x) ys) ≡ true → Among (y ∷ ys) x
    by_test true e later t = inl (tells_apart oref_exact x y e)
    by_test false e later t = inr (later t)

pub among_at : {X : Type 0} (xs : List X) (i : ℕ) (x : X) → slice_get xs i ≡ Some x → Among xs x
among_at [] i x h = absurd (empty_not h)
  where
    empty_not : None ≡ Some x → ⊥
    empty_not e = cc
among_at (y ∷ ys) zero x h = inl (sym (same_Some _ _ h))
among_at (y ∷ ys) (suc i) x h = inr (among_at ys i x h)

module _ {X : Type 0} (test : X → Bool) (name : X → Oref) where
  pub record Fails (xs : List X) (y : Oref) : Type 0 where
    pub item : X
    pub among : Among xs item
    pub fails : test item ≡ false
    pub is : y ≡ name item

  later : (x : X) (xs : List X) (y : Oref) → Fails xs y → Fails (x ∷ xs) y
  later x xs y f = record { item = f.item; among = inr f.among; fails = f.fails; is = f.is }

  -- the least of the names of items that fail, and of those of which Bad holds
  pub least_of : (xs : List X) (Bad : Oref → Type 0) (u : Option Oref) → IsLeast Bad u
      → IsLeast (λ y. Bad y ⊎ Fails xs y) (fold (λ found x. least_with (test x) (name x) found) u xs)
  least_of [] Bad u h = as_least Bad (λ y. Bad y ⊎ Fails [] y) (λ y p. inl p) back u h
    where
      back : (y : Oref) → Bad y ⊎ Fails [] y → Bad y
      back y (inl p) = p
      back y (inr f) = absurd f.among
  least_of (x ∷ xs) Bad u h =
      as_least (λ y. Or Bad (test x) (name x) y ⊎ Fails xs y) (λ y. Bad y ⊎ Fails (x ∷ xs) y) forth back (fold (λ found z. least_with (test z) (name z) found) u (x ∷ xs))
      (least_of xs (Or Bad (test x) (name x)) (least_with (test x) (name x) u) (least_step Bad (test x) (name x) u h))
    where
      forth : (y : Oref) → Or Bad (test x) (name x) y ⊎ Fails xs y → Bad y ⊎ Fails (x ∷ xs) y
      forth y (inl (inl p)) = inl p
      forth y (inl (inr e)) = inr (record { item = x; among = inl refl; fails = e.0; is = e.1 })
      forth y (inr f) = inr (later x xs y f)

      by_place : (y : Oref) (f : Fails (x ∷ xs) y) → (f.item ≡ x) ⊎ Among xs f.item → Or Bad (test x) (name x) y ⊎ Fails xs y
      by_place y f (inl e) = inl (inr (subst (λ z. test z ≡ false) e f.fails, f.is ∙ ap name e))
      by_place y f (inr a) = inr (record { item = f.item; among = a; fails = f.fails; is = f.is })

      back : (y : Oref) → Bad y ⊎ Fails (x ∷ xs) y → Or Bad (test x) (name x) y ⊎ Fails xs y
      back y (inl p) = inl (inl p)
      back y (inr f) = by_place y f f.among
