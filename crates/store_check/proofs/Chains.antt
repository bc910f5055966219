-- Steps from name to name, each to one name at most: where they end, no name is met twice.
use Rattle.std.proofs.Common.{◌≡◌, ◌⊎◌, ◌≤◌, ◌||◌, ℕ, zero, suc, Bool, true, false, List, [], ◌∷◌, length, Option, Some, None, inl, inr, is_some, refl, sym, ap, subst, ◌∙◌}
use Rattle.std.proofs.lemmas.Cmp.{eq_by_cmp_equiv}
use Rattle.std.proofs.lemmas.Map.Steps.{length-le_from_keys}
use Rattle.std.proofs.lemmas.Map.Views.{tells_apart}
use Rattle.std.proofs.lemmas.Bool.{both_ways, or_cases, or_parts}
use Rattle.std.specs.List.{AllByRecursion, IsDistinct, list_any}
use Rattle.std.specs.Map.{lookup}
use Rattle.thor_value.proofs.NameOrders.{oref_exact, oref_total}
use Rattle.thor_value.specs.Names.{same_oref}
use Rattle.thor_value.specs.declared.names.Oref.{Oref}

some_not_none : {X : Type 0} {x : X} → Some x ≡ None → ⊥
some_not_none h = cc

none_later : (p : Oref → Bool) (xs : List Oref) → list_any p xs ≡ false → AllByRecursion (λ y. p y ≡ false) xs
none_later p [] h = tt
none_later p (x ∷ xs) h = let t = or_parts (p x) (list_any p xs) h in (t.0, none_later p xs t.1)

abbrev pub onto : Option Oref → (Oref → Option Oref) → Option Oref
onto None f = None
onto (Some a) f = f a

abbrev linked : Option Oref → (Oref → List Oref) → List Oref
linked None f = []
linked (Some a) f = a ∷ f a

module _ (o : Oref → Option Oref) where
  -- where k steps lead
  abbrev pub go : ℕ → Oref → Option Oref
  go zero x = Some x
  go (suc k) x = onto (o x) (λ a. go k a)

  -- the names on the way
  abbrev chain : ℕ → Oref → List Oref
  chain zero x = []
  chain (suc k) x = linked (o x) (λ a. chain k a)

  pub ended : (k : ℕ) (x : Oref) → go k x ≡ None → go (suc k) x ≡ None
  ended zero x h = absurd (some_not_none h)
  ended (suc k) x h = by_step (λ a g. ended k a g) (o x) h
    where
      by_step : ((a : Oref) → go k a ≡ None → go (suc k) a ≡ None) → (w : Option Oref) → onto w (λ a. go k a) ≡ None → onto w (λ a. go (suc k) a) ≡ None
      by_step ih None g = refl
      by_step ih (Some a) g = ih a g

  all_there : (k : ℕ) (x a : Oref) → go k x ≡ Some a → length (chain k x) ≡ k
  all_there zero x a h = refl
  all_there (suc k) x a h = by_step (λ b g. all_there k b a g) (o x) h
    where
      by_step : ((b : Oref) → go k b ≡ Some a → length (chain k b) ≡ k) → (w : Option Oref) → onto w (λ b. go k b) ≡ Some a → length (linked w (λ b. chain k b)) ≡ suc k
      by_step ih None g = absurd (some_not_none (sym g))
      by_step ih (Some b) g = ap suc (ih b g)

  met : (n : ℕ) (b : Oref) → go n b ≡ None → (j : ℕ) (a : Oref) → list_any (same_oref a) (chain j b) ≡ true → go n a ≡ None
  met n b h zero a e = absurd (both_ways _ refl e)
  met zero b h (suc j) a e = absurd (some_not_none h)
  met (suc n) b h (suc j) a e = by_step (λ c g t. met n c g j a t) (o b) h e
    where
      by_name : ((c : Oref) → go n c ≡ None → list_any (same_oref a) (chain j c) ≡ true → go n a ≡ None)
          → (c : Oref) → go n c ≡ None → (same_oref a c ≡ true) ⊎ (list_any (same_oref a) (chain j c) ≡ true) → go (suc n) a ≡ None
      by_name ih c g (inl same) = ended n a (subst (λ y. go n y ≡ None) (sym (tells_apart oref_exact a c same)) g)
      by_name ih c g (inr later) = ended n a (ih c g later)

      by_step : ((c : Oref) → go n c ≡ None → list_any (same_oref a) (chain j c) ≡ true → go n a ≡ None)
          → (w : Option Oref) → onto w (λ c. go n c) ≡ None → list_any (same_oref a) (linked w (λ c. chain j c)) ≡ true → go (suc n) a ≡ None
      by_step ih None g t = absurd (both_ways _ refl t)
      by_step ih (Some c) g t = by_name ih c g (or_cases (same_oref a c) (list_any (same_oref a) (chain j c)) t)

  not_again : (n : ℕ) (a : Oref) → go n a ≡ None → (k : ℕ) → list_any (same_oref a) (chain k a) ≡ true → ⊥
  not_again n a h zero e = both_ways _ refl e
  not_again zero a h (suc k) e = some_not_none h
  not_again (suc n) a h (suc k) e = not_again n a (by_step (o a) h e) (suc k) e
    where
      by_name : (b : Oref) → go n b ≡ None → (same_oref a b ≡ true) ⊎ (list_any (same_oref a) (chain k b) ≡ true) → go n a ≡ None
      by_name b g (inl same) = subst (λ y. go n y ≡ None) (sym (tells_apart oref_exact a b same)) g
      by_name b g (inr later) = met n b g k a later

      by_step : (w : Option Oref) → onto w (λ b. go n b) ≡ None → list_any (same_oref a) (linked w (λ b. chain k b)) ≡ true → go n a ≡ None
      by_step None g t = absurd (both_ways _ refl t)
      by_step (Some b) g t = by_name b g (or_cases (same_oref a b) (list_any (same_oref a) (chain k b)) t)

  distinct : (n k : ℕ) (x : Oref) → go n x ≡ None → IsDistinct same_oref (chain k x)
  unfolding IsDistinct
  distinct n zero x h = tt
  distinct zero (suc k) x h = absurd (some_not_none h)
  distinct (suc n) (suc k) x h = by_step (λ a g. distinct n k a g) (o x) h
    where
      by_test : (a : Oref) → go n a ≡ None → (b : Bool) → list_any (same_oref a) (chain k a) ≡ b → list_any (same_oref a) (chain k a) ≡ false
      by_test a g true e = absurd (not_again n a g k e)
      by_test a g false e = e

      by_step : ((a : Oref) → go n a ≡ None → IsDistinct same_oref (chain k a)) → (w : Option Oref) → onto w (λ a. go n a) ≡ None → IsDistinct same_oref (linked w (λ a. chain k a))
      by_step ih None g = tt
      by_step ih (Some a) g = (none_later (same_oref a) (chain k a) (by_test a g (list_any (same_oref a) (chain k a)) refl), ih a g)

  module _ {X : Type 0} (es : List (Oref × X)) (known : (x a : Oref) → o x ≡ Some a → is_some (lookup (same_oref a) es) ≡ true) where
    each_known : (k : ℕ) (x q : Oref) → list_any (same_oref q) (chain k x) ≡ true → is_some (lookup (same_oref q) es) ≡ true
    each_known zero x q h = absurd (both_ways _ refl h)
    each_known (suc k) x q h = by_step (λ a t. each_known k a q t) (o x) refl h
      where
        by_name : ((a : Oref) → list_any (same_oref q) (chain k a) ≡ true → is_some (lookup (same_oref q) es) ≡ true)
            → (a : Oref) → o x ≡ Some a → (same_oref q a ≡ true) ⊎ (list_any (same_oref q) (chain k a) ≡ true) → is_some (lookup (same_oref q) es) ≡ true
        by_name ih a is (inl same) = subst (λ y. is_some (lookup (same_oref y) es) ≡ true) (sym (tells_apart oref_exact q a same)) (known x a is)
        by_name ih a is (inr later) = ih a later

        by_step : ((a : Oref) → list_any (same_oref q) (chain k a) ≡ true → is_some (lookup (same_oref q) es) ≡ true)
            → (w : Option Oref) → o x ≡ w → list_any (same_oref q) (linked w (λ a. chain k a)) ≡ true → is_some (lookup (same_oref q) es) ≡ true
        by_step ih None is t = absurd (both_ways _ refl t)
        by_step ih (Some a) is t = by_name ih a is (or_cases (same_oref q a) (list_any (same_oref q) (chain k a)) t)

    -- from where steps end, no more than there are names lead anywhere
    pub at_most_all : (n k : ℕ) (x a : Oref) → go n x ≡ None → go k x ≡ Some a → k ≤ length es
    at_most_all n k x a h is =
        subst (λ j. j ≤ length es) (all_there k x a is)
        (length-le_from_keys (eq_by_cmp_equiv oref_total) (chain k x) es (distinct n k x h) (each_known k x))
