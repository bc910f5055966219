-- Ways that are doubled until one that hasn't ended never ends.
use Rattle.class_defs.specs.Stored.{Objects}
use Rattle.class_defs.specs.declared.store.Schemas.{Schemas}
use Rattle.store_check.proofs.Walks.{first_are_ways, longer_are_ways}
use Rattle.store_check.specs.Naming.{Namings, namings}
use Rattle.store_check.specs.Reached.{AreWays, AreWhole}
use Rattle.store_check.specs.Ways.{Ways, goes_on, longer, one_step, some_goes_on, way_or_none, ways_for}
use Rattle.std.proofs.Common.{◌≡◌, ◌<◌, ◌+◌, ◌*◌, ◌||◌, ℕ, Bool, true, false, cond, List, [], ◌∷◌, length, Option, Some, None, inl, inr, is_some, refl, sym, ap, subst, arith, ◌∙◌}
use Rattle.std.proofs.lemmas.Map.Entries.{length-keys_of}
use Rattle.std.proofs.lemmas.Map.Views.{tells_apart}
use Rattle.std.proofs.lemmas.Bool.{both_ways}
use Rattle.std.specs.List.{fold, list_any}
use Rattle.thor_value.proofs.NameOrders.{oref_exact}
use Rattle.thor_value.specs.FiniteMap.{get, keys, len}
use Rattle.thor_value.specs.Names.{same_oref}
use Rattle.thor_value.specs.declared.names.Oref.{Oref}

nothing : {X : Type 0} (w : Option X) → is_some w ≡ false → w ≡ None
nothing None h = refl
nothing (Some x) h = absurd (both_ways _ h refl)

neither : (a b : Bool) → cond a true b ≡ false → (a ≡ false) × (b ≡ false)
neither true b h = absurd (both_ways _ h refl)
neither false b h = (refl, h)

none_goes : (ws : Ways) (names : List Oref) (b : Bool) → fold (λ before x. goes_on ws before x) b names ≡ false
    → (b ≡ false) × ((x : Oref) → list_any (same_oref x) names ≡ true → (way_or_none (get ws x)).next ≡ None)
unfolding goes_on
none_goes ws [] b h = (h, λ x e. absurd (both_ways _ refl e))
none_goes ws (y ∷ names) b h =
    let rest = none_goes ws names (goes_on ws b y) h in
    let here = neither (is_some (way_or_none (get ws y)).next) b rest.0 in
    (here.1, λ x e. by_test x here.0 rest.1 (same_oref x y) refl e)
  where
    by_test : (x : Oref) → is_some (way_or_none (get ws y)).next ≡ false → ((z : Oref) → list_any (same_oref z) names ≡ true → (way_or_none (get ws z)).next ≡ None)
        → (b : Bool) → same_oref x y ≡ b → (b || list_any (same_oref x) names) ≡ true → (way_or_none (get ws x)).next ≡ None
    by_test x here later true e g = subst (λ z. (way_or_none (get ws z)).next ≡ None) (sym (tells_apart oref_exact x y e)) (nothing (way_or_none (get ws y)).next here)
    by_test x here later false e g = later x g

module _ (s : Schemas) (m : Objects) (n : Namings) (names : List Oref) (noted : n ≡ namings s m) (all : names ≡ keys m) where
  pub first_ways_are : (ws : Ways) → ws ≡ ways_for (one_step s m n) names → AreWays s m n 1 ws
  first_ways_are ws e =
      let same : ws ≡ ways_for (one_step s m (namings s m)) (keys m) = e ∙ ap (ways_for (one_step s m n)) all ∙ ap (λ k. ways_for (one_step s m k) (keys m)) noted in
      subst (λ k. AreWays s m k 1 ws) (sym noted) (subst (AreWays s m (namings s m) 1) (sym same) (first_are_ways s m))

  pub longer_ways_are : (k : ℕ) (ws vs : Ways) → AreWays s m n k ws → vs ≡ ways_for (longer ws) names → AreWays s m n (k * 2) vs
  longer_ways_are k ws vs are e =
      let twice : k + k ≡ k * 2 = omega arith in
      let same : vs ≡ ways_for (longer ws) (keys m) = e ∙ ap (ways_for (longer ws)) all in
      subst (λ i. AreWays s m n i vs) twice
      (subst (λ k2. AreWays s m k2 (k + k) vs) (sym noted) (subst (AreWays s m (namings s m) (k + k)) (sym same) (longer_are_ways s m k ws (subst (λ k2. AreWays s m k2 k ws) noted are))))

  pub ended_ways_are : (k : ℕ) (ws : Ways) (b : Bool) → AreWays s m n k ws → b ≡ some_goes_on ws names → b ≡ false → AreWhole s m n ws
  ended_ways_are k ws b are e none =
      record { steps = k; ways = are; enough = inl (none_goes ws (keys m) false (sym (ap (some_goes_on ws) all) ∙ sym e ∙ none)).1 }

  pub long_ways_are : (k : ℕ) (ws : Ways) → AreWays s m n k ws → length names < k → AreWhole s m n ws
  long_ways_are k ws are above = record { steps = k; ways = are; enough = inr (more (subst (λ xs. length xs < k) all above)) }
    where
      more : length (keys m) < k → len m < k
      more h = let e : length (keys m) ≡ len m = length-keys_of m.pairs in omega (arith, h, e)
