-- Another repository at a place of the list.
use Rattle.cluster_port.specs.Lent.{AreInPlace}
use Rattle.repo_site.specs.Sited.{Sited}
use Rattle.std.proofs.Common.{List, [], ap, false, get_or, inl, inr, length, refl, subst, suc, sym, true, zero, ℕ, ◌<◌, ◌∙◌, ◌∷◌, ◌≡◌, ◌≤◌}
use Rattle.std.proofs.lemmas.Option.{slice_get_cases, slice_get_read}
use Rattle.std.specs.List.{slice_get}
use Rattle.std.specs.Prelude.{None, Some, slice_set, ◌≢◌, ◌⊎◌}

-- ---- lists

pub set_here : (xs : List Sited) (r : ℕ) (old new : Sited) → slice_get xs r ≡ Some old → slice_get (slice_set xs r new) r ≡ Some new
set_here [] r old new e = cc
set_here (x ∷ xs) zero old new e = refl
set_here (x ∷ xs) (suc r) old new e = set_here xs r old new e

pub set_there : (xs : List Sited) (r n : ℕ) (new : Sited) → n ≢ r → slice_get (slice_set xs r new) n ≡ slice_get xs n
set_there [] r n new other = refl
set_there (x ∷ xs) zero zero new other = absurd (other refl)
set_there (x ∷ xs) zero (suc n) new other = refl
set_there (x ∷ xs) (suc r) zero new other = refl
set_there (x ∷ xs) (suc r) (suc n) new other = set_there xs r n new (λ e. other (ap suc e))

pub set_length : (xs : List Sited) (r : ℕ) (new : Sited) → length (slice_set xs r new) ≡ length xs
set_length [] r new = refl
set_length (x ∷ xs) zero new = refl
set_length (x ∷ xs) (suc r) new = ap suc (set_length xs r new)

pub some_same : (x y : Sited) → Some x ≡ Some y → x ≡ y
some_same x y e = cc

eq_or_not : (n r : ℕ) → (n ≡ r) ⊎ (n ≢ r)
eq_or_not zero zero = inl refl
eq_or_not zero (suc r) = inr (λ e. cc)
eq_or_not (suc n) zero = inr (λ e. cc)
eq_or_not (suc n) (suc r) = next (eq_or_not n r)
  where
    pred_same : suc n ≡ suc r → n ≡ r
    pred_same e = cc

    next : (n ≡ r) ⊎ (n ≢ r) → (suc n ≡ suc r) ⊎ (suc n ≢ suc r)
    next (inl e) = inl (ap suc e)
    next (inr other) = inr (λ e. other (pred_same e))

-- another in the place of one, with its number
pub placed_with : (sites : List Sited) (r : ℕ) (old new : Sited) → AreInPlace sites → slice_get sites r ≡ Some old → new.number ≡ old.number → AreInPlace (slice_set sites r new)
placed_with sites r old new a there same = record { placed = λ n x is. by n x is (eq_or_not n r) }
  where
    by : (n : ℕ) (x : Sited) → slice_get (slice_set sites r new) n ≡ Some x → (n ≡ r) ⊎ (n ≢ r) → x.number ≡ n
    by n x is (inl e) =
        let here : slice_get (slice_set sites r new) r ≡ Some x = subst (λ (m : ℕ). slice_get (slice_set sites r new) m ≡ Some x) e is in
        let one : x ≡ new = some_same x new (sym here ∙ set_here sites r old new there) in
        ap (λ (y : Sited). y.number) one ∙ (same ∙ (a.placed r old there ∙ sym e))
    by n x is (inr other) = a.placed n x (sym (set_there sites r n new other) ∙ is)

-- one that was read at a place, with the same number
pub placed_at : (sites : List Sited) (i n : ℕ) (old new : Sited) → AreInPlace sites → new.number ≡ old.number → n ≡ length sites → i < n → old ≡ get_or sites i old → AreInPlace (slice_set sites i new)
placed_at sites i n old new a same count within found = placed_with sites i old new a (slice_get_read sites n i old count within found) same

-- none is behind the last
pub past : {X : Type 0} (sites : List X) (i n : ℕ) → n ≡ length sites → (i < n → false ≡ true) → slice_get sites i ≡ None
past {X} sites i n count out = by (slice_get_cases sites i).1
  where
    by : ((x : X) × (i < length sites) × (slice_get sites i ≡ Some x) × (get_or sites i x ≡ x)) ⊎ ((length sites ≤ i) × (slice_get sites i ≡ None)) → slice_get sites i ≡ None
    by (inl y) = let w : i < n = subst (λ (k : ℕ). i < k) (sym count) y.1 in let no : false ≡ true = out w in cc
    by (inr y) = y.1
