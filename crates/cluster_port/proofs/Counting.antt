-- Counts of faults, place by place.
use Rattle.cluster_port.proofs.Placing.{set_here}
use Rattle.cluster_port.specs.Counting.{FailedAt, HaveSameFaults}
use Rattle.repo_site.specs.Failing.{HasFailed}
use Rattle.repo_site.specs.Shown.{count_at, faults_of}
use Rattle.repo_site.specs.Sited.{Sited}
use Rattle.std.proofs.Common.{Err, List, Ok, OnOk, Result, [], get_or, length, refl, slice_set, subst, suc, sym, zero, ℕ, ◌<◌, ◌∙◌, ◌∷◌, ◌≡◌}
use Rattle.std.proofs.lemmas.Option.{slice_get_read}
use Rattle.std.specs.List.{slice_get}
use Rattle.std.specs.Prelude.{Some}

pub same_none : (xs : List Sited) → HaveSameFaults xs xs
same_none [] = tt
same_none (x ∷ xs) = (refl, same_none xs)

pub same_then : (xs ys zs : List Sited) → HaveSameFaults xs ys → HaveSameFaults ys zs → HaveSameFaults xs zs
same_then [] [] [] first then = tt
same_then [] [] (z ∷ zs) first then = absurd then
same_then [] (y ∷ ys) zs first then = absurd first
same_then (x ∷ xs) [] zs first then = absurd first
same_then (x ∷ xs) (y ∷ ys) [] first then = absurd then
same_then (x ∷ xs) (y ∷ ys) (z ∷ zs) first then = (then.0 ∙ first.0, same_then xs ys zs first.1 then.1)

some_of : (x y : Sited) → Some x ≡ Some y → x ≡ y
some_of x y e = cc

same_set : (xs : List Sited) (i : ℕ) (old new : Sited) → slice_get xs i ≡ Some old → new.shown.faults ≡ old.shown.faults → HaveSameFaults xs (slice_set xs i new)
same_set [] i old new there same = tt
same_set (x ∷ xs) zero old new there same = (subst (λ (y : Sited). new.shown.faults ≡ y.shown.faults) (sym (some_of x old there)) same, same_none xs)
same_set (x ∷ xs) (suc i) old new there same = (refl, same_set xs i old new there same)

-- one was called that counted no more
pub same_at : (xs : List Sited) (i n : ℕ) (old new : Sited) → n ≡ length xs → i < n → old ≡ get_or xs i old → new.shown.faults ≡ old.shown.faults → HaveSameFaults xs (slice_set xs i new)
same_at xs i n old new count within found same = same_set xs i old new (slice_get_read xs n i old count within found) same

pub steady_at : {T E : Type 0} (r : Result T E) (xs : List Sited) (i n : ℕ) (old new : Sited) → n ≡ length xs → i < n → old ≡ get_or xs i old → OnOk r (new.shown.faults ≡ old.shown.faults) → OnOk r (HaveSameFaults xs (slice_set xs i new))
steady_at (Ok t) xs i n old new count within found same = same_at xs i n old new count within found same
steady_at (Err e) xs i n old new count within found same = tt

-- one was called of which a disk failed
pub failed_at : (xs : List Sited) (r i n : ℕ) (old new : Sited) → i ≡ r → n ≡ length xs → i < n → old ≡ get_or xs i old → HasFailed (faults_of old.shown) (faults_of new.shown) → FailedAt r xs (slice_set xs i new)
failed_at xs r i n old new here count within found failed =
    let there = slice_get_read xs n i old count within found in
    record {
      before = old;
      behind = new;
      was = subst (λ (k : ℕ). slice_get xs k ≡ Some old) here there;
      is = subst (λ (k : ℕ). slice_get (slice_set xs i new) k ≡ Some new) here (set_here xs i old new there);
      failed = failed;
    }

-- behind calls that counted no more
pub failed_then : (r : ℕ) (xs ys zs : List Sited) → HaveSameFaults xs ys → FailedAt r ys zs → FailedAt r xs zs
failed_then r xs ys zs same f = by (at xs ys r f.before same f.was)
  where
    at : (xs ys : List Sited) (r : ℕ) (y : Sited) → HaveSameFaults xs ys → slice_get ys r ≡ Some y → (x : Sited) × (slice_get xs r ≡ Some x) × (y.shown.faults ≡ x.shown.faults)
    at [] [] r y same is = cc
    at [] (z ∷ ys) r y same is = absurd same
    at (x ∷ xs) [] r y same is = absurd same
    at (x ∷ xs) (z ∷ ys) zero y same is = (x, refl, subst (λ (w : Sited). w.shown.faults ≡ x.shown.faults) (some_of z y is) same.0)
    at (x ∷ xs) (z ∷ ys) (suc r) y same is = at xs ys r y same.1 is

    by : (x : Sited) × (slice_get xs r ≡ Some x) × (f.before.shown.faults ≡ x.shown.faults) → FailedAt r xs zs
    by t = record {
      before = t.0;
      behind = f.behind;
      was = t.1;
      is = f.is;
      failed = subst (λ (c : ℕ × ℕ × ℕ). HasFailed (count_at c) (faults_of f.behind.shown)) t.2 f.failed;
    }
