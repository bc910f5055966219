-- What is told of a stored map is so.
use Rattle.class_defs.specs.Stored.{Objects}
use Rattle.class_defs.specs.declared.store.Root.{Root}
use Rattle.class_defs.specs.declared.store.Schemas.{Schemas}
use Rattle.store_check.proofs.Least.{Among, Fails, IsLeast, among_at, among_names, least_of}
use Rattle.store_check.proofs.Tested.{object_passes, pass_object, pass_root, root_passes}
use Rattle.store_check.proofs.Whole.{of_their_classes, well_owned}
use Rattle.store_check.specs.Fits.{IsFitName, IsFitObject, IsFitRoot, TellsFit, stored_under}
use Rattle.store_check.specs.Naming.{Namings, namings}
use Rattle.store_check.specs.Reached.{AreWhole, IsKey}
use Rattle.store_check.specs.Tests.{least_name, least_root, object_fits, root_fits}
use Rattle.store_check.specs.Ways.{Ways}
use Rattle.store_check.specs.declared.fitting.Fitting.{Fitting}
use Rattle.store_check.specs.declared.fitting.Fitting.TheVariants.{Fits, Unfit}
use Rattle.std.proofs.Common.{◌≡◌, ◌⊎◌, ℕ, suc, Bool, true, false, List, [], ◌∷◌, Option, Some, None, inl, inr, is_some, refl, sym, ap, subst, slice_get, ◌∙◌}
use Rattle.std.proofs.lemmas.Map.Made.{is_some-lookup}
use Rattle.std.proofs.lemmas.Bool.{both_ways}
use Rattle.thor_value.specs.FiniteMap.{get, keys}
use Rattle.thor_value.specs.Names.{same_oref}
use Rattle.thor_value.specs.declared.names.Oref.{Oref}
use Rattle.thor_value.specs.declared.values.Obj.{Obj}

-- what the least name that was found tells
abbrev pub verdict : Option Oref → Fitting
verdict None = Fits
verdict (Some x) = Unfit x

module _ (s : Schemas) (m : Objects) (roots : List Root) (ws : Ways) (whole : AreWhole s m (namings s m) ws) where
  abbrev test : Oref → Bool
  test x = object_fits s m (get (namings s m) x) (get ws x) (get m x)

  abbrev Bad : Oref → Type 0
  Bad y = (⊥ ⊎ Fails test (λ x. x) (keys m) y) ⊎ Fails (root_fits s m) (λ r. r.oref) roots y

  key_of : (x : Oref) (o : Obj) → get m x ≡ Some o → IsKey m x
  key_of x o is = sym (is_some-lookup (same_oref x) m.pairs) ∙ ap is_some is

  bad_object : (y : Oref) (f : Fails test (λ x. x) (keys m) y) → ¬ IsFitName s (stored_under s m roots) y
  bad_object y f fits = by_object (get m y) refl (subst (λ z. test z ≡ false) (sym f.is) f.fails)
    where
      by_object : (w : Option Obj) → get m y ≡ w → object_fits s m (get (namings s m) y) (get ws y) w ≡ false → ⊥
      by_object None is e = both_ways _ e refl
      by_object (Some o) is e = both_ways _ e (pass_object s m ws whole roots y o (key_of y o is) (fits.object o is))

  root_at : (xs : List Root) (r : Root) → Among xs r → (i : ℕ) × (slice_get xs i ≡ Some r)
  root_at [] r h = absurd h
  root_at (x ∷ xs) r (inl e) = (0, ap Some (sym e))
  root_at (x ∷ xs) r (inr a) = let i = root_at xs r a in (suc i.0, i.1)

  bad_root : (y : Oref) (f : Fails (root_fits s m) (λ r. r.oref) roots y) → ¬ IsFitName s (stored_under s m roots) y
  bad_root y f fits =
      let i = root_at roots f.item f.among in
      both_ways _ f.fails (pass_root s m roots f.item (fits.roots i.0 f.item i.1 (sym f.is)))

  bad : (y : Oref) → Bad y → ¬ IsFitName s (stored_under s m roots) y
  bad y (inl (inl never)) = absurd never
  bad y (inl (inr f)) = bad_object y f
  bad y (inr f) = bad_root y f

  good : (y : Oref) → ¬ Bad y → IsFitName s (stored_under s m roots) y
  good y fine = record { object = object; roots = root }
    where
      object : (o : Obj) → get m y ≡ Some o → IsFitObject s (stored_under s m roots) y o
      object o is = by_test (test y) refl
        where
          by_test : (b : Bool) → test y ≡ b → IsFitObject s (stored_under s m roots) y o
          by_test true e = object_passes s m ws whole roots y o (key_of y o is) (sym (ap (object_fits s m (get (namings s m) y) (get ws y)) is) ∙ e)
          by_test false e = absurd (fine (inl (inr (record { item = y; among = among_names (keys m) y (key_of y o is); fails = e; is = refl }))))

      root : (i : ℕ) (r : Root) → slice_get roots i ≡ Some r → r.oref ≡ y → IsFitRoot s (stored_under s m roots) r
      root i r at is = by_test (root_fits s m r) refl
        where
          by_test : (b : Bool) → root_fits s m r ≡ b → IsFitRoot s (stored_under s m roots) r
          by_test true e = root_passes s m roots r e
          by_test false e = absurd (fine (inr (record { item = r; among = among_at roots i r at; fails = e; is = sym is })))

  least : IsLeast Bad (least_root s m roots (least_name s m (namings s m) ws (keys m)))
  least =
      least_of (root_fits s m) (λ r. r.oref) roots (λ y. ⊥ ⊎ Fails test (λ x. x) (keys m) y) (least_name s m (namings s m) ws (keys m))
      (least_of test (λ x. x) (keys m) (λ y. ⊥) None (λ y never. never))

  told : (u : Option Oref) → IsLeast Bad u → TellsFit s (stored_under s m roots) (verdict u)
  told None h = let all : (x : Oref) → IsFitName s (stored_under s m roots) x = λ x. good x (h x) in (well_owned s (stored_under s m roots) all, of_their_classes s (stored_under s m roots) all)
  told (Some x) h = (bad x h.0, λ y low. good y (h.1 y low))

  pub is_told : TellsFit s (stored_under s m roots) (verdict (least_root s m roots (least_name s m (namings s m) ws (keys m))))
  is_told = told (least_root s m roots (least_name s m (namings s m) ws (keys m))) least

-- the same of what was computed step by step
pub told_by : (s : Schemas) (m : Objects) (roots : List Root) (n : Namings) (ws : Ways) (names : List Oref) (found least : Option Oref)
    → n ≡ namings s m → names ≡ keys m → AreWhole s m n ws → found ≡ least_name s m n ws names → least ≡ least_root s m roots found
    → TellsFit s (stored_under s m roots) (verdict least)
told_by s m roots n ws names found least noted all whole is last =
    let first : found ≡ least_name s m (namings s m) ws (keys m) = is ∙ ap (λ k. least_name s m k ws names) noted ∙ ap (λ xs. least_name s m (namings s m) ws xs) all in
    let same : least ≡ least_root s m roots (least_name s m (namings s m) ws (keys m)) = last ∙ ap (least_root s m roots) first in
    subst (λ u. TellsFit s (stored_under s m roots) (verdict u)) (sym same) (is_told s m roots ws (subst (λ k. AreWhole s m k ws) noted whole))
