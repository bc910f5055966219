-- The objects of a page, slot by slot.
use Rattle.mob_flusher.specs.Images.{name_of}
use Rattle.object_codec.specs.Spelling.{ObjFits, obj_bytes}
use Rattle.page_format.specs.Pages.{Contents}
use Rattle.recovery.specs.Paged.{AreOfPage, IsPaged}
use Rattle.std.proofs.Common.{List, Some, [], ap, length, slice_get, subst, suc, sym, take, zero, ◌++◌, ◌<◌, ◌≡◌, ◌∷◌, ◌≤◌, ℕ}
use Rattle.std.proofs.lemmas.List.{take_all}
use Rattle.std.proofs.lemmas.Slice.Zip.{all_zipped_more}
use Rattle.std.specs.List.{AllZip}
use Rattle.thor_value.specs.declared.names.Oref.{Oref}
use Rattle.thor_value.specs.declared.values.Obj.{Obj}

-- the first ones and one more
take_more : {X : Type 0} (xs : List X) (k : ℕ) (x : X) → slice_get xs k ≡ Some x → take (suc k) xs ≡ take k xs ++ x ∷ []
take_more [] k x is = cc
take_more (y ∷ xs) zero x is = let same : y ≡ x = cc in ap (λ z. z ∷ []) same
take_more (y ∷ xs) (suc k) x is = ap (λ zs. y ∷ zs) (take_more xs k x is)

-- what stands at a rank of a page, under its name
pub paged_one : (repo : ℕ) (page : Contents) (rank slot number : ℕ) (bytes : List ℕ) (o : Obj) → Some (slot, bytes) ≡ slice_get page.objects.pairs rank → number ≡ page.number → (bytes ≡ obj_bytes o) × ObjFits o → (q : ℕ × List ℕ) × (slice_get page.objects.pairs rank ≡ Some q) × IsPaged repo page.number q (name_of repo number slot, o)
paged_one repo page rank slot number bytes o stands same spells = ((slot, bytes), sym stands, record { name = ap (λ n. name_of repo n slot) same; spelled = spells.0; fits = spells.1 })

-- those of the slots so far, and one more
pub paged_more : (repo : ℕ) (page : Contents) (rank : ℕ) (objects : List (Oref × Obj)) (w : Oref × Obj) → AllZip (IsPaged repo page.number) (take rank page.objects.pairs) objects → ((q : ℕ × List ℕ) × (slice_get page.objects.pairs rank ≡ Some q) × IsPaged repo page.number q w) → AllZip (IsPaged repo page.number) (take (suc rank) page.objects.pairs) (objects ++ w ∷ [])
paged_more repo page rank objects w all one =
    subst (λ (qs : List (ℕ × List ℕ)). AllZip (IsPaged repo page.number) qs (objects ++ w ∷ [])) (sym (take_more page.objects.pairs rank one.0 one.1))
    (all_zipped_more (IsPaged repo page.number) (take rank page.objects.pairs) objects one.0 w all one.2)

pub paged_all : (repo : ℕ) (page : Contents) (end : ℕ) (objects : List (Oref × Obj)) → length page.objects.pairs ≤ end → AllZip (IsPaged repo page.number) (take end page.objects.pairs) objects → AreOfPage repo page objects
paged_all repo page end objects whole all = subst (λ (qs : List (ℕ × List ℕ)). AllZip (IsPaged repo page.number) qs objects) (take_all end page.objects.pairs whole) all
