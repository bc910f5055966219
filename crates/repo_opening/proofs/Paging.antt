-- The objects of pages are put into a map, page by page.
use Rattle.class_defs.specs.Stored.{Objects}
use Rattle.page_format.specs.declared.format.StoreFormat.{StoreFormat}
use Rattle.recovery.specs.Paged.{IsOnSide}
use Rattle.repo_opening.specs.Paged.{PutsPaged, PutsSide}
use Rattle.std.proofs.Common.{List, Some, [], arith, ap, get_or, length, refl, slice_get, subst, suc, sym, take, zero, ◌++◌, ◌+◌, ◌<◌, ◌∙◌, ◌≡◌, ◌∷◌, ◌≤◌, ℕ}
use Rattle.std.proofs.Math.Seq.{take-suc}
use Rattle.std.proofs.lemmas.Grind.{flat_map-append}
use Rattle.std.proofs.lemmas.List.Sums.{fold-append}
use Rattle.std.proofs.lemmas.List.{append-nil, take_all}
use Rattle.std.proofs.lemmas.Slice.Zip.{all_zipped_more}
use Rattle.std.specs.List.{AllByRecursion, flat_map}
use Rattle.thor_value.specs.FiniteMap.{insert, overwrite}
use Rattle.thor_value.specs.declared.names.Oref.{Oref}
use Rattle.thor_value.specs.declared.values.Obj.{Obj}

-- the first ones and one more
pub take_more : {X : Type 0} (xs : List X) (k : ℕ) (x : X) → slice_get xs k ≡ Some x → take (suc k) xs ≡ take k xs ++ x ∷ []
take_more [] k x is = cc
take_more (y ∷ xs) zero x is = let same : y ≡ x = cc in ap (λ z. z ∷ []) same
take_more (y ∷ xs) (suc k) x is = ap (λ zs. y ∷ zs) (take_more xs k x is)

-- those before a place of a loop, and the one there
pub next_first : {X : Type 0} (xs : List X) (i : ℕ) (x : X) → i < length xs → x ≡ get_or xs i x → take (i + 1) xs ≡ take i xs ++ x ∷ []
next_first xs i x within is =
    let e : i + 1 ≡ suc i = omega arith in
    ap (λ n. take n xs) e ∙ (take-suc xs i x within ∙ ap (λ y. take i xs ++ y ∷ []) (sym is))

-- which default stands there doesn't matter within a list
pub get_or-same : {X : Type 0} (xs : List X) (i : ℕ) (d : X) → i < length xs → get_or xs i d ≡ get_or xs i (get_or xs i d)
get_or-same [] i d within = absurd (omega (arith, within))
get_or-same (x ∷ xs) zero d within = refl
get_or-same (x ∷ xs) (suc i) d within = get_or-same xs i d (omega (arith, within))

abbrev put_one : Objects → Oref × Obj → Objects
put_one objects w = insert objects w.0 w.1

-- a map with one more object
pub over_more : (old : Objects) (ws : List (Oref × Obj)) (w : Oref × Obj) → insert (overwrite old ws) w.0 w.1 ≡ overwrite old (ws ++ w ∷ [])
over_more old ws w = sym (fold-append put_one old ws (w ∷ []))

pub over_both : (old : Objects) (ws vs : List (Oref × Obj)) → overwrite (overwrite old ws) vs ≡ overwrite old (ws ++ vs)
over_both old ws vs = sym (fold-append put_one old ws vs)

-- ---- all pages

pub no_sides : (format : StoreFormat) (repo : ℕ) (disk : List ℕ) (sides : List (ℕ × ℕ)) (old : Objects) → PutsPaged format repo disk (take 0 sides) old old
no_sides format repo disk sides old = record { objects = []; paged = record { pages = []; each = tt; all = refl }; put = refl }

pub more_sides : (format : StoreFormat) (repo : ℕ) (disk : List ℕ) (before : List (ℕ × ℕ)) (installed : ℕ × ℕ) (old mid new : Objects) → PutsPaged format repo disk before old mid → PutsSide format repo disk installed mid new → PutsPaged format repo disk (before ++ installed ∷ []) old new
more_sides format repo disk before installed old mid new puts side = record {
  objects = puts.objects ++ side.objects;
  paged = record {
    pages = puts.paged.pages ++ side.objects ∷ [];
    each = all_zipped_more (IsOnSide format repo disk) before puts.paged.pages installed side.objects puts.paged.each side.is;
    all = ap (λ ws. ws ++ side.objects) puts.paged.all ∙ (ap (λ ws. flat_map (λ page. page) puts.paged.pages ++ ws) (sym (append-nil side.objects)) ∙ sym (flat_map-append (λ page. page) puts.paged.pages (side.objects ∷ [])));
  };
  put = side.put ∙ (ap (λ (m : Objects). overwrite m side.objects) puts.put ∙ over_both old puts.objects side.objects);
}

pub next_side : (format : StoreFormat) (repo : ℕ) (disk : List ℕ) (sides items : List (ℕ × ℕ)) (i : ℕ) (d : ℕ × ℕ) (old mid new : Objects) → items ≡ sides → i < length items → PutsPaged format repo disk (take i sides) old mid → PutsSide format repo disk (get_or items i d) mid new → PutsPaged format repo disk (take (i + 1) sides) old new
next_side format repo disk sides items i d old mid new same within puts side =
    let e : take (i + 1) items ≡ take i items ++ get_or items i d ∷ [] = next_first items i (get_or items i d) within (get_or-same items i d within) in
    subst (λ (qs : List (ℕ × ℕ)). PutsPaged format repo disk qs old new) (sym (ap (λ qs. take (i + 1) qs) (sym same) ∙ e)) (more_sides format repo disk (take i items) (get_or items i d) old mid new (subst (λ (qs : List (ℕ × ℕ)). PutsPaged format repo disk (take i qs) old mid) (sym same) puts) side)

pub all_sides : (format : StoreFormat) (repo : ℕ) (disk : List ℕ) (sides items : List (ℕ × ℕ)) (i : ℕ) (old new : Objects) → items ≡ sides → length items ≤ i → PutsPaged format repo disk (take i sides) old new → PutsPaged format repo disk sides old new
all_sides format repo disk sides items i old new same whole puts = subst (λ (qs : List (ℕ × ℕ)). PutsPaged format repo disk qs old new) (take_all i sides (subst (λ (qs : List (ℕ × ℕ)). length qs ≤ i) same whole)) puts

-- ---- room for all sides

all_push : {X : Type 0} (P : X → Type 0) (xs : List X) (x : X) → AllByRecursion P xs → P x → AllByRecursion P (xs ++ x ∷ [])
all_push P [] x all one = (one, tt)
all_push P (y ∷ ys) x all one = (all.0, all_push P ys x all.1 one)

pub sides_next : (P : ℕ × ℕ → Type 0) (sides items : List (ℕ × ℕ)) (i : ℕ) (d : ℕ × ℕ) → items ≡ sides → i < length items → AllByRecursion P (take i sides) → P (get_or items i d) → AllByRecursion P (take (i + 1) sides)
sides_next P sides items i d same within all one =
    let e : take (i + 1) items ≡ take i items ++ get_or items i d ∷ [] = next_first items i (get_or items i d) within (get_or-same items i d within) in
    subst (AllByRecursion P) (sym (ap (λ qs. take (i + 1) qs) (sym same) ∙ e)) (all_push P (take i items) (get_or items i d) (subst (λ (qs : List (ℕ × ℕ)). AllByRecursion P (take i qs)) (sym same) all) one)

pub sides_all : (P : ℕ × ℕ → Type 0) (sides items : List (ℕ × ℕ)) (i : ℕ) → items ≡ sides → length items ≤ i → AllByRecursion P (take i sides) → AllByRecursion P sides
sides_all P sides items i same whole all = subst (AllByRecursion P) (take_all i sides (subst (λ (qs : List (ℕ × ℕ)). length qs ≤ i) same whole)) all
