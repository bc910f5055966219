-- Of which repository a disk failed, by the parts that were handed in and those that come back.
use Rattle.disk_trait.specs.Disks.{Disks}
use Rattle.repo_opening.specs.Unsound.{Failing}
use Rattle.std.proofs.Common.{List, Some, [], length, refl, slice_get, subst, suc, sym, zero, ℕ, ◌++◌, ◌∙◌, ◌∷◌, ◌≡◌}
use Rattle.std.specs.List.{AllZip}
use Rattle.store_opening.specs.Failing.{FailsAt, FailsIn}
use Rattle.store_opening.specs.Seated.{HasPart, disks_at}
use Rattle.store_opening.specs.declared.closed.Closed.TheVariants.{Fresh, Known, Parts}
use Rattle.store_opening.specs.declared.closed.Closed.{Closed}

-- ---- lists

pub get_more : {X : Type 0} (xs ys : List X) (r : ℕ) (x : X) → slice_get xs r ≡ Some x → slice_get (xs ++ ys) r ≡ Some x
get_more [] ys r x is = cc
get_more (z ∷ xs) ys zero x is = is
get_more (z ∷ xs) ys (suc r) x is = get_more xs ys r x is

pub get_last : {X : Type 0} (xs : List X) (x : X) → slice_get (xs ++ x ∷ []) (length xs) ≡ Some x
get_last [] x = refl
get_last (z ∷ xs) x = get_last xs x

-- at the place of one of them the other list has one, too
pub record Beside {X Y : Type 0} (R : X → Y → Type 0) (ys : List Y) (x : X) (r : ℕ) : Type 0 where
  pub other : Y
  pub is : slice_get ys r ≡ Some other
  pub holds : R x other

same_some : {X : Type 0} (x y : X) → Some x ≡ Some y → x ≡ y
same_some x y e = cc

pub zip_at : {X Y : Type 0} (R : X → Y → Type 0) (xs : List X) (ys : List Y) (r : ℕ) (x : X) → AllZip R xs ys → slice_get xs r ≡ Some x → Beside R ys x r
zip_at R [] ys r x each is = cc
zip_at R (z ∷ xs) [] r x each is = absurd each
zip_at R (z ∷ xs) (y ∷ ys) zero x each is = record { other = y; is = refl; holds = subst (λ w. R w y) (same_some z x is) each.0 }
zip_at R (z ∷ xs) (y ∷ ys) (suc r) x each is = let b = zip_at R xs ys r x each.1 is in record { other = b.other; is = b.is; holds = b.holds }

pub zip_from : {X Y : Type 0} (R : X → Y → Type 0) (xs : List X) (ys : List Y) (r : ℕ) (y : Y) → AllZip R xs ys → slice_get ys r ≡ Some y → Beside (λ b a. R a b) xs y r
zip_from R [] [] r y each is = cc
zip_from R [] (z ∷ ys) r y each is = absurd each
zip_from R (x ∷ xs) [] r y each is = absurd each
zip_from R (x ∷ xs) (z ∷ ys) zero y each is = record { other = x; is = refl; holds = subst (R x) (same_some z y is) each.0 }
zip_from R (x ∷ xs) (z ∷ ys) (suc r) y each is = let b = zip_from R xs ys r y each.1 is in record { other = b.other; is = b.is; holds = b.holds }

-- by what holds of both beside a third list
pub zip_through : {X Y Z : Type 0} (R : X → Y → Type 0) (S : Y → Z → Type 0) (T : X → Z → Type 0) → ((x : X) (y : Y) (z : Z) → R x y → S y z → T x z) → (xs : List X) (ys : List Y) (zs : List Z) → AllZip R xs ys → AllZip S ys zs → AllZip T xs zs
zip_through R S T by [] [] [] first then = tt
zip_through R S T by [] [] (z ∷ zs) first then = absurd then
zip_through R S T by [] (y ∷ ys) zs first then = absurd first
zip_through R S T by (x ∷ xs) [] zs first then = absurd first
zip_through R S T by (x ∷ xs) (y ∷ ys) [] first then = absurd then
zip_through R S T by (x ∷ xs) (y ∷ ys) (z ∷ zs) first then = (by x y z first.0 then.0, zip_through R S T by xs ys zs first.1 then.1)

-- ---- parts

-- what is true of the disks at a place is true of those of its parts, and the other way round
pub part_to : {P : Type 0} (disks : P → Disks) (Q : Disks → Type 0) (place : Closed P) (p : P) → HasPart place p → Q (disks_at disks place) → Q (disks p)
part_to disks Q (Parts q) p has is = subst (λ x. Q (disks x)) (sym has) is
part_to disks Q (Fresh q) p has is = subst (λ x. Q (disks x)) (sym has) is
part_to disks Q (Known k) p has is = subst (λ x. Q (disks x)) (sym has) is

pub part_from : {P : Type 0} (disks : P → Disks) (Q : Disks → Type 0) (place : Closed P) (p : P) → HasPart place p → Q (disks p) → Q (disks_at disks place)
part_from disks Q (Parts q) p has is = subst (λ x. Q (disks x)) has is
part_from disks Q (Fresh q) p has is = subst (λ x. Q (disks x)) has is
part_from disks Q (Known k) p has is = subst (λ x. Q (disks x)) has is

module _ {P : Type 0} (disks : P → Disks) where
  -- one more was read behind
  pub fails_more : (parts : List P) (places now' : List (Closed P)) (p : P) (c : Closed P) (r : ℕ) → now' ≡ places ++ c ∷ [] → FailsIn disks parts places r → FailsIn disks (parts ++ p ∷ []) now' r
  fails_more parts places now' p c r pushed f = record {
    part = f.part;
    place = f.place;
    was = get_more parts (p ∷ []) r f.part f.was;
    is = subst (λ (ps : List (Closed P)). slice_get ps r ≡ Some f.place) (sym pushed) (get_more places (c ∷ []) r f.place f.is);
    failing = f.failing;
  }

  -- it is the last one
  pub fails_last : (parts : List P) (places seen now' : List (Closed P)) (p : P) (c : Closed P) (r : ℕ) → now' ≡ places ++ c ∷ [] → seen ≡ places → length parts ≡ length places → r ≡ length seen → Failing (disks p) (disks_at disks c) → FailsIn disks (parts ++ p ∷ []) now' r
  fails_last parts places seen now' p c r pushed same long at f =
      let here : r ≡ length places = subst (λ (ps : List (Closed P)). r ≡ length ps) same at in
      let there : r ≡ length parts = here ∙ sym long in
      record {
        part = p;
        place = c;
        was = subst (λ (n : ℕ). slice_get (parts ++ p ∷ []) n ≡ Some p) (sym there) (get_last parts p);
        is = subst (λ (ps : List (Closed P)). slice_get ps r ≡ Some c) (sym pushed) (subst (λ (n : ℕ). slice_get (places ++ c ∷ []) n ≡ Some c) (sym here) (get_last places c));
        failing = f;
      }

  -- the parts come back
  pub fails_back : (parts back : List P) (places : List (Closed P)) (r : ℕ) → AllZip HasPart places back → FailsIn disks parts places r → FailsAt disks parts back r
  fails_back parts back places r gives f =
      let b = zip_at HasPart places back r f.place gives f.is in
      record {
        old = f.part;
        new = b.other;
        was = f.was;
        is = b.is;
        failing = part_to disks (Failing (disks f.part)) f.place b.other b.holds f.failing;
      }
