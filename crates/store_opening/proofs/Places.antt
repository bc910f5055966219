-- The seats of a store beside its parts.
use Rattle.std.proofs.lemmas.Slice.Zip.{all_zipped_more}
use Rattle.repo_opening.specs.Same.{AreSame}
use Rattle.store_opening.specs.Seated.{AreSeated, Gives}
use Rattle.store_opening.specs.declared.closed.Closed.{Closed}
use Rattle.disk_trait.specs.Disks.{Disks}
use Rattle.std.proofs.Common.{List, None, [], arith, ap, append_assoc, length, refl, subst, sym, ◌++◌, ◌∙◌, ◌≡◌, ◌∷◌}
use Rattle.std.proofs.lemmas.List.{append-nil}
use Rattle.std.specs.List.{AllZip}
use Rattle.std.specs.Vec.Iter.{into_iter_items, into_iter_steps}
use Rattle.std.specs.declared.vec.IntoIter.{IntoIter}

module _ {X Y : Type 0} (R : X → Y → Type 0) where
  -- one more of each list
  pub zip_more : (xs : List X) (ys put : List Y) (x : X) (y : Y) → put ≡ ys ++ y ∷ [] → AllZip R xs ys → R x y → AllZip R (xs ++ x ∷ []) put
  zip_more xs ys put x y is each one = subst (λ (zs : List Y). AllZip R (xs ++ x ∷ []) zs) (sym is) (all_zipped_more R xs ys x y each one)

pub next_one : {X : Type 0} (yielded rest left all : List X) (x : X) → yielded ++ rest ≡ all → rest ≡ x ∷ left → (yielded ++ x ∷ []) ++ left ≡ all
next_one yielded rest left all x whole next = append_assoc yielded (x ∷ []) left ∙ (ap (λ xs. yielded ++ xs) (sym next) ∙ whole)

pub none_in : {X : Type 0} (xs : List X) → length xs ≡ 0 → xs ≡ []
none_in [] none = refl
none_in (x ∷ xs) none = absurd (omega (arith, none))

-- all items of a vector were taken
pub none_left : {X Z : Type 0} (before after : IntoIter X Z) → into_iter_steps before None after → into_iter_items before ≡ []
none_left before after steps = none_in (into_iter_items before) (sym before.rest.ok.0 ∙ steps.0)

pub zip_all : {X Y : Type 0} (R : X → Y → Type 0) (yielded rest all : List X) (ys : List Y) → yielded ++ rest ≡ all → rest ≡ [] → AllZip R yielded ys → AllZip R all ys
zip_all R yielded rest all ys whole none each = subst (λ (xs : List _). AllZip R xs ys) (sym (append-nil yielded) ∙ (ap (λ xs. yielded ++ xs) (sym none) ∙ whole)) each

-- what comes back from the seats is as the parts were
pub gives_all : {P : Type 0} (disks : P → Disks) (given : List P) (seats : List (Closed P)) (back : List P) → AreSeated disks given seats → AllZip (Gives disks) seats back → AreSame disks given back
gives_all disks [] [] [] seated gives = tt
gives_all disks [] [] (p ∷ back) seated gives = absurd gives
gives_all disks [] (s ∷ seats) back seated gives = absurd seated
gives_all disks (q ∷ given) [] back seated gives = absurd seated
gives_all disks (q ∷ given) (s ∷ seats) [] seated gives = absurd gives
gives_all disks (q ∷ given) (s ∷ seats) (p ∷ back) seated gives = (gives.0 q seated.0, gives_all disks given seats back seated.1 gives.1)
