-- What passes a limit in memory passes it on the disks.
use Rattle.commit_log.proofs.Holding.{chosen_of, is_log}
use Rattle.commit_log.specs.Holds.{Holds, beside}
use Rattle.commit_log.specs.Recovered.{log_in}
use Rattle.disk_trait.specs.AllDisks.{ReadsAs}
use Rattle.disk_trait.specs.Disks.{Disks}
use Rattle.log_codec.specs.declared.state.State.{State}
use Rattle.log_frame.specs.Log.{Opened, Place}
use Rattle.recovery.specs.declared.recovered.Recovered.{Recovered}
use Rattle.repo_opening.proofs.Reading.{reads_on}
use Rattle.repo_opening.specs.Recovered.{IsRecovered}
use Rattle.repo_opening.specs.Same.{Same}
use Rattle.recovery.specs.Found.{recorded}
use Rattle.std.proofs.Common.{List, Some, [], arith, get_or, inl, inr, length, subst, suc, sym, zero, ℕ, ◌<◌, ◌≡◌, ◌∷◌, ◌⊎◌}
use Rattle.std.specs.List.{AllZip}
use Rattle.store_opening.proofs.Holding.{known_stands}
use Rattle.store_opening.specs.Limits.{AnyHas, HasCountAbove, HasEntriesAbove, HasLifeAbove, HasSequenceAbove, PlaceHas}
use Rattle.store_opening.specs.Reading.{ReadAll}
use Rattle.store_opening.specs.Seated.{AreSeated, IsSeated}
use Rattle.store_opening.specs.declared.closed.Closed.{Closed}

-- ---- one repository

-- the log that is held is the one that counts
pub record HoldsLog (place : Place) (images : ℕ → List ℕ) : Type 0 where
  pub log : Opened
  pub counts : log_in images ≡ Some log
  pub sequence : place.sequence ≡ log.sequence

holds_log : (disks : Disks) (place : Place) (s : State) → Holds disks place s → (images : ℕ → List ℕ) → ReadsAs disks images → HoldsLog place images
holds_log disks place s holds images reads =
    let d = place.disk in
    let other : beside d < 2 = is_log d holds.within in
    let here = reads d (omega (arith, holds.within)) in
    let agrees = holds.agrees (images d) here in
    let h = holds.told (images d) (images (beside d)) here (reads (beside d) (omega (arith, other))) agrees.opened agrees.stands in
    record { log = agrees.opened; counts = chosen_of d images agrees.opened holds.within agrees.stands h.under; sequence = agrees.sequence }

pub known_life : (part kept : Disks) (r : Recovered) → IsRecovered kept r → (limit : ℕ) → limit < r.state.life → (images : ℕ → List ℕ) → Same part kept → ReadsAs part images → HasLifeAbove limit images
known_life part kept r known limit above images same reads = record { state = recorded r; represented = known_stands part kept r known images same reads; above = above }

known_entries : (part kept : Disks) (r : Recovered) → IsRecovered kept r → (limit : ℕ) → limit < r.state.count → (images : ℕ → List ℕ) → Same part kept → ReadsAs part images → HasEntriesAbove limit images
known_entries part kept r known limit above images same reads = record { state = recorded r; represented = known_stands part kept r known images same reads; above = above }

known_sequence : (part kept : Disks) (r : Recovered) → IsRecovered kept r → (limit : ℕ) → limit < r.log.sequence → (images : ℕ → List ℕ) → Same part kept → ReadsAs part images → HasSequenceAbove limit images
known_sequence part kept r known limit above images same reads =
    let h = holds_log kept r.log known.state known.holds images (reads_on part kept same.content images reads) in
    record { log = h.log; counts = h.counts; above = subst (λ (n : ℕ). limit < n) h.sequence above }

pub known_count : (part kept : Disks) (r : Recovered) → IsRecovered kept r → (limit : ℕ) → (limit < r.log.sequence) ⊎ (limit < r.state.count) → (images : ℕ → List ℕ) → Same part kept → ReadsAs part images → HasCountAbove limit images
known_count part kept r known limit (inl above) images same reads = inl (known_sequence part kept r known limit above images same reads)
known_count part kept r known limit (inr above) images same reads = inr (known_entries part kept r known limit above images same reads)

-- ---- all of them

any_at : {X Y Z : Type 0} (R : X → Y → Type 0) (S : X → Z → Type 0) (Is : Z → Type 0) (Any : List Z → Type 0)
    → ((z : Z) (zs : List Z) → Is z → Any (z ∷ zs)) → ((z : Z) (zs : List Z) → Any zs → Any (z ∷ zs))
    → (xs : List X) (ys : List Y) (zs : List Z) (i : ℕ) (y : Y) → ((x : X) (z : Z) → R x y → S x z → Is z)
    → AllZip R xs ys → AllZip S xs zs → i < length ys → y ≡ get_or ys i y → Any zs
any_at R S Is Any here behind [] [] zs i y has first second within is = absurd (omega (arith, within))
any_at R S Is Any here behind [] (b ∷ ys) zs i y has first second within is = absurd first
any_at R S Is Any here behind (a ∷ xs) [] zs i y has first second within is = absurd first
any_at R S Is Any here behind (a ∷ xs) (b ∷ ys) [] i y has first second within is = absurd second
any_at R S Is Any here behind (a ∷ xs) (b ∷ ys) (c ∷ zs) zero y has first second within is = here c zs (has a c (subst (R a) (sym is) first.0) second.0)
any_at R S Is Any here behind (a ∷ xs) (b ∷ ys) (c ∷ zs) (suc i) y has first second within is =
    behind c zs (any_at R S Is Any here behind xs ys zs i y has first.1 second.1 (omega (arith, within)) is)

-- where the place at an index is so, the disks of one repository are
pub place_has : {P : Type 0} (disks : P → Disks) (Is : (ℕ → List ℕ) → Type 0) (places : List (Closed P)) (i : ℕ) (place : Closed P)
    → PlaceHas disks place Is → i < length places → place ≡ get_or places i place
    → (parts : List P) (images : List (ℕ → List ℕ)) → AreSeated disks parts places → ReadAll disks parts images → AnyHas Is images
place_has disks Is places i place has within is parts images seated reads =
    any_at (IsSeated disks) (λ p image. ReadsAs (disks p) image) Is (AnyHas Is) (λ z zs here. inl here) (λ z zs behind. inr behind) parts places images i place has.each seated reads within is
