-- Of which repository a disk failed while a store was read: its count of faults rose (this project's).
use Rattle.disk_trait.specs.AllDisks.{GoesOn}
use Rattle.disk_trait.specs.Disks.{Disks}
use Rattle.repo_opening.specs.Unsound.{Failing}
use Rattle.std.specs.List.{AllZip}
use Rattle.std.specs.Prelude.{List, Some, slice_get, ℕ, ◌≡◌}
use Rattle.store_opening.specs.Seated.{disks_at}
use Rattle.store_opening.specs.declared.closed.Closed.{Closed}

-- of the parts that were handed in those of the repository r came back with a disk that failed in between
pub record FailsAt {P : Type 0} (disks : P → Disks) (handed back : List P) (r : ℕ) : Type 0 where
  pub old : P
  pub new : P
  pub was : slice_get handed r ≡ Some old
  pub is : slice_get back r ≡ Some new
  pub failing : Failing (disks old) (disks new)

-- ---- while they are read

-- calls on the disks of these parts led to those that stand at a place
abbrev pub IsCalled : {P : Type 0} → (P → Disks) → P → Closed P → Type 0
IsCalled disks part place = GoesOn (disks part) (disks_at disks place)

abbrev pub AreCalled : {P : Type 0} → (P → Disks) → List P → List (Closed P) → Type 0
AreCalled disks parts places = AllZip (IsCalled disks) parts places

-- a disk of the repository r failed in them
pub record FailsIn {P : Type 0} (disks : P → Disks) (handed : List P) (places : List (Closed P)) (r : ℕ) : Type 0 where
  pub part : P
  pub place : Closed P
  pub was : slice_get handed r ≡ Some part
  pub is : slice_get places r ≡ Some place
  pub failing : Failing (disks part) (disks_at disks place)
