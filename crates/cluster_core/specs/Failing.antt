-- Of which repository a disk failed while a store was opened: its count of faults rose (this project's).
use Rattle.cluster_core.specs.declared.seat.Seat.TheVariants.{Closed, Open}
use Rattle.cluster_core.specs.declared.seat.Seat.{Seat}
use Rattle.cluster_port.specs.Failing.{HasFailed, NoneFell}
use Rattle.cluster_port.specs.Sited.{Sited}
use Rattle.disk_trait.specs.Disks.{Disks}
use Rattle.repo_core.specs.Shown.{faults_of}
use Rattle.std.specs.List.{AllZip}
use Rattle.std.specs.Prelude.{List, Some, slice_get, ℕ, ◌≡◌}
use Rattle.store_opening.specs.Seated.{HasPart, disks_at}
use Rattle.store_opening.specs.declared.closed.Closed as closed

-- how often the disks of these parts have failed, and those of what was found at a place
abbrev pub faults_in : {P : Type 0} → (P → Disks) → P → ℕ → ℕ
faults_in disks p = (disks p).faults

abbrev pub faults_at : {P : Type 0} → (P → Disks) → closed.Closed P → ℕ → ℕ
faults_at disks c = (disks_at disks c).faults

-- those of what stands there while the store is opened
abbrev pub faults_on : {P O : Type 0} → (P → Disks) → Seat P O → ℕ → ℕ
faults_on disks (Closed c) = faults_at disks c
faults_on disks (Open s) = faults_of s.shown

-- no count fell from what stood at the places before
abbrev pub NoneFellOn : {X P O : Type 0} → (P → Disks) → (X → ℕ → ℕ) → List X → List (Seat P O) → Type 0
NoneFellOn disks counts before seats = AllZip (λ x s. NoneFell (counts x) (faults_on disks s)) before seats

-- a repository wasn't opened since a disk of it failed
abbrev pub HasFailedOn : {P O : Type 0} → (P → Disks) → (ℕ → ℕ) → Seat P O → Type 0
HasFailedOn disks before (Closed c) = HasFailed before (faults_at disks c)
HasFailedOn disks before (Open s) = ⊥

-- so is it at the place r
pub record FailedOn {X P O : Type 0} (disks : P → Disks) (counts : X → ℕ → ℕ) (before : List X) (seats : List (Seat P O)) (r : ℕ) : Type 0 where
  pub one : X
  pub seat : Seat P O
  pub was : slice_get before r ≡ Some one
  pub is : slice_get seats r ≡ Some seat
  pub failed : HasFailedOn disks (counts one) seat

-- ---- what comes back

-- the parts of what isn't open
abbrev pub GivesPart : {P O : Type 0} → Seat P O → P → Type 0
GivesPart (Closed c) p = HasPart c p
GivesPart (Open s) p = Unit {0}

-- the repository that is open
abbrev pub IsSite : {P O : Type 0} → Seat P O → Sited → Type 0
IsSite (Closed c) x = ⊥
IsSite (Open s) x = x ≡ s

-- what came back has counted what its repositories had
abbrev pub HaveCounted : {P : Type 0} → (P → Disks) → List Sited → List P → Type 0
HaveCounted disks sites parts = AllZip (λ x p. NoneFell (faults_of x.shown) (faults_in disks p)) sites parts

-- no count fell from what was handed in to what is open
abbrev pub NoneFellIn : {P : Type 0} → (P → Disks) → List P → List Sited → Type 0
NoneFellIn disks handed sites = AllZip (λ p x. NoneFell (faults_in disks p) (faults_of x.shown)) handed sites
