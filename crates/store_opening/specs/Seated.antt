-- The parts of a store whose repositories were read.
use Rattle.commit_log.specs.Opening.{IsFresh}
use Rattle.disk_trait.specs.AllDisks.{ReadsAs}
use Rattle.disk_trait.specs.Disks.{Disks}
use Rattle.repo_opening.specs.Same.{Same}
use Rattle.std.specs.List.{AllZip}
use Rattle.std.specs.Prelude.{List, None, Option, Some, ℕ, ◌≡◌}
use Rattle.store_opening.specs.declared.closed.Closed.TheVariants.{Fresh, Known, Parts}
use Rattle.store_opening.specs.declared.closed.Closed.{Closed}

-- neither log disk has an open header, where the disks tell what they have
pub record IsFreshOn (disks : Disks) : Type 0 where
  pub each : (images : ℕ → List ℕ) → ReadsAs disks images → IsFresh images

-- of disks on which no repository was found
abbrev pub FindsFresh : {X : Type 0} → Disks → Option X → Type 0
FindsFresh disks None = IsFreshOn disks
FindsFresh disks (Some x) = Unit {0}

-- A place has these parts, whose disks are as they were; the disks of a fresh repository have no open log.
abbrev pub IsSeated : {P : Type 0} → (P → Disks) → P → Closed P → Type 0
IsSeated disks part (Parts p) = Same (disks part) (disks p)
IsSeated disks part (Fresh p) = Same (disks part) (disks p) × IsFreshOn (disks part)
IsSeated disks part (Known k) = Same (disks part) (disks k.parts)

abbrev pub AreSeated : {P : Type 0} → (P → Disks) → List P → List (Closed P) → Type 0
AreSeated disks parts places = AllZip (IsSeated disks) parts places

-- what stands at a place are these parts
abbrev pub HasPart : {P : Type 0} → Closed P → P → Type 0
HasPart (Parts p) q = q ≡ p
HasPart (Fresh p) q = q ≡ p
HasPart (Known k) q = q ≡ k.parts

-- their disks
abbrev pub disks_at : {P : Type 0} → (P → Disks) → Closed P → Disks
disks_at disks (Parts p) = disks p
disks_at disks (Fresh p) = disks p
disks_at disks (Known k) = disks k.parts

-- what comes back from a place are its parts
abbrev pub Gives : {P : Type 0} → (P → Disks) → Closed P → P → Type 0
Gives disks place p = (part : _) → IsSeated disks part place → Same (disks part) (disks p)
