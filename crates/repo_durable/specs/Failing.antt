-- Calls in which a disk failed, by the counts of faults of the disks.
use Rattle.disk_trait.specs.Disks.{Rose}
use Rattle.std.specs.Prelude.{Bool, false, true, ℕ, ◌-◌, ◌<◌, ◌^◌, ◌≤◌}
use Rattle.repo_refusals.specs.declared.refusal.Refusal.TheVariants as refused
use Rattle.repo_refusals.specs.declared.refusal.Refusal.{Refusal}

-- the count of one disk rose
pub record HasFailed (old new : ℕ → ℕ) : Type 0 where
  pub disk : ℕ
  pub within : disk < 3
  pub rose : Rose (old disk) (new disk)

-- no count fell
abbrev pub NoFewer : (ℕ → ℕ) → (ℕ → ℕ) → Type 0
NoFewer old new = (d : ℕ) → old d ≤ new d

-- the same of each disk; of a count that stands still nothing is said
pub record NoneFell (old new : ℕ → ℕ) : Type 0 where
  pub each : (d : ℕ) → d < 3 → new d < 2 ^ 64 - 1 → old d ≤ new d

-- a refusal that tells of a disk that failed
abbrev pub is_stopped : Refusal → Bool
is_stopped (refused.Stopped r) = true
is_stopped (refused.Damaged r k) = false
is_stopped refused.NoMemory = false
is_stopped (refused.Down r) = false
is_stopped (refused.Reason r) = false
