-- When what disks stand for agrees with what is held.
use Rattle.disk_trait.specs.Disks.{Disks}
use Rattle.repo_state.specs.Entering.{can_enter, entered}
use Rattle.repo_state.specs.Said.{said}
use Rattle.repo_state.specs.declared.held.Held.{Held}
use Rattle.log_frame.specs.Log.{Place}
use Rattle.mob_flusher.specs.Map.{Kept}
use Rattle.repo_durable.specs.declared.agreement.Numbers.{Numbers}
use Rattle.repo_durable.specs.declared.recovering.Taken.TheVariants as taken
use Rattle.repo_durable.specs.declared.recovering.Taken.{Taken}
use Rattle.commit_log.specs.Holds.{Holds}
use Rattle.std.specs.Prelude.{IsTrue, length, ◌≡◌}

-- The numbers of a state, its next page aside. The count of entries tells a state from that with one more.
abbrev pub numbers_of : Held → Numbers
numbers_of h = record { repo = h.repo; repos = h.repos; life = h.life; count = h.count; threshold = h.threshold; epoch = length h.upgrades }

-- what is held with what was taken
abbrev pub held_behind : Held → Taken → Held
held_behind h taken.Held = h
held_behind h (taken.Pending e) = entered h e

-- a pending entry that is taken can come next in what is held
abbrev pub CanEnter : Held → Taken → Type 0
CanEnter h taken.Held = Unit {0}
CanEnter h (taken.Pending e) = IsTrue (can_enter h e)

-- The disks stand for a state whose objects were taken. Its numbers are those of what is held, or of that with the entry that
-- was pending, where this was taken.
pub record IsTaken (disks : Disks) (h : Held) (t : Taken) (kept : Kept) : Type 0 where
  pub found : Held
  pub log : Place
  pub stands : Holds disks log (said found)
  pub objects : kept ≡ found.objects
  pub numbers : numbers_of found ≡ numbers_of (held_behind h t)
