-- What contracts see of a repository.
use Rattle.log_entries.specs.declared.entry.Entry.{Entry}
use Rattle.disk_trait.specs.Disks.{Disks}
use Rattle.repo_state.specs.declared.held.Held.{Held}
use Rattle.repo_durable.specs.Kept.{disks_of, held_of, is_torn, is_up, pending}
use Rattle.repo_durable.specs.Pages.{TellsPages}
use Rattle.repo_durable.specs.declared.stable.Stable.{Stable}
use Rattle.std.specs.Prelude.{Bool, List, Option, false, suc, true, zero, ℕ, ◌≡◌}
use Rattle.repo_trace.specs.Recorded.{Recorded}
use Rattle.repo_volatile.specs.Volatile.{Memory}

pub record Shown : Type 0 where
  -- what is held in memory of the state for which its log stands
  pub held : Held
  pub is_up : Bool
  -- what a restart begins anew
  pub memory : Memory
  -- its trace since it was opened
  pub trace : Recorded
  -- the number of the life in which it was opened
  pub opened_in : ℕ
  -- the entry that was being written when it went down, which its disks may have or not
  pub pending : Option Entry
  -- whether what is held is no state of its log, so that it doesn't come up again
  pub is_torn : Bool
  -- the bytes of its two log disks, where they are told
  pub logs : Option (List ℕ) × Option (List ℕ)
  -- the bytes of its disk of pages, where they are told
  pub pages : Option (List ℕ)
  -- the greatest number that its clock gave, 0 before the first
  pub clock : ℕ
  -- how often each of its disks has failed, that of pages last; a count at 2 ^ 64 - 1 stands still
  pub faults : ℕ × ℕ × ℕ

-- what is shown of these parts of a repository
abbrev pub shown : {P : Type 0} → (P → Disks) → Stable P → Memory → Recorded → ℕ → Shown
shown disks stable memory trace opened_in = record {
  held = held_of stable;
  is_up = is_up stable;
  memory = memory;
  trace = trace;
  opened_in = opened_in;
  pending = pending stable;
  is_torn = is_torn stable;
  logs = ((disks_of disks stable).content 0, (disks_of disks stable).content 1);
  pages = (disks_of disks stable).content 2;
  clock = (disks_of disks stable).clock;
  faults = ((disks_of disks stable).faults 0, (disks_of disks stable).faults 1, (disks_of disks stable).faults 2);
}

-- of three counts that of the disk of this number
abbrev pub count_at : ℕ × ℕ × ℕ → ℕ → ℕ
count_at counts zero = counts.0
count_at counts (suc zero) = counts.1
count_at counts (suc (suc n)) = counts.2

-- how often each disk has failed
abbrev pub faults_of : Shown → ℕ → ℕ
faults_of x = count_at x.faults

-- Each of its disks tells its bytes, and each side in use is a page of objects, but where it is torn. Then no call of a page is
-- damaged.
abbrev pub ShowsPages : Shown → Type 0
ShowsPages x = TellsPages x.is_torn x.held.objects.pages.sides x.logs.0 x.logs.1 x.pages

-- one that is up isn't torn
pub record WholeIfUp (x : Shown) : Type 0 where
  pub whole : x.is_up ≡ true → x.is_torn ≡ false
