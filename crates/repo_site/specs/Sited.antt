-- A repository of a run, and how it stands there.
use Rattle.class_defs.specs.declared.store.Setup.{Setup}
use Rattle.disk_trait.specs.Disks.{Disks}
use Rattle.law_repo_calls.specs.Seen.{IsRun, StandsRight}
use Rattle.law_repo_calls.specs.Vouching.{IsBase, IsNewBase}
use Rattle.law_repo_memory.specs.Agreeing.{HeldAgrees}
use Rattle.law_repo_runs.specs.Standing.{MayBeNext}
use Rattle.log_entries.specs.declared.entry.Entry.{Entry}
use Rattle.repo_core.specs.Shown.{Shown}
use Rattle.repo_durable.specs.Saying.{ImagesSay}
use Rattle.repo_site.specs.Run.{Run}
use Rattle.repo_state.specs.declared.held.Held.{Held}
use Rattle.repo_trace.specs.Recorded.{Recorded}
use Rattle.repo_trace.specs.declared.trace.Trace.{Trace}
use Rattle.spec_history.specs.History.{Base}
use Rattle.spec_history.specs.Sound.{sound as is_sound}
use Rattle.spec_trace.specs.Exact.{exact as is_exact}
use Rattle.spec_trace.specs.Trace.{items}
use Rattle.std.specs.Option.{IfSome}
use Rattle.std.specs.Prelude.{None, Option, length, true, ℕ, ◌<◌, ◌≡◌}
use Rattle.thor_value.specs.FiniteMap.{Set, get}
use Rattle.thor_value.specs.Names.{ts_cmp}
use Rattle.thor_value.specs.declared.names.Ts.{Ts}

-- What contracts see of a repository of a run: its number, and what is seen of the repository.
pub record Sited : Type 0 where
  pub number : ℕ
  pub shown : Shown

-- What the base says with which the repository of this number began, of so many repositories: no transaction that an earlier
-- run left prepared has still to be settled.
pub record IsBaseOf (b : Base) (number repos : ℕ) : Type 0 where
  pub own : b.repo ≡ number
  pub count : b.repos ≡ repos
  pub left : (t : Ts) → get b.left t ≡ None

-- The repository of this number stands right by the base with which it began, where each has one.
pub record StandsIn (run : Run) (number repos : ℕ) (x : Shown) : Type 0 where
  pub base : run.based ≡ true → IsBaseOf (run.base number) number repos
  pub right : run.based ≡ true → StandsRight (run.base number) x

-- What was recovered of the repository of this number, of so many, says what the base says, where each has one.
pub record BeginsAs (run : Run) (number repos : ℕ) (h : Held) : Type 0 where
  pub base : run.based ≡ true → IsBaseOf (run.base number) number repos
  pub begins : run.based ≡ true → IsBase (run.base number) h

-- The base is that of a new store, where each has one.
pub record BeginsNew (run : Run) (number repos : ℕ) (setup : Setup) (mob : ℕ) : Type 0 where
  pub base : run.based ≡ true → IsBaseOf (run.base number) number repos
  pub begins : run.based ≡ true → IsNewBase number setup mob (run.base number)

-- What a call does on the repository of a run is a run of events, of none, one or two. Nothing is asked of the caller.
pub record Happens (run : Run) (old new : Sited) : Type 0 where
  pub number : new.number ≡ old.number
  pub does : run.based ≡ true → IsRun (run.base old.number) old.shown new.shown

-- What was recorded at the repository of this number is right by the base with which it began, where each has one: its history is
-- sound and begins with an entry, which is the Life of the opening, and each item of its trace is exact.
pub record IsRightTrace (run : Run) (number : ℕ) (t : Trace) : Type 0 where
  pub begun : run.based ≡ true → 0 < length t.history
  pub sound : run.based ≡ true → is_sound (run.base number) t.history
  pub exact : run.based ≡ true → is_exact (run.base number) (items t.history t.marks)

-- the trace of a repository that has ended, as it was recorded
abbrev pub recorded : Trace → Recorded
recorded t = record { history = t.history; marks = t.marks }

-- What the disks of a repository say that has ended, with this base and this trace: each image that a crash may leave of them says
-- what the history says, but for the objects, or that with the entry that was being written, which may come next.
pub record IsLeft (b : Base) (disks : Disks) (t : Trace) : Type 0 where
  pub held : Held
  pub pending : Option Entry
  pub requested : Set ts_cmp
  pub says : HeldAgrees b (recorded t) held requested
  pub next : IfSome pending (MayBeNext b (recorded t) held)
  pub images : ImagesSay disks held pending

-- the same of the repository of this number, where each has a base
abbrev pub IsLeftOf : Run → ℕ → Disks → Trace → Type 0
IsLeftOf run number disks t = run.based ≡ true → IsLeft (run.base number) disks t
