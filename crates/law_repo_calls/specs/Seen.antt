-- A repository of the program as the laws of repositories see it.
use Rattle.log_entries.specs.declared.entry.Entry.{Entry}
use Rattle.disk_trait.specs.Disks.{Disks}
use Rattle.spec_history.specs.History.{Base}
use Rattle.repo_core.specs.Shown.{Shown}
use Rattle.law_repo_memory.specs.Agreeing.{HeldAgrees}
use Rattle.law_repo_memory.specs.Running.{Repository}
use Rattle.law_repo_runs.specs.Restarting.{Event, Runs}
use Rattle.law_repo_runs.specs.Standing.{Down, IsRight, Phase, Torn, Up}
use Rattle.repo_durable.specs.Saying.{ImagesSay}
use Rattle.std.specs.Prelude.{Bool, List, Option, false, true, ◌+◌, ◌≡◌}

-- what is held, what is in memory, and the trace
abbrev pub seen : Shown → Repository
seen x = record { held = x.held; memory = x.memory; trace = x.trace }

abbrev pub phase_from : Bool → Bool → Option Entry → Phase
phase_from true torn pending = Up
phase_from false true pending = Torn
phase_from false false pending = Down pending

-- how it stands
abbrev pub phase : Shown → Phase
phase x = phase_from x.is_up x.is_torn x.pending

-- what is held is a state of its log
abbrev pub IsWhole : Phase → Type 0
IsWhole Up = Unit {0}
IsWhole (Down pending) = Unit {0}
IsWhole Torn = ⊥

-- A repository is right that began with b: it is as its trace says, it was opened with the life behind those of earlier runs,
-- and its buffer has the limit by which the trace goes.
pub record StandsRight (b : Base) (x : Shown) : Type 0 where
  pub right : IsRight b (seen x) (phase x)
  pub opened : x.opened_in ≡ b.life + 1
  pub limit : IsWhole (phase x) → x.held.objects.mob.limit ≡ b.limit

-- What a call does is a run of events: of none, where nothing has changed, of one or of two.
pub record IsRun (b : Base) (x y : Shown) : Type 0 where
  pub events : List Event
  pub run : Runs b (seen x) (phase x) events (seen y) (phase y)
  pub opened : y.opened_in ≡ x.opened_in
  pub limit : IsWhole (phase y) → IsWhole (phase x) × (y.held.objects.mob.limit ≡ x.held.objects.mob.limit)

-- What is held says what the history says, and each image of the disks says what is held, objects among it, or that with the
-- entry that was being written.
pub record SaysHistory (b : Base) (disks : Disks) (x : Shown) : Type 0 where
  pub held : HeldAgrees b x.trace x.held x.memory.requested
  pub images : ImagesSay disks x.held x.pending
