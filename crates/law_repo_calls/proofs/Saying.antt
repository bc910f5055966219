-- What the disks of a repository say that is right.
use Rattle.log_entries.specs.declared.entry.Entry.{Entry}
use Rattle.disk_trait.specs.Disks.{Disks}
use Rattle.spec_history.specs.History.{Base}
use Rattle.repo_core.specs.Shown.{Shown}
use Rattle.law_repo_calls.specs.Seen.{SaysHistory, StandsRight, phase_from, seen}
use Rattle.law_repo_memory.specs.Agreeing.{HeldAgrees}
use Rattle.law_repo_memory.specs.Running.{Repository}
use Rattle.law_repo_runs.specs.Standing.{Stands}
use Rattle.repo_durable.specs.Saying.{ImagesSay}
use Rattle.std.proofs.Common.{Bool, Option, false, true, ◌≡◌}

-- what is held says what the history says, whether it is up or down
held_agrees : (b : Base) (x : Repository) (up torn : Bool) (pending : Option Entry) → torn ≡ false → Stands b x (phase_from up torn pending) → HeldAgrees b x.trace x.held x.memory.requested
held_agrees b x true torn pending whole stands = stands.0.held
held_agrees b x false false pending whole stands = stands.0
held_agrees b x false true pending whole stands = cc

pub says_history : (b : Base) (disks : Disks) (x : Shown) → StandsRight b x → x.is_torn ≡ false → ImagesSay disks x.held x.pending → SaysHistory b disks x
says_history b disks x right whole images = record { held = held_agrees b (seen x) x.is_up x.is_torn x.pending whole right.right.stands; images = images }
