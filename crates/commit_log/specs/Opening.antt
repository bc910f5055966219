-- How the log that counts is found.
use Rattle.std.specs.Option.{IfSome}
use Rattle.std.specs.Prelude.{Err, List, Option, Some, None, cond, nat_lt, ◌<◌, ◌≡◌, ℕ}
use Rattle.log_frame.specs.Log.{Opened, Place, read_log}
use Rattle.log_frame.specs.declared.fault.LogFault.TheVariants as frame
use Rattle.log_frame.specs.declared.fault.LogFault.{LogFault}
use Rattle.commit_log.specs.declared.fault.FindFault.TheVariants as found
use Rattle.commit_log.specs.declared.fault.FindFault.{FindFault}

-- what a log disk opened as: the log's place, its head and its bodies
abbrev pub Found : Type 0
Found = Place × List ℕ × List (List ℕ)

-- of what two log disks opened as, that which counts
abbrev pub choice : Option Found → Option Found → Option Found
choice (Some a) (Some b) = cond (nat_lt a.0.sequence b.0.sequence) (Some b) (Some a)
choice (Some a) None = Some a
choice None second = second

-- the log of what was found
abbrev pub log_of : Found → Opened
log_of f = record { sequence = f.0.sequence; head = f.1; bodies = f.2 }

-- its log stands on this disk
abbrev pub IsOn : ℕ → Option Found → Type 0
IsOn d found = IfSome found (λ f. f.0.disk ≡ d)

-- neither log disk has an open header
abbrev pub IsFresh : (ℕ → List ℕ) → Type 0
IsFresh images = (read_log (images 0) ≡ None) × (read_log (images 1) ≡ None)

-- the log on this disk is damaged at this place
abbrev pub IsTorn : (ℕ → List ℕ) → ℕ → ℕ → Type 0
IsTorn images d place = (d < 2) × (read_log (images d) ≡ Some (Err place))

-- a fault of a log, with its disk
abbrev pub fault_on : ℕ → LogFault → FindFault
fault_on disk frame.Failed = found.Failed disk
fault_on disk (frame.Damaged place) = found.Damaged disk place
fault_on disk frame.NoMemory = found.NoMemory
