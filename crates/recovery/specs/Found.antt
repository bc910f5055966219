-- What is made of a log that was found.
use Rattle.std.specs.Prelude.{None, Option, Some, ◌≡◌}
use Rattle.repo_state.specs.Keeps.{IsUnread, Keeps}
use Rattle.repo_state.specs.Said.{said}
use Rattle.recovery.specs.declared.recovered.Recovered.{Recovered}
use Rattle.recovery.specs.Damage.{Counted}
use Rattle.recovery.specs.Reopening.{reopens_in}
use Rattle.commit_log.specs.Opening.{Found, log_of}
use Rattle.commit_log.specs.Recovered.{in_format, state_in}
use Rattle.log_codec.specs.declared.state.State.{State}

-- the state that the log on the disks says: that in memory, of the format of its checkpoint
abbrev pub recorded : Recovered → State
recorded r = in_format r.format (said r.state)

-- the log with its state, or nothing
abbrev pub IsRecovered : Option Found → Option Recovered → Type 0
IsRecovered None None = Unit {0}
IsRecovered (Some f) (Some r) = (r.log ≡ f.0) × (state_in (log_of f) ≡ Some (recorded r)) × Keeps r.state × IsUnread r.state.objects.pages × Counted f.1 r.count × (r.reopens ≡ reopens_in (log_of f))
IsRecovered None (Some r) = ⊥
IsRecovered (Some f) None = ⊥
