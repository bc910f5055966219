-- What a client over several repositories has prepared, that isn't decided everywhere (this project's).
use Rattle.law_cache_coherence.specs.Doomed.{IsQuiet}
use Rattle.client_state.specs.Calling.{is_session_of}
use Rattle.client_state.specs.declared.link.Link.{Link}
use Rattle.client_port.specs.Views.{View}
use Rattle.client_port.specs.Works.{is_prepared_by}
use Rattle.spec_history.specs.History.{Base, known_by}
use Rattle.log_entries.specs.declared.entry.Entry.{Entry}
use Rattle.std.specs.List.{slice_get}
use Rattle.std.specs.Prelude.{Bool, List, false, true, ℕ, ◌<◌, ◌≡◌}
use Rattle.thor_value.specs.declared.names.Ts.{Ts}

-- Each session of these links is quiet, with these transactions running.
pub record AreQuiet (port : View) (links : List Link) (running : Ts → Bool) : Type 0 where
  pub each : (r s : ℕ) → r < port.opened.repos → is_session_of s (slice_get links r) ≡ true → IsQuiet port r s running

-- Of these transactions none that the session has prepared is undecided there.
abbrev pub IsHandedOn : Base → List Entry → ℕ → (Ts → Bool) → Type 0
IsHandedOn b H s running = (t : Ts) → running t ≡ true → is_prepared_by s (known_by b H t) ≡ false
