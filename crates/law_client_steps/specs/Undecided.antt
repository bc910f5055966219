-- What of a client's transaction is undecided, where nothing of it is ever prepared (this project's).
use Rattle.client_cache.specs.Copies.{changed}
use Rattle.client_state.specs.Moving.{InSession}
use Rattle.client_state.specs.Pending.{IsAsking, IsPreparing, IsWrittenIn, NonePending, Pending}
use Rattle.client_state.specs.declared.held.Held.{Held}
use Rattle.session_outbox.specs.declared.answers.At.{At}
use Rattle.client_port.specs.Views.{Calm, View}
use Rattle.spec_trace.specs.Notices.{lives}
use Rattle.spec_trace.specs.Session.{session}
use Rattle.std.specs.Prelude.{None, true, ◌<◌, ◌≡◌, ◌⊎◌}
use Rattle.thor_value.specs.declared.names.Oref.{Oref}

-- The session is the link's, it has ended or something is unsettled there, and what the try has written lies in it.
pub record HasEndedIn (at : At) (port : View) (held : Held) : Type 0 where
  pub joined : InSession at held
  pub written : IsWrittenIn at held
  pub ended : at.repo < port.opened.repos → port.unsettled at.repo ≡ Calm → lives (session (port.opened.base at.repo) (port.seen at.repo) at.session) ≡ true → ⊥

-- A call of the session stopped by which the try's transaction was sent: the session has ended so, or the try has written nothing that is
-- left.
abbrev pub HasStoppedIn : At → View → Held → Type 0
HasStoppedIn at port held = ((x : Oref) → changed held.cache.cache x ≡ None) ⊎ HasEndedIn at port held

-- Nothing is prepared, and the verdict is asked for only of what a call has sent that stopped.
abbrev pub StopsAlone : Pending → View → Held → Type 0
StopsAlone NonePending port held = Unit {0}
StopsAlone (IsPreparing at t rs transaction) port held = ⊥
StopsAlone (IsAsking sent n) port held = HasStoppedIn sent.at port held
