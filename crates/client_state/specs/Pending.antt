-- What of its try's transaction is undecided as far as a client knows, and what becomes of that by a step (this project's).
use Rattle.client_cache.specs.Copies.{changed}
use Rattle.client_state.specs.Moving.{Aborted, Asked, AskedInVain, AskedOwn, CommitRefused, Committed, Connected, Decided, DecideRefused, Drawn, Fetched, Finished, Forgot, Granted, InSession, Moves, PrepareRefused, Prepared, ReceiveRefused, ReceiveStopped, Received, ReceivedNone, Rested, SendsNothing, Settled, Transformed, Unsent}
use Rattle.client_state.specs.declared.duties.Abort.{Abort}
use Rattle.client_state.specs.declared.held.Held.{Held}
use Rattle.client_state.specs.declared.phase.Phase.TheVariants as phase
use Rattle.client_state.specs.declared.phase.Phase.{Phase}
use Rattle.client_state.specs.declared.requests.Sending.{Sending}
use Rattle.client_state.specs.declared.transaction.Sent.{Sent}
use Rattle.client_state.specs.declared.transaction.Transaction.{Transaction}
use Rattle.session_outbox.specs.declared.answers.At.{At}
use Rattle.client_port.specs.Views.{View}
use Rattle.std.specs.Prelude.{Bool, List, None, Option, Some, [], false, true, ℕ, ◌++◌, ◌∷◌, ◌≡◌, ◌⊎◌}
use Rattle.thor_value.specs.declared.names.Oref.{Oref}
use Rattle.thor_value.specs.declared.names.Ts.{Ts}
use Rattle.repo_refusals.specs.declared.refusal.Refusal.TheVariants as refused
use Rattle.repo_refusals.specs.declared.refusal.Refusal.{Refusal}

-- What of the try's transaction is undecided, as far as the client knows.
pub data Pending : Type 0 where
  -- nothing
  NonePending : Pending
  -- In this session its coordinator has prepared it, and is to decide. These others have prepared it, and the shares that the transaction
  -- still has are left to be sent.
  IsPreparing : At → Ts → List ℕ → Transaction → Pending
  -- this was sent to be decided, and its verdict is asked for; so many answers had none
  IsAsking : Sent → ℕ → Pending

-- what is in a phase of the try
abbrev pub pending_in : Phase → Pending
pending_in phase.Between = NonePending
pending_in phase.Beginning = NonePending
pending_in (phase.Evaluating run awaited) = NonePending
pending_in (phase.Transforming run transform) = NonePending
pending_in (phase.Evaluated transaction) = NonePending
pending_in (phase.Drawn t transaction) = NonePending
pending_in (phase.Preparing t transaction coordinator prepared) = IsPreparing coordinator t prepared transaction
pending_in (phase.Asking sent answers) = IsAsking sent answers

-- what its coordinator has prepared in a phase of the try: it is to be aborted where the try ends
abbrev pub abort_in : Phase → Option Abort
abort_in phase.Between = None
abort_in phase.Beginning = None
abort_in (phase.Evaluating run awaited) = None
abort_in (phase.Transforming run transform) = None
abort_in (phase.Evaluated transaction) = None
abort_in (phase.Drawn t transaction) = None
abort_in (phase.Preparing t transaction coordinator prepared) = Some (record { coordinator = coordinator; ts = t; prepared = prepared })
abort_in (phase.Asking sent answers) = None

-- whether a try runs
abbrev pub runs_in : Phase → Bool
runs_in phase.Between = false
runs_in phase.Beginning = true
runs_in (phase.Evaluating run awaited) = true
runs_in (phase.Transforming run transform) = true
runs_in (phase.Evaluated transaction) = true
runs_in (phase.Drawn t transaction) = true
runs_in (phase.Preparing t transaction coordinator prepared) = true
runs_in (phase.Asking sent answers) = false

abbrev pub is_preparing : Pending → Bool
is_preparing NonePending = false
is_preparing (IsPreparing at t rs transaction) = true
is_preparing (IsAsking sent n) = false

-- the session in which its coordinator has prepared a transaction that isn't decided, and its timestamp
abbrev pub prepared_at : Pending → Option (At × Ts)
prepared_at NonePending = None
prepared_at (IsPreparing at t rs transaction) = Some (at, t)
prepared_at (IsAsking sent n) = None

-- the session in which a transaction was sent whose verdict is asked for, and its timestamp
abbrev pub asked_at : Pending → Option (At × Ts)
asked_at NonePending = None
asked_at (IsPreparing at t rs transaction) = None
asked_at (IsAsking sent n) = Some (sent.at, sent.ts)

-- one more of the other participants has prepared it
abbrev pub noted : ℕ → Pending → Pending
noted r NonePending = NonePending
noted r (IsPreparing at t rs transaction) = IsPreparing at t (rs ++ r ∷ []) transaction
noted r (IsAsking sent n) = IsAsking sent n

-- What the try has written lies at the session's repository, and the session is the link's.
abbrev pub IsWrittenIn : At → Held → Type 0
IsWrittenIn at held = (x : Oref) → (changed held.cache.cache x ≡ None) ⊎ ((x.repo ≡ at.repo) × InSession at held)

-- ---- what becomes of it by a step

-- Nothing is undecided any more; or the same still is, and what the try has written in a session still lies in it.
abbrev pub StaysPending : Pending → Pending → Held → Held → Type 0
StaysPending a z before after = (z ≡ NonePending) ⊎ ((z ≡ a) × ((at : At) → IsWrittenIn at before → IsWrittenIn at after))

-- The same where an answer has come that had no verdict: the same verdict is still asked for.
abbrev pub StaysAsked : Pending → Pending → Held → Held → Type 0
StaysAsked a z before after = (z ≡ NonePending) ⊎ ((asked_at z ≡ asked_at a) × ((at : At) → IsWrittenIn at before → IsWrittenIn at after))

-- The call stopped.
abbrev pub HasStopped : Refusal → Type 0
HasStopped (refused.Reason r) = ⊥
HasStopped (refused.Down r) = ⊥
HasStopped (refused.Stopped r) = Unit {0}
HasStopped (refused.Damaged r k) = ⊥
HasStopped refused.NoMemory = ⊥

-- A call that was to commit the transaction was refused: its verdict is asked for only where the call stopped. Then the try has
-- written nothing but in the call's session.
abbrev pub AsksBehind : Sending → Refusal → Pending → Held → Type 0
AsksBehind s k z after = (z ≡ NonePending) ⊎ ((asked_at z ≡ Some (s.at, s.request.tx)) × HasStopped k × IsWrittenIn s.at after)

-- The verdict on this transaction is asked for.
abbrev pub IsAskingFor : Ts → Pending → Type 0
IsAskingFor t a = (at : At) × (asked_at a ≡ Some (at, t))

-- The coordinator has refused to decide so: to commit what it has prepared, whose verdict is asked for then, or to abort.
abbrev pub RefusesToDecide : Bool → At → Ts → Pending → Pending → Held → Held → Type 0
RefusesToDecide true at t a z before after = (prepared_at a ≡ Some (at, t)) × (asked_at z ≡ Some (at, t))
RefusesToDecide false at t a z before after = StaysPending a z before after

-- A call of a session comes only where nothing is left undecided.
abbrev pub SendsPending : (old new : View) (before after : Held) → SendsNothing old new before after → Pending → Pending → Type 0
SendsPending old new before after (Rested same less) a z = StaysPending a z before after
SendsPending old new before after (Connected repo connects apart same fewer) a z = z ≡ NonePending
SendsPending old new before after (Fetched at page left fetches idle same fewer) a z = z ≡ NonePending
SendsPending old new before after (Granted at left grants idle same fewer) a z = z ≡ NonePending
SendsPending old new before after (Drawn at answer left draws there same fewer) a z = z ≡ NonePending
SendsPending old new before after (Asked r t result does less) a z = StaysPending a z before after
SendsPending old new before after (Settled r t v sent index does there links same fewer) a z = StaysPending a z before after

-- What is undecided behind a step. A decision to commit is asked for only of what the coordinator has prepared, and the try's own verdict is
-- told only where it is asked for.
abbrev pub PendsSo : (old new : View) (before after : Held) → Moves old new before after → Pending → Pending → Type 0
PendsSo old new before after (Unsent sends) a z = SendsPending old new before after sends a z
PendsSo old new before after (Received at m does there takes same) a z = StaysPending a z before after
PendsSo old new before after (ReceivedNone at does there waits same fewer) a z = StaysPending a z before after
PendsSo old new before after (ReceiveRefused at k does there loses same) a z = StaysPending a z before after
PendsSo old new before after (ReceiveStopped at k does there outage stops same fewer) a z = StaysPending a z before after
PendsSo old new before after (Prepared s place does of less) a z = (prepared_at z ≡ Some (s.at, s.request.tx)) ⊎ ((prepared_at z ≡ prepared_at a) × (is_preparing a ≡ true))
PendsSo old new before after (PrepareRefused s k does of idle learns same) a z = StaysPending a z before after
PendsSo old new before after (Committed s place does of session wrote held idle keeps) a z = z ≡ NonePending
PendsSo old new before after (Transformed s place oref made does of session writes here held idle keeps) a z = z ≡ NonePending
PendsSo old new before after (CommitRefused s k does of idle learns same) a z = AsksBehind s k z after
PendsSo old new before after (Decided at t v does idle ends) a z = (prepared_at a ≡ Some (at, t)) × (z ≡ NonePending)
PendsSo old new before after (Aborted at t v does less) a z = StaysPending a z before after
PendsSo old new before after (DecideRefused at t commit k does loses same) a z = RefusesToDecide commit at t a z before after
PendsSo old new before after (Finished r t commit result does less) a z = StaysPending a z before after
PendsSo old new before after (Forgot r t result does less) a z = StaysPending a z before after
PendsSo old new before after (AskedOwn r t v does ends) a z = IsAskingFor t a × (z ≡ NonePending)
PendsSo old new before after (AskedInVain r t result does leaves same fewer) a z = IsAskingFor t a × StaysAsked a z before after

-- The client has made a step, by which what is undecided became what is so behind it.
pub record MovesSo (old new : View) (before after : Held) (a z : Pending) : Type 0 where
  pub moves : Moves old new before after
  pub pends : PendsSo old new before after moves a z

-- the same of a port that may show nothing
abbrev pub MovesSoIf : Bool → View → View → Held → Held → Pending → Pending → Type 0
MovesSoIf shows old new before after a z = shows ≡ true → MovesSo old new before after a z
