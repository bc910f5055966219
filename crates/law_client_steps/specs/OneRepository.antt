-- A client of a store that has one repository: its steps, and what others make of the repository between (this project's).
use Rattle.law_atomic_commit.specs.Several.{is_committed_part}
use Rattle.client_state.specs.Moving.{Aborted, AskedInVain, AskedOwn, CommitRefused, Committed, Decided, DecideRefused, Finished, Forgot, Moves, PrepareRefused, Prepared, ReceiveRefused, ReceiveStopped, Received, ReceivedNone, Transformed, Unsent}
use Rattle.client_state.specs.declared.held.Held.{Held}
use Rattle.law_client_steps.specs.Owed.{ClientFits, PageOwed}
use Rattle.law_client_steps.specs.Positions.{LeadsBy, Position}
use Rattle.law_client_steps.specs.Undecided.{StopsAlone}
use Rattle.spec_history.specs.History.{known_by, state}
use Rattle.spec_history.specs.Sound.{sound}
use Rattle.session_outbox.specs.declared.message.Message.TheVariants.{Grant, Invalid, Page, Upgrade}
use Rattle.session_outbox.specs.declared.message.Message.{Message}
use Rattle.client_port.specs.Views.{View}
use Rattle.spec_trace.specs.Exact.{exact}
use Rattle.spec_trace.specs.Session.{invalid, session}
use Rattle.spec_trace.specs.Trace.{entries}
use Rattle.std.specs.Option.{IsSomeAnd}
use Rattle.std.specs.Prelude.{Bool, List, Some, [], length, ℕ, ◌<◌, ◌^◌, ◌≡◌, ◌≤◌, ◌⊎◌}
use Rattle.thor_value.specs.FiniteMap.{get}
use Rattle.thor_value.specs.declared.names.Oref.{Oref}
use Rattle.thor_value.specs.declared.names.Ts.{Ts}
use Rattle.thor_value.specs.declared.values.Obj.{Obj}

-- The port reaches one repository, which knows that it is the only one, and no others. Its trace is sound and exact, and has fewer
-- entries than a place can tell.
pub record HasOneRepository (port : View) : Type 0 where
  pub one : port.opened.repos ≡ 1
  pub numbered : (port.opened.base 0).repo ≡ 0
  pub counted : (port.opened.base 0).repos ≡ 1
  pub outside : (r : ℕ) → 1 ≤ r → entries (port.seen r) ≡ []
  pub owed : sound (port.opened.base 0) (entries (port.seen 0))
  pub kept : exact (port.opened.base 0) (port.seen 0)
  pub short : length (entries (port.seen 0)) < 2 ^ 64

-- whether the transaction has committed there
abbrev pub committed_there : View → Ts → Bool
committed_there port t = is_committed_part (known_by (port.opened.base 0) (entries (port.seen 0)) t)

-- The client fits what it has seen of the only repository, and what it asks about was sent by a call that stopped.
pub record FitsOne (p : Position) : Type 0 where
  pub only : HasOneRepository p.port
  pub fits : ClientFits p.port (committed_there p.port) p.held
  pub stops : StopsAlone p.pending p.port p.held

-- The copy o of x is what stands there now; or the session has x among what is invalid since a place that the client doesn't know.
abbrev pub IsRightOrTold : View → ℕ → ℕ → Oref → Obj → Type 0
IsRightOrTold port s upto x o =
    (get (state (port.opened.base 0) (entries (port.seen 0))).objects x ≡ Some o)
    ⊎ IsSomeAnd (session (port.opened.base 0) (port.seen 0) s) (λ v. IsSomeAnd (invalid (port.opened.base 0) (entries (port.seen 0)) s v x) (λ k. upto ≤ k))

-- ---- what is asked of a step

-- A page's message brings what stood at its place. Of the other messages nothing is asked.
abbrev pub BringsWhatStood : View → ℕ → Message → Type 0
BringsWhatStood port repo (Page page bytes place) = PageOwed port repo page bytes place
BringsWhatStood port repo (Grant page place) = Unit {0}
BringsWhatStood port repo (Invalid names place) = Unit {0}
BringsWhatStood port repo (Upgrade number text place) = Unit {0}

-- What is asked of a step, of the port alone: that pages bring what stood there.
abbrev pub StepOwed : (old new : View) (before after : Held) → Moves old new before after → Type 0
StepOwed old new before after (Unsent sends) = Unit {0}
StepOwed old new before after (Received at m does there takes same) = BringsWhatStood new at.repo m
StepOwed old new before after (ReceivedNone at does there waits same fewer) = Unit {0}
StepOwed old new before after (ReceiveRefused at k does there loses same) = Unit {0}
StepOwed old new before after (ReceiveStopped at k does there outage stops same fewer) = Unit {0}
StepOwed old new before after (Prepared s place does of less) = Unit {0}
StepOwed old new before after (PrepareRefused s k does of idle learns same) = Unit {0}
StepOwed old new before after (Committed s place does of session wrote held idle keeps) = Unit {0}
StepOwed old new before after (Transformed s place oref made does of session writes here held idle keeps) = Unit {0}
StepOwed old new before after (CommitRefused s k does of idle learns same) = Unit {0}
StepOwed old new before after (Decided at t v does idle ends) = Unit {0}
StepOwed old new before after (Aborted at t v does less) = Unit {0}
StepOwed old new before after (DecideRefused at t commit k does loses same) = Unit {0}
StepOwed old new before after (Finished r t commit result does less) = Unit {0}
StepOwed old new before after (Forgot r t result does less) = Unit {0}
StepOwed old new before after (AskedOwn r t v does ends) = Unit {0}
StepOwed old new before after (AskedInVain r t result does leaves same fewer) = Unit {0}

-- ---- a run

-- One position leads to another by these between.
abbrev pub Leads : Position → List Position → Position → Type 0
Leads a between z = LeadsBy HasOneRepository StepOwed a between z
