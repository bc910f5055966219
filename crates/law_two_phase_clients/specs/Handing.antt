-- What a client has to hand on, and what it hands on (this project's).
use Rattle.client_port.specs.Views.{View}
use Rattle.client_state.specs.Handing.{helps_by}
use Rattle.client_state.specs.Moving.{Aborted, AskedInVain, AskedOwn, CommitRefused, Committed, DecideRefused, Decided, Finished, Forgot, Moves, PrepareRefused, Prepared, ReceiveRefused, ReceiveStopped, Received, ReceivedNone, Transformed, Unsent}
use Rattle.client_state.specs.Showing.{IsToldBy}
use Rattle.client_state.specs.declared.duties.Duties.{Duties}
use Rattle.client_state.specs.declared.duties.Duty.TheVariants.{Finish, Forget}
use Rattle.client_state.specs.declared.duties.Duty.{Duty}
use Rattle.client_state.specs.declared.held.Held.{Held}
use Rattle.session_outbox.specs.declared.answers.Verdict.{Verdict}
use Rattle.std.specs.List.{AllByRecursion}
use Rattle.std.specs.Prelude.{Bool, List, None, Option, Some, [], ℕ, ◌∷◌, ◌≡◌, ◌⊎◌}
use Rattle.thor_value.specs.declared.names.Ts.{Ts}

-- what is to hold of a verdict: of the transaction, and whether it commits
abbrev pub OfVerdicts : Type 1
OfVerdicts = Ts → Bool → Type 0

-- It holds of what was told by a call.
abbrev pub HoldsOfTold : OfVerdicts → View → View → Type 0
HoldsOfTold P old new = (r : ℕ) (t : Ts) (commit : Bool) → IsToldBy old new r t commit → P t commit

-- It holds of the verdict of a duty.
abbrev pub DutyStands : OfVerdicts → Duty → Type 0
DutyStands P (Finish v to forgets) = P v.tx v.commit
DutyStands P (Forget t) = Unit {0}

-- It holds of the verdict by which the client helps.
abbrev pub HelpStands : OfVerdicts → Option Verdict → Type 0
HelpStands P None = Unit {0}
HelpStands P (Some v) = P v.tx v.commit

-- It holds of all that a client has to hand on.
pub record DutiesStand (P : OfVerdicts) (d : Duties) : Type 0 where
  pub verdicts : AllByRecursion (DutyStands P) d.verdicts
  pub helping : HelpStands P (helps_by d.helping)

-- ---- what there is to hand on

-- The duty is to hand on this verdict on the transaction.
abbrev pub IsDutyOf : Duty → Ts → Bool → Type 0
IsDutyOf (Finish v to forgets) t commit = (v.tx ≡ t) × (v.commit ≡ commit)
IsDutyOf (Forget u) t commit = ⊥

-- One of the duties is.
abbrev pub IsAmongDuties : List Duty → Ts → Bool → Type 0
IsAmongDuties [] t commit = ⊥
IsAmongDuties (d ∷ ds) t commit = IsDutyOf d t commit ⊎ IsAmongDuties ds t commit

-- The client helps by this verdict on the transaction.
abbrev pub IsHelpOf : Option Verdict → Ts → Bool → Type 0
IsHelpOf None t commit = ⊥
IsHelpOf (Some v) t commit = (v.tx ≡ t) × (v.commit ≡ commit)

-- The client has to hand on this verdict on the transaction.
abbrev pub HasToHandOn : Duties → Ts → Bool → Type 0
HasToHandOn d t commit = IsAmongDuties d.verdicts t commit ⊎ IsHelpOf (helps_by d.helping) t commit

-- It had to before, or some repository has told so by the step's call.
abbrev pub StoodOrIsTold : Duties → View → View → Ts → Bool → Type 0
StoodOrIsTold d old new t commit = HasToHandOn d t commit ⊎ ((r : ℕ) × IsToldBy old new r t commit)

-- It holds of what a step's call hands on.
abbrev pub HandsOnSo : OfVerdicts → (old new : View) (before after : Held) → Moves old new before after → Type 0
HandsOnSo P old new before after (Unsent sends) = Unit {0}
HandsOnSo P old new before after (Received at m does there takes same) = Unit {0}
HandsOnSo P old new before after (ReceivedNone at does there waits same fewer) = Unit {0}
HandsOnSo P old new before after (ReceiveRefused at k does there loses same) = Unit {0}
HandsOnSo P old new before after (ReceiveStopped at k does there outage stops same fewer) = Unit {0}
HandsOnSo P old new before after (Prepared s place does of less) = Unit {0}
HandsOnSo P old new before after (PrepareRefused s k does of idle learns same) = Unit {0}
HandsOnSo P old new before after (Committed s place does of session wrote held idle keeps) = Unit {0}
HandsOnSo P old new before after (Transformed s place oref made does of session writes here held idle keeps) = Unit {0}
HandsOnSo P old new before after (CommitRefused s k does of idle learns same) = Unit {0}
HandsOnSo P old new before after (Decided at t v does idle ends) = Unit {0}
HandsOnSo P old new before after (Aborted at t v does less) = Unit {0}
HandsOnSo P old new before after (DecideRefused at t commit k does loses same) = Unit {0}
HandsOnSo P old new before after (Finished r t commit result does less) = P t commit
HandsOnSo P old new before after (Forgot r t result does less) = Unit {0}
HandsOnSo P old new before after (AskedOwn r t v does ends) = Unit {0}
HandsOnSo P old new before after (AskedInVain r t result does leaves same fewer) = Unit {0}
