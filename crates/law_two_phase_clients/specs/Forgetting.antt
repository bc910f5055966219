-- Which participants have taken a verdict that is handed on, and when the coordinator is to forget it (this project's).
use Rattle.client_port.specs.Views.{View}
use Rattle.client_state.specs.Handing.{IsSentBy}
use Rattle.client_state.specs.Moving.{Aborted, AskedInVain, AskedOwn, CommitRefused, Committed, DecideRefused, Decided, Finished, Forgot, Moves, PrepareRefused, Prepared, ReceiveRefused, ReceiveStopped, Received, ReceivedNone, Transformed, Unsent}
use Rattle.client_state.specs.Participants.{first_in, others_in}
use Rattle.client_state.specs.Pending.{Pending}
use Rattle.client_state.specs.declared.duties.Duty.TheVariants.{Finish, Forget}
use Rattle.client_state.specs.declared.duties.Duty.{Duty}
use Rattle.client_state.specs.declared.held.Held.{Held}
use Rattle.client_state.specs.declared.link.Link.{Link}
use Rattle.client_state.specs.declared.transaction.Sent.{Sent}
use Rattle.repo_refusals.specs.declared.refusal.Refusal.{Refusal}
use Rattle.std.specs.List.{list_any}
use Rattle.std.specs.Prelude.{Bool, Err, List, Ok, Option, Result, [], false, nat_eq, true, ℕ, ◌∷◌, ◌≡◌, ◌⊎◌}
use Rattle.thor_value.specs.declared.names.Ts.{Ts}

-- The participant is among those that have taken the verdict on the transaction.
abbrev pub HasTaken : List (Ts × ℕ) → Ts → ℕ → Type 0
HasTaken [] t r = ⊥
HasTaken (p ∷ ps) t r = (p ≡ (t, r)) ⊎ HasTaken ps t r

-- All of some participants but those that are still to be told have taken it.
abbrev pub AreTaken : List (Ts × ℕ) → Ts → List ℕ → List ℕ → Type 0
AreTaken taken t all to = (r : ℕ) → list_any (nat_eq r) all ≡ true → list_any (nat_eq r) to ≡ false → HasTaken taken t r

-- The coordinator may still be made to forget only where all others before have taken the verdict.
abbrev pub FinishTold : (Ts → List ℕ) → List (Ts × ℕ) → Ts → List ℕ → Bool → Type 0
FinishTold others taken t to true = AreTaken taken t (others t) to
FinishTold others taken t to false = Unit {0}

-- The same of a duty. It is to forget only what all others have taken.
abbrev pub DutyTold : (Ts → List ℕ) → List (Ts × ℕ) → Duty → Type 0
DutyTold others taken (Finish v to forgets) = FinishTold others taken v.tx to forgets
DutyTold others taken (Forget t) = AreTaken taken t (others t) []

-- The same of all duties.
abbrev pub DutiesTold : (Ts → List ℕ) → List (Ts × ℕ) → List Duty → Type 0
DutiesTold others taken [] = Unit {0}
DutiesTold others taken (d ∷ ds) = DutyTold others taken d × DutiesTold others taken ds

-- ---- a step

-- one more has taken it, where it has answered
abbrev pub taken_where : Result (Option ℕ) Refusal → Ts → ℕ → List (Ts × ℕ) → List (Ts × ℕ)
taken_where (Ok x) t r taken = (t, r) ∷ taken
taken_where (Err k) t r taken = taken

-- which have taken a verdict behind a step
abbrev pub taken_by : (old new : View) (before after : Held) → Moves old new before after → List (Ts × ℕ) → List (Ts × ℕ)
taken_by old new before after (Unsent sends) taken = taken
taken_by old new before after (Received at m does there takes same) taken = taken
taken_by old new before after (ReceivedNone at does there waits same fewer) taken = taken
taken_by old new before after (ReceiveRefused at k does there loses same) taken = taken
taken_by old new before after (ReceiveStopped at k does there outage stops same fewer) taken = taken
taken_by old new before after (Prepared s place does of less) taken = taken
taken_by old new before after (PrepareRefused s k does of idle learns same) taken = taken
taken_by old new before after (Committed s place does of session wrote held idle keeps) taken = taken
taken_by old new before after (Transformed s place oref made does of session writes here held idle keeps) taken = taken
taken_by old new before after (CommitRefused s k does of idle learns same) taken = taken
taken_by old new before after (Decided at t v does idle ends) taken = taken
taken_by old new before after (Aborted at t v does less) taken = taken
taken_by old new before after (DecideRefused at t commit k does loses same) taken = taken
taken_by old new before after (Finished r t commit result does less) taken = taken_where result t r taken
taken_by old new before after (Forgot r t result does less) taken = taken
taken_by old new before after (AskedOwn r t v does ends) taken = taken
taken_by old new before after (AskedInVain r t result does leaves same fewer) taken = taken

-- What was sent has these other participants.
abbrev pub SentHas : (Ts → List ℕ) → Pending → List Link → Type 0
SentHas others a links = (r : ℕ) (sent : Sent) → IsSentBy a links r sent → (m : ℕ) → list_any (nat_eq m) (others sent.ts) ≡ true → list_any (nat_eq m) (others_in sent.participants (first_in sent.participants)) ≡ true

-- What was to be aborted hasn't committed.
abbrev pub AbortsNever : (old new : View) (before after : Held) → Moves old new before after → Type 0
AbortsNever old new before after (Unsent sends) = Unit {0}
AbortsNever old new before after (Received at m does there takes same) = Unit {0}
AbortsNever old new before after (ReceivedNone at does there waits same fewer) = Unit {0}
AbortsNever old new before after (ReceiveRefused at k does there loses same) = Unit {0}
AbortsNever old new before after (ReceiveStopped at k does there outage stops same fewer) = Unit {0}
AbortsNever old new before after (Prepared s place does of less) = Unit {0}
AbortsNever old new before after (PrepareRefused s k does of idle learns same) = Unit {0}
AbortsNever old new before after (Committed s place does of session wrote held idle keeps) = Unit {0}
AbortsNever old new before after (Transformed s place oref made does of session writes here held idle keeps) = Unit {0}
AbortsNever old new before after (CommitRefused s k does of idle learns same) = Unit {0}
AbortsNever old new before after (Decided at t v does idle ends) = Unit {0}
AbortsNever old new before after (Aborted at t v does less) = v.commit ≡ false
AbortsNever old new before after (DecideRefused at t commit k does loses same) = Unit {0}
AbortsNever old new before after (Finished r t commit result does less) = Unit {0}
AbortsNever old new before after (Forgot r t result does less) = Unit {0}
AbortsNever old new before after (AskedOwn r t v does ends) = Unit {0}
AbortsNever old new before after (AskedInVain r t result does leaves same fewer) = Unit {0}

-- A coordinator is made to forget only what all others have taken.
abbrev pub ForgetsTaken : (Ts → List ℕ) → List (Ts × ℕ) → (old new : View) (before after : Held) → Moves old new before after → Type 0
ForgetsTaken others taken old new before after (Unsent sends) = Unit {0}
ForgetsTaken others taken old new before after (Received at m does there takes same) = Unit {0}
ForgetsTaken others taken old new before after (ReceivedNone at does there waits same fewer) = Unit {0}
ForgetsTaken others taken old new before after (ReceiveRefused at k does there loses same) = Unit {0}
ForgetsTaken others taken old new before after (ReceiveStopped at k does there outage stops same fewer) = Unit {0}
ForgetsTaken others taken old new before after (Prepared s place does of less) = Unit {0}
ForgetsTaken others taken old new before after (PrepareRefused s k does of idle learns same) = Unit {0}
ForgetsTaken others taken old new before after (Committed s place does of session wrote held idle keeps) = Unit {0}
ForgetsTaken others taken old new before after (Transformed s place oref made does of session writes here held idle keeps) = Unit {0}
ForgetsTaken others taken old new before after (CommitRefused s k does of idle learns same) = Unit {0}
ForgetsTaken others taken old new before after (Decided at t v does idle ends) = Unit {0}
ForgetsTaken others taken old new before after (Aborted at t v does less) = Unit {0}
ForgetsTaken others taken old new before after (DecideRefused at t commit k does loses same) = Unit {0}
ForgetsTaken others taken old new before after (Finished r t commit result does less) = Unit {0}
ForgetsTaken others taken old new before after (Forgot r t result does less) = AreTaken taken t (others t) []
ForgetsTaken others taken old new before after (AskedOwn r t v does ends) = Unit {0}
ForgetsTaken others taken old new before after (AskedInVain r t result does leaves same fewer) = Unit {0}
