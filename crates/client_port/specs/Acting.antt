-- What a client has called of its port, and what it was told (this project's).
use Rattle.log_entries.specs.declared.request.Request.{Request}
use Rattle.session_outbox.specs.declared.answers.Asked as answer
use Rattle.session_outbox.specs.declared.answers.Asked.TheVariants as answers
use Rattle.session_outbox.specs.declared.answers.Verdict.{Verdict}
use Rattle.session_outbox.specs.declared.answers.Welcome.{Welcome}
use Rattle.session_outbox.specs.declared.message.Message.{Message}
use Rattle.client_port.specs.Views.{View}
use Rattle.client_port.specs.Works.{AskWork, CommitWork, ConnectWork, DecideWork, Does, DrawWork, FetchWork, FinishWork, ForgetWork, GrantWork, PrepareWork, ReceiveWork}
use Rattle.std.specs.Prelude.{Bool, Err, Ok, Option, Result, Some, true, ℕ, ◌≡◌}
use Rattle.thor_value.specs.declared.names.Ts.{Ts}
use Rattle.repo_refusals.specs.declared.refusal.Refusal.{Refusal}

-- A client has called nothing, or one call of its port, which was answered so and has done its work.
pub data Acts (old new : View) : Type 0 where
  Rests : new ≡ old → Acts old new
  Connected : (r c : ℕ) (result : Result Welcome Refusal) → Does old new r result (ConnectWork c result) → Acts old new
  Fetched : (r s page upto : ℕ) (result : Result (Unit {0}) Refusal) → Does old new r result (FetchWork s page upto result) → Acts old new
  Granted : (r s : ℕ) (result : Result (Unit {0}) Refusal) → Does old new r result (GrantWork s result) → Acts old new
  Received : (r s : ℕ) (result : Result (Option Message) Refusal) → Does old new r result (ReceiveWork s result) → Acts old new
  Drew : (r s floor : ℕ) (result : Result Ts Refusal) → Does old new r result (DrawWork s floor result) → Acts old new
  Prepared : (r s : ℕ) (q : Request) (result : Result ℕ Refusal) → Does old new r result (PrepareWork s q result) → Acts old new
  Committed : (r s : ℕ) (q : Request) (result : Result ℕ Refusal) → Does old new r result (CommitWork s q result) → Acts old new
  Decided : (r s : ℕ) (t : Ts) (commit : Bool) (result : Result Verdict Refusal) → Does old new r result (DecideWork s t commit result) → Acts old new
  Finished : (r : ℕ) (t : Ts) (commit : Bool) (result : Result (Option ℕ) Refusal) → Does old new r result (FinishWork t commit result) → Acts old new
  Forgot : (r : ℕ) (t : Ts) (result : Result (Unit {0}) Refusal) → Does old new r result (ForgetWork t result) → Acts old new
  Asked : (r : ℕ) (t : Ts) (result : Result answer.Asked Refusal) → Does old new r result (AskWork t result) → Acts old new

-- the same of a port that may show nothing
abbrev pub ActsIf : Bool → View → View → Type 0
ActsIf shows old new = shows ≡ true → Acts old new

-- The client has called the repository r, which has refused the call so.
pub data Refuses (old new : View) (r : ℕ) (e : Refusal) : Type 0 where
  RefusesConnect : (c : ℕ) → Does {X = Welcome} old new r (Err e) (ConnectWork c (Err e)) → Refuses old new r e
  RefusesFetch : (s page upto : ℕ) → Does {X = Unit {0}} old new r (Err e) (FetchWork s page upto (Err e)) → Refuses old new r e
  RefusesGrant : (s : ℕ) → Does {X = Unit {0}} old new r (Err e) (GrantWork s (Err e)) → Refuses old new r e
  RefusesReceive : (s : ℕ) → Does {X = Option Message} old new r (Err e) (ReceiveWork s (Err e)) → Refuses old new r e
  RefusesDraw : (s floor : ℕ) → Does {X = Ts} old new r (Err e) (DrawWork s floor (Err e)) → Refuses old new r e
  RefusesPrepare : (s : ℕ) (q : Request) → Does {X = ℕ} old new r (Err e) (PrepareWork s q (Err e)) → Refuses old new r e
  RefusesCommit : (s : ℕ) (q : Request) → Does {X = ℕ} old new r (Err e) (CommitWork s q (Err e)) → Refuses old new r e
  RefusesAsk : (t : Ts) → Does {X = answer.Asked} old new r (Err e) (AskWork t (Err e)) → Refuses old new r e

-- The client has called a repository, which has committed t, has decided so about it, or has told that it is decided so.
pub data IsDecided (old new : View) (t : Ts) (commit : Bool) : Type 0 where
  ByCommit : (r s place : ℕ) (q : Request) → q.tx ≡ t → commit ≡ true → Does {X = ℕ} old new r (Ok place) (CommitWork s q (Ok place)) → IsDecided old new t commit
  ByDecision : (r s : ℕ) (asked : Bool) (v : Verdict) → v.commit ≡ commit → Does {X = Verdict} old new r (Ok v) (DecideWork s t asked (Ok v)) → IsDecided old new t commit
  ByAnswer : (r : ℕ) (v : Verdict) → v.commit ≡ commit → Does {X = answer.Asked} old new r (Ok (answers.Settled v)) (AskWork t (Ok (answers.Settled v))) → IsDecided old new t commit

-- The client has taken this message of the repository r.
pub data IsTaken (old new : View) (r : ℕ) (m : Message) : Type 0 where
  Takes : (s : ℕ) → Does {X = Option Message} old new r (Ok (Some m)) (ReceiveWork s (Ok (Some m))) → IsTaken old new r m
