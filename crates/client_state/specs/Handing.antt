-- What a client has to do about verdicts: what comes to that, and what is done of it (this project's).
use Rattle.client_state.specs.declared.duties.Duties.{Duties}
use Rattle.client_state.specs.declared.duties.Duty.TheVariants.{Finish, Forget}
use Rattle.client_state.specs.declared.duties.Duty.{Duty}
use Rattle.client_state.specs.declared.duties.Helping.TheVariants as helping
use Rattle.client_state.specs.declared.duties.Helping.{Helping}
use Rattle.client_state.specs.declared.link.Link.TheVariants.{Unsettled}
use Rattle.client_state.specs.declared.link.Link.{Link}
use Rattle.client_state.specs.declared.transaction.Sent.{Sent}
use Rattle.client_state.specs.declared.transaction.Transaction.{Transaction}
use Rattle.client_state.specs.Participants.{first_in, others_in, sent_of}
use Rattle.client_state.specs.Pending.{IsAsking, IsPreparing, Pending}
use Rattle.client_state.specs.Showing.{IsToldBy}
use Rattle.client_port.specs.Views.{View}
use Rattle.session_outbox.specs.declared.answers.At.{At}
use Rattle.session_outbox.specs.declared.answers.Verdict.{Verdict}
use Rattle.std.specs.Prelude.{Bool, Err, List, None, Ok, Option, Result, Some, [], cond, false, slice_get, true, ℕ, ◌&&◌, ◌++◌, ◌∷◌, ◌≡◌, ◌⊎◌}
use Rattle.thor_value.specs.declared.names.Ts.{Ts}

-- ---- duties

-- A verdict is to be handed to these participants, behind all other duties. Where there are none, nothing is to be done.
abbrev pub handed : Verdict → List ℕ → List Duty → List Duty
handed v [] ds = ds
handed v (r ∷ rs) ds = ds ++ Finish v (r ∷ rs) v.commit ∷ []

-- what is left where all participants were told
abbrev pub told_all : Verdict → Bool → List Duty → List Duty
told_all v forgets ds = cond forgets (Forget v.tx ∷ ds) ds

-- What is left of a duty of which these participants are still to be told, before all other duties.
abbrev pub kept_behind : Verdict → List ℕ → Bool → List Duty → List Duty
kept_behind v [] forgets ds = told_all v forgets ds
kept_behind v (r ∷ rs) forgets ds = Finish v (r ∷ rs) forgets ∷ ds

-- the verdict by which a client helps, where it knows it
abbrev pub helps_by : Option Helping → Option Verdict
helps_by None = None
helps_by (Some (helping.Ask t refuser)) = None
helps_by (Some (helping.Finish v refuser)) = Some v

-- ---- what comes to the duties

-- What was sent to be decided, as the client has it: it asks for the verdict, its coordinator was to decide all that is prepared, or an
-- item is held as Unknown. `r` is the repository that tells the verdict.
pub data IsSentBy (a : Pending) (links : List Link) (r : ℕ) (sent : Sent) : Type 0 where
  ByAsking : (n : ℕ) → a ≡ IsAsking sent n → r ≡ first_in sent.participants → IsSentBy a links r sent
  ByPreparing : (rs : List ℕ) (transaction : Transaction) → a ≡ IsPreparing sent.at sent.ts rs transaction → sent ≡ sent_of sent.ts sent.at transaction → r ≡ sent.at.repo → IsSentBy a links r sent
  ByLink : (index : ℕ) → slice_get links r ≡ Some (Unsettled sent index) → IsSentBy a links r sent

-- The verdict on what was sent was told, and is to be handed to all participants but the coordinator.
pub record TellsOn (old new : View) (a : Pending) (links : List Link) (before after : List Duty) : Type 0 where
  pub r : ℕ
  pub sent : Sent
  pub v : Verdict
  pub known : IsSentBy a links r sent
  pub tx : v.tx ≡ sent.ts
  pub told : IsToldBy old new r sent.ts v.commit
  pub behind : after ≡ handed v (others_in sent.participants (first_in sent.participants)) before

-- A verdict comes to the duties that was told, or none does.
abbrev pub MayTell : View → View → Pending → List Link → List Duty → List Duty → Type 0
MayTell old new a links before after = (after ≡ before) ⊎ TellsOn old new a links before after

-- The verdict by which the client helps was told by its coordinator.
abbrev pub IsHelpTold : View → View → Option Verdict → Type 0
IsHelpTold old new None = Unit {0}
IsHelpTold old new (Some v) = IsToldBy old new v.tx.repo v.tx v.commit

-- The oldest duty, by which nobody is to be told, is passed over.
pub record PassesOver (before after : List Duty) : Type 0 where
  pub v : Verdict
  pub forgets : Bool
  pub first : before ≡ Finish v [] forgets ∷ after

-- What comes to the duties by a step that hands nothing on: nothing, or a verdict that was told. The client helps as before, without a
-- verdict, or by one that was told.
pub record HandsTold (old new : View) (a : Pending) (links : List Link) (d e : Duties) : Type 0 where
  pub verdicts : MayTell old new a links d.verdicts e.verdicts ⊎ PassesOver d.verdicts e.verdicts
  pub helping : (e.helping ≡ d.helping) ⊎ IsHelpTold old new (helps_by e.helping)

-- The verdict on what was sent comes to the duties, and the client helps as before.
pub record HandsVerdict (old new : View) (a : Pending) (links : List Link) (d e : Duties) : Type 0 where
  pub verdicts : TellsOn old new a links d.verdicts e.verdicts
  pub helping : e.helping ≡ d.helping

-- No verdict comes to the duties.
abbrev pub KeepsDuties : Duties → Duties → Type 0
KeepsDuties d e = (e.verdicts ≡ d.verdicts) × ((e.helping ≡ d.helping) ⊎ (helps_by e.helping ≡ None))

-- the same of a function over a port that may show nothing
abbrev pub HandsIf : Bool → View → View → Pending → List Link → Duties → Duties → Type 0
HandsIf shows old new a links d e = shows ≡ true → HandsTold old new a links d e

-- ---- what is done of the duties

abbrev pub is_answered : {X : Type 0} → {E : Type 0} → Result X E → Bool
is_answered (Ok x) = true
is_answered (Err e) = false

-- The first participant of the oldest duty was told, and what is left of that comes first. The coordinator is to forget only where each
-- of them has answered.
pub record TellsNext (r : ℕ) (t : Ts) (commit answered : Bool) (d e : Duties) : Type 0 where
  pub v : Verdict
  pub to : List ℕ
  pub forgets : Bool
  pub rest : List Duty
  pub first : d.verdicts ≡ Finish v (r ∷ to) forgets ∷ rest
  pub tx : v.tx ≡ t
  pub commits : v.commit ≡ commit
  pub behind : e.verdicts ≡ kept_behind v to (forgets && answered) rest
  pub helping : e.helping ≡ d.helping

-- The repository that refused was told the verdict by which the client helps.
pub record TellsRefuser (r : ℕ) (t : Ts) (commit : Bool) (d e : Duties) : Type 0 where
  pub v : Verdict
  pub was : d.helping ≡ Some (helping.Finish v r)
  pub tx : v.tx ≡ t
  pub commits : v.commit ≡ commit
  pub verdicts : e.verdicts ≡ d.verdicts
  pub helping : e.helping ≡ None

-- The oldest duty is that the coordinator forgets the transaction, and it is done.
pub record ForgetsNext (r : ℕ) (t : Ts) (d e : Duties) : Type 0 where
  pub coordinator : r ≡ t.repo
  pub first : d.verdicts ≡ Forget t ∷ e.verdicts
  pub helping : e.helping ≡ d.helping

-- What the coordinator had prepared was to be aborted, and the coordinator has answered: the others that have prepared it are to be told.
pub record AbortsNext (at : At) (t : Ts) (v : Verdict) (d e : Duties) : Type 0 where
  pub prepared : List ℕ
  pub was : d.abort ≡ Some (record { coordinator = at; ts = t; prepared = prepared })
  pub behind : e.verdicts ≡ handed v prepared d.verdicts
  pub helping : e.helping ≡ d.helping

-- The coordinator has refused that: nothing is handed on.
pub record AbortsInVain (at : At) (t : Ts) (d e : Duties) : Type 0 where
  pub prepared : List ℕ
  pub was : d.abort ≡ Some (record { coordinator = at; ts = t; prepared = prepared })
  pub verdicts : e.verdicts ≡ d.verdicts
  pub helping : e.helping ≡ d.helping
