-- What a call of a try has come to, by what it showed (this project's).
use Rattle.client_state.specs.Causes.{cause_behind}
use Rattle.client_state.specs.declared.calls.Came.TheVariants as came
use Rattle.client_state.specs.declared.calls.Came.{Came}
use Rattle.client_state.specs.declared.calls.Drew.TheVariants as drew
use Rattle.client_state.specs.declared.calls.Drew.{Drew}
use Rattle.client_items.specs.Courses.{IsDownAt, is_committed}
use Rattle.client_items.specs.declared.news.Settled.{Settled}
use Rattle.session_outbox.specs.declared.answers.Asked as answer
use Rattle.session_outbox.specs.declared.answers.Asked.TheVariants as answers
use Rattle.session_outbox.specs.declared.answers.Verdict.{Verdict}
use Rattle.client_port.specs.Acting.{Refuses}
use Rattle.client_port.specs.Views.{View}
use Rattle.client_port.specs.Works.{AskWork, DecideWork, Does}
use Rattle.serial_model.specs.declared.outcomes.Cause.{Cause}
use Rattle.std.specs.Prelude.{Bool, IfOk, Ok, Result, Some, true, ℕ, ◌≡◌}
use Rattle.thor_value.specs.declared.memory.NoMemory.{NoMemory}
use Rattle.thor_value.specs.declared.names.Ts.{Ts}
use Rattle.repo_refusals.specs.declared.refusal.Refusal.{Refusal}

-- a repository has refused the call for this
pub record RefusedFor (old new : View) (cause : Cause) : Type 0 where
  pub repo : ℕ
  pub refusal : Refusal
  pub call : Refuses old new repo refusal
  pub cause_is : cause_behind refusal repo ≡ Some cause

-- The client has called the repository r, which has decided so about t, or has told that it is decided so.
pub data IsToldBy (old new : View) (r : ℕ) (t : Ts) (commit : Bool) : Type 0 where
  ToldByDecision : (s : ℕ) (asked : Bool) (v : Verdict) → v.commit ≡ commit → Does {X = Verdict} old new r (Ok v) (DecideWork s t asked (Ok v)) → IsToldBy old new r t commit
  ToldByAnswer : (v : Verdict) → v.commit ≡ commit → Does {X = answer.Asked} old new r (Ok (answers.Settled v)) (AskWork t (Ok (answers.Settled v))) → IsToldBy old new r t commit

-- An item that was Unknown ends as a repository has told of its transaction, which was down where that was aborted.
pub record IsLearnt (old new : View) (settled : Settled) : Type 0 where
  pub repo : ℕ
  pub told : IsToldBy old new repo settled.ts (is_committed settled.outcome)
  pub down : IsDownAt repo settled.outcome

-- A try ends by a call only where a repository has refused it for the cause. An Unknown item's verdict is learnt only
-- where a repository has told it.
abbrev pub CameShown : View → View → Came → Type 0
CameShown old new came.Well = Unit {0}
CameShown old new came.Anew = Unit {0}
CameShown old new (came.Refused cause) = RefusedFor old new cause
CameShown old new (came.Learnt learnt) = IsLearnt old new learnt.settled

-- the same of a call, on a port that may show nothing
abbrev pub CameIf : Bool → View → View → Result Came NoMemory → Type 0
CameIf shows old new result = IfOk result (λ c. shows ≡ true → CameShown old new c)

abbrev pub DrewShown : View → View → Drew → Type 0
DrewShown old new (drew.Ts t) = Unit {0}
DrewShown old new (drew.Refused c) = CameShown old new c

-- the same where a timestamp is drawn
abbrev pub DrewIf : Bool → View → View → Result Drew NoMemory → Type 0
DrewIf shows old new result = IfOk result (λ d. shows ≡ true → DrewShown old new d)
