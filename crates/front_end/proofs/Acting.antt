-- One call of a port, as a client's functions hand it on.
use Rattle.client_cache.specs.Copies.{Contents}
use Rattle.client_state.specs.Calling.{Connects, Draws, Fetches, Grants}
use Rattle.client_state.specs.declared.calls.Drew.{Drew}
use Rattle.client_state.specs.declared.link.Link.{Link}
use Rattle.log_entries.specs.declared.request.Request.{Request}
use Rattle.client_port.specs.Acting.{ActsIf, Asked, Committed, Connected, Decided, Drew as drew, Fetched, Finished, Forgot, Granted, Prepared, Received, Rests}
use Rattle.session_outbox.specs.declared.answers.Asked as answer
use Rattle.session_outbox.specs.declared.answers.At.{At}
use Rattle.session_outbox.specs.declared.answers.Verdict.{Verdict}
use Rattle.session_outbox.specs.declared.message.Message.{Message}
use Rattle.client_port.specs.Views.{View}
use Rattle.client_port.specs.Works.{AskWork, CommitWork, DecideWork, Does, FinishWork, ForgetWork, PrepareWork, ReceiveWork}
use Rattle.std.proofs.Common.{List, true, ℕ, ◌≡◌}
use Rattle.std.specs.Prelude.{Bool, Option, Result}
use Rattle.thor_value.specs.declared.memory.NoMemory.{NoMemory}
use Rattle.thor_value.specs.declared.names.Ts.{Ts}
use Rattle.repo_refusals.specs.declared.refusal.Refusal.{Refusal}

module _ (shows : Bool) (old new : View) where
  pub by_none : new ≡ old → ActsIf shows old new
  by_none same s = Rests same

  pub by_connect : (r c : ℕ) (before after : List Link) → Connects shows old new r c before after → ActsIf shows old new
  by_connect r c before after k s = Connected r c k.result (k.call s)

  pub by_fetch : (at : At) (page upto : ℕ) (before after : List Link) (copies left : Contents) → Fetches shows old new at page upto before after copies left → ActsIf shows old new
  by_fetch at page upto before after copies left k s = Fetched at.repo at.session page upto k.result (k.call s)

  pub by_grant : (at : At) (before after : List Link) (copies left : Contents) → Grants shows old new at before after copies left → ActsIf shows old new
  by_grant at before after copies left k s = Granted at.repo at.session k.result (k.call s)

  pub by_draw : (at : At) (told : Result Drew NoMemory) (before after : List Link) (copies left : Contents) → Draws shows old new at told before after copies left → ActsIf shows old new
  by_draw at told before after copies left k s = drew at.repo at.session k.floor k.result (k.call s)

  pub by_receive : (r t : ℕ) (result : Result (Option Message) Refusal) → (shows ≡ true → Does old new r result (ReceiveWork t result)) → ActsIf shows old new
  by_receive r t result call s = Received r t result (call s)

  pub by_prepare : (r t : ℕ) (q : Request) (result : Result ℕ Refusal) → (shows ≡ true → Does old new r result (PrepareWork t q result)) → ActsIf shows old new
  by_prepare r t q result call s = Prepared r t q result (call s)

  pub by_commit : (r t : ℕ) (q : Request) (result : Result ℕ Refusal) → (shows ≡ true → Does old new r result (CommitWork t q result)) → ActsIf shows old new
  by_commit r t q result call s = Committed r t q result (call s)

  pub by_decide : (r t : ℕ) (ts : Ts) (commit : Bool) (result : Result Verdict Refusal) → (shows ≡ true → Does old new r result (DecideWork t ts commit result)) → ActsIf shows old new
  by_decide r t ts commit result call s = Decided r t ts commit result (call s)

  pub by_finish : (r : ℕ) (ts : Ts) (commit : Bool) (result : Result (Option ℕ) Refusal) → (shows ≡ true → Does old new r result (FinishWork ts commit result)) → ActsIf shows old new
  by_finish r ts commit result call s = Finished r ts commit result (call s)

  pub by_forget : (r : ℕ) (ts : Ts) (result : Result (Unit {0}) Refusal) → (shows ≡ true → Does old new r result (ForgetWork ts result)) → ActsIf shows old new
  by_forget r ts result call s = Forgot r ts result (call s)

  pub by_ask : (r : ℕ) (ts : Ts) (result : Result answer.Asked Refusal) → (shows ≡ true → Does old new r result (AskWork ts result)) → ActsIf shows old new
  by_ask r ts result call s = Asked r ts result (call s)
