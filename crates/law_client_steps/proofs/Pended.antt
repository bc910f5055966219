-- What is undecided of a client's transaction, by the session in which it was prepared or sent.
use Rattle.client_port.specs.Views.{View}
use Rattle.client_state.specs.Pending.{IsAsking, IsPreparing, NonePending, Pending, asked_at, prepared_at}
use Rattle.client_state.specs.declared.held.Held.{Held}
use Rattle.law_client_steps.specs.Undecided.{HasStoppedIn, StopsAlone}
use Rattle.session_outbox.specs.declared.answers.At.{At}
use Rattle.std.proofs.Common.{ap, subst, sym, ◌≡◌}
use Rattle.std.proofs.lemmas.Option.{same_Some}
use Rattle.std.specs.Prelude.{Some}
use Rattle.thor_value.specs.declared.names.Ts.{Ts}

module _ (port : View) (held : Held) (at : At) (t : Ts) where
  pub none_prepares : (p : Pending) → prepared_at p ≡ Some (at, t) → StopsAlone p port held → ⊥
  none_prepares NonePending e k = cc
  none_prepares (IsPreparing b u rs transaction) e k = k
  none_prepares (IsAsking sent n) e k = cc

  -- what is asked about was sent by a call that stopped
  pub asked_stops : (p : Pending) → asked_at p ≡ Some (at, t) → StopsAlone p port held → HasStoppedIn at port held
  asked_stops NonePending e k = cc
  asked_stops (IsPreparing b u rs transaction) e k = cc
  asked_stops (IsAsking sent n) e k = subst (λ (b : At). HasStoppedIn b port held) (ap (λ (x : At × Ts). x.0) (same_Some (sent.at, sent.ts) (at, t) e)) k

  pub stops_asked : (p : Pending) → asked_at p ≡ Some (at, t) → HasStoppedIn at port held → StopsAlone p port held
  stops_asked NonePending e h = cc
  stops_asked (IsPreparing b u rs transaction) e h = cc
  stops_asked (IsAsking sent n) e h = subst (λ (b : At). HasStoppedIn b port held) (sym (ap (λ (x : At × Ts). x.0) (same_Some (sent.at, sent.ts) (at, t) e))) h
