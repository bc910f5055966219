-- A refusal's reason holds of the trace at the call.
use Rattle.law_cache_coherence.proofs.Naming.{all_named}
use Rattle.law_cache_coherence.specs.Refusing.{IsReasonAt, IsReasonSeen, IsWriteSeen, Judged, Lost, OthersWrote}
use Rattle.client_state.specs.Calling.{DrawsAbove, IsDrawnSo}
use Rattle.client_state.specs.Links.{unsettled_time}
use Rattle.client_state.specs.declared.calls.Drew.TheVariants as drew
use Rattle.client_state.specs.declared.calls.Drew.{Drew}
use Rattle.client_state.specs.declared.link.Link.{Link}
use Rattle.log_entries.specs.declared.entry.Entry.{Entry}
use Rattle.log_entries.specs.declared.request.Request.{Request}
use Rattle.spec_history.specs.History.{Base}
use Rattle.session_outbox.specs.declared.answers.Asked as answer
use Rattle.session_outbox.specs.declared.answers.At.{At}
use Rattle.session_outbox.specs.declared.answers.Welcome.{Welcome}
use Rattle.session_outbox.specs.declared.message.Message.{Message}
use Rattle.session_outbox.specs.declared.message.Message.TheVariants as message
use Rattle.client_port.specs.Acting.{IsTaken, Refuses, RefusesAsk, RefusesCommit, RefusesConnect, RefusesDraw, RefusesFetch, RefusesGrant, RefusesPrepare, RefusesReceive, Takes}
use Rattle.client_port.specs.Views.{Calm, Halted, MayCome, Unsettled, View}
use Rattle.client_port.specs.Works.{Answered, AskWork, CommitWork, ConnectWork, Does, DrawWork, FetchWork, GrantWork, PrepareWork, ReceiveWork, RefusedMarked, RefusedUnmarked, RequestRefused, alone_entry}
use Rattle.log_entries.specs.declared.entry.Entry.TheVariants.{Prepared}
use Rattle.base_reasons.specs.declared.reason.Reason.{Reason}
use Rattle.spec_trace.specs.Session.{Invalid, Session, session}
use Rattle.spec_trace.specs.Trace.{Item}
use Rattle.std.proofs.Common.{List, ap, arith, refl, subst, true, ◌<◌, ◌≡◌, ◌≤◌, ℕ}
use Rattle.std.specs.Prelude.{Err, IfOk, None, Ok, Option, Result, Some}
use Rattle.thor_value.specs.declared.memory.NoMemory.{NoMemory}
use Rattle.std.specs.List.{list_any, slice_get}
use Rattle.std.specs.Option.{IsSomeAnd}
use Rattle.thor_value.specs.Names.{same_oref}
use Rattle.thor_value.specs.declared.names.Oref.{Oref}
use Rattle.thor_value.specs.declared.names.Ts.{Ts}
use Rattle.repo_refusals.specs.declared.refusal.Refusal.TheVariants as refused
use Rattle.repo_refusals.specs.declared.refusal.Refusal.{Refusal}

-- a call that answers a reason has met nothing unsettled, and has done its work
pub was_calm : (X : Type 0) (r : ℕ) (k : Reason) (met : Unsettled) (at after : List Item) (u : Unsettled) (work : Type 0) → Answered {X = X} r (Err (refused.Reason k)) met at after u work → work
was_calm X r k Calm at after u work h = h
was_calm X r k (MayCome e) at after u work h = absurd h.0
was_calm X r k Halted at after u work h = absurd h.0

module _ (b : Base) (at after : List Item) (u : Unsettled) (k : Reason) (s : ℕ) where
  unmarked : RefusedUnmarked b at s (refused.Reason k) after u → IsReasonAt b at after k
  unmarked h = Lost s h.0 h.1 h.2.0

  marked : RefusedMarked b at s (refused.Reason k) after u → IsReasonAt b at after k
  marked h = Judged s None h.0 h.1.0

  request : (e : Entry) (q : Request) → RequestRefused e b at s q (refused.Reason k) after u → IsReasonAt b at after k
  request e q h = Judged s (Some q) h.0 h.1.0

module _ (old new : View) (r : ℕ) (k : Reason) where
  abbrev b : Base
  b = old.opened.base r

  abbrev after : List Item
  after = new.seen r

  abbrev u : Unsettled
  u = new.unsettled r

  seen_so : {X : Type 0} (work : Base → List Item → List Item → Unsettled → Type 0) (d : Does {X = X} old new r (Err (refused.Reason k)) work) → (work b d.at after u → IsReasonAt b d.at after k) → IsReasonSeen old new r k
  seen_so {X} work d f = record { at = d.at; holds = f (was_calm X r k d.met d.at after u (work b d.at after u) d.answer) }

  pub reason_seen : Refuses old new r (refused.Reason k) → IsReasonSeen old new r k
  reason_seen (RefusesConnect c d) = seen_so {X = Welcome} (ConnectWork c (Err (refused.Reason k))) d (λ h. absurd h.0)
  reason_seen (RefusesFetch s page upto d) = seen_so {X = Unit {0}} (FetchWork s page upto (Err (refused.Reason k))) d (unmarked b d.at after u k s)
  reason_seen (RefusesGrant s d) = seen_so {X = Unit {0}} (GrantWork s (Err (refused.Reason k))) d (marked b d.at after u k s)
  reason_seen (RefusesReceive s d) = seen_so {X = Option Message} (ReceiveWork s (Err (refused.Reason k))) d (unmarked b d.at after u k s)
  reason_seen (RefusesDraw s floor d) = seen_so {X = Ts} (DrawWork s floor (Err (refused.Reason k))) d (marked b d.at after u k s)
  reason_seen (RefusesPrepare s q d) = seen_so {X = ℕ} (PrepareWork s q (Err (refused.Reason k))) d (request b d.at after u k s (Prepared q) q)
  reason_seen (RefusesCommit s q d) = seen_so {X = ℕ} (CommitWork s q (Err (refused.Reason k))) d (request b d.at after u k s (alone_entry q) q)
  reason_seen (RefusesAsk t d) = seen_so {X = answer.Asked} (AskWork t (Err (refused.Reason k))) d (λ h. absurd h.0)

-- ---- what is drawn

module _ (old new : View) (r s floor : ℕ) (t : Ts) where
  abbrev Draws : Result Ts Refusal → Type 0
  Draws result = Does {X = Ts} old new r result (DrawWork s floor result)

  drawn_by : (met : Unsettled) (at behind : List Item) (w : Unsettled) → Answered {X = Ts} r (Ok t) met at behind w (DrawWork s floor (Ok t) (old.opened.base r) at behind w) → floor < t.time
  drawn_by Calm at behind w h = h.2
  drawn_by (MayCome e) at behind w h = absurd h.0
  drawn_by Halted at behind w h = absurd h.0

  drawn : (result : Result Ts Refusal) → result ≡ Ok t → Draws result → floor < t.time
  drawn result is d = let y : Draws (Ok t) = subst Draws is d in drawn_by y.met y.at (new.seen r) (new.unsettled r) y.answer

pub drawn_above : (old new : View) (at : At) (least : ℕ) (links : List Link) (answer : Result Drew NoMemory) (d : DrawsAbove true old new at least links answer) (t : Ts) → d.result ≡ Ok t → least < t.time
drawn_above old new at least links answer d t is = let above : d.floor < t.time = drawn old new at.repo at.session d.floor t d.result is (d.call refl) in let low : least ≤ d.floor = d.above in omega (arith, above, low)

told_result : (t : Ts) (result : Result Ts Refusal) → IsDrawnSo (drew.Ts t) result → result ≡ Ok t
told_result t (Ok u) h = ap Ok h
told_result t (Err r) h = absurd h

drawn_told : (t : Ts) (answer : Result Drew NoMemory) (result : Result Ts Refusal) → answer ≡ Ok (drew.Ts t) → IfOk answer (λ d. IsDrawnSo d result) → result ≡ Ok t
drawn_told t answer result is told = told_result t result (subst (λ (a : Result Drew NoMemory). IfOk a (λ d. IsDrawnSo d result)) is told)

pub told_above : (old new : View) (at : At) (least : ℕ) (links : List Link) (answer : Result Drew NoMemory) (d : DrawsAbove true old new at least links answer) (t : Ts) → answer ≡ Ok (drew.Ts t) → least < t.time
told_above old new at least links answer d t is = drawn_above old new at least links answer d t (drawn_told t answer d.result is d.told)

pub unsettled_above : (old new : View) (at : At) (least : ℕ) (links : List Link) (answer : Result Drew NoMemory) (d : DrawsAbove true old new at least links answer) (t : Ts) → answer ≡ Ok (drew.Ts t) → (r : ℕ) (l : Link) → slice_get links r ≡ Some l → unsettled_time l < t.time
unsettled_above old new at least links answer d t is r l there = let above : d.floor < t.time = drawn old new at.repo at.session d.floor t d.result (drawn_told t answer d.result is d.told) (d.call refl) in let low : unsettled_time l ≤ d.floor = d.counts r l there in omega (arith, above, low)

-- ---- what a message names

named_by : (b : Base) (at : List Item) (s : ℕ) (names : List Oref) (k : ℕ) (x : Oref) → list_any (same_oref x) names ≡ true → (o : Option Session) → session b at s ≡ o → IsSomeAnd o (λ v. slice_get v.sent v.taken ≡ Some (Invalid names k)) → OthersWrote b at s x k
named_by b at s names k x named None is h = absurd h
named_by b at s names k x named (Some v) is h = all_named b s at v is v.taken names k h x named

module _ (old new : View) (r s : ℕ) (names : List Oref) (k : ℕ) (x : Oref) (named : list_any (same_oref x) names ≡ true) where
  took_by : (met : Unsettled) (at : List Item) (w : Unsettled) → Answered {X = Option Message} r (Ok (Some (message.Invalid names k))) met at (new.seen r) w (ReceiveWork s (Ok (Some (message.Invalid names k))) (old.opened.base r) at (new.seen r) w) → IsWriteSeen old new r x k
  took_by Calm at w h = record { session_is = s; at = at; taken = h.2.0; wrote = named_by (old.opened.base r) at s names k x named (session (old.opened.base r) at s) refl h.0 }
  took_by (MayCome e) at w h = absurd h.0
  took_by Halted at w h = absurd h.0

pub write_seen : (old new : View) (r : ℕ) (names : List Oref) (k : ℕ) → IsTaken old new r (message.Invalid names k) → (x : Oref) → list_any (same_oref x) names ≡ true → IsWriteSeen old new r x k
write_seen old new r names k (Takes s d) x named = took_by old new r s names k x named d.met d.at (new.unsettled r) d.answer
