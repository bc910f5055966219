-- A plain repository's steps by what was read of its trace are its own.
use Rattle.log_entries.specs.declared.entry.Entry.{Entry}
use Rattle.log_entries.specs.declared.request.Request.{Request}
use Rattle.spec_history.specs.History.{Base, Known, is_open}
use Rattle.session_outbox.specs.declared.message.Message.{Message}
use Rattle.model_repository.specs.Reading.{IsStep, added}
use Rattle.model_repository.specs.ByReading.{ask_by, decide_by, draw_by, fetch_by, finish_by, gone, grant_by, prepared_of, receive_by, requested_by, welcome_by}
use Rattle.client_port.specs.Works.{is_prepared_by}
use Rattle.law_client_views.specs.Plain as plain
use Rattle.session_outbox.specs.Messages as messages
use Rattle.spec_trace.specs.Calls.{drawn_time, last_session}
use Rattle.spec_trace.specs.Session.{Grant, Invalid, Notice, Page, Session, Upgrade, place_of, session}
use Rattle.spec_trace.specs.Trace.{Item, M, entries}
use Rattle.spec_trace.specs.Verdict.{verdict}
use Rattle.spec_trace.specs.declared.mark.Mark.TheVariants as the
use Rattle.std.proofs.Common.{ap, append-nil, arith, refl, subst, sym, ◌≡◌, ◌∙◌}
use Rattle.spec_trace.specs.Notices.{lives}
use Rattle.std.proofs.Math.Nat.{zero-max}
use Rattle.std.proofs.lemmas.Bool.Decides.{nat_tests}
use Rattle.std.specs.Option.{option_and_then}
use Rattle.std.specs.Prelude.{Bool, Err, List, None, Ok, Option, Result, Some, [], cond, false, length, max, nat_eq, nat_lt, true, ℕ, ◌&&◌, ◌+◌, ◌++◌, ◌<◌, ◌^◌, ◌∷◌}
use Rattle.thor_value.specs.declared.names.Ts.{Ts}
use Rattle.model_reading.proofs.Parts.{judges}
use Rattle.model_reading.specs.Against.{against, first_sent}
use Rattle.model_reading.specs.Items.{trace_of}
use Rattle.model_reading.specs.Reading.{Reading, Tells}
use Rattle.model_reading.specs.Settling.{open_of}
use Rattle.model_reading.specs.declared.item.Item as item
use Rattle.repo_refusals.specs.declared.refusal.Refusal.{Refusal}

module _ (b : Base) (s : ℕ) (T : List Item) (R : Reading) (h : Tells b s T R) where
  pub fetches : (page upto : ℕ) → plain.fetch b T s page upto ≡ fetch_by R T s page upto
  fetches page upto = rw h.session_is refl

  pub grants : plain.grant b T s ≡ grant_by R T s
  grants = rw (h.session_is, h.page_is) refl

  pub connects : (c n : ℕ) → n ≡ R.last_session + 1 → n < 2 ^ 32 → plain.connect b T c ≡ (Ok (welcome_by R n), T ++ M (the.Connected n c) ∷ [])
  connects c n e lt =
      let f : n ≡ last_session T + 1 = e ∙ ap (λ (k : ℕ). k + 1) h.last_is in
      let t : nat_lt n (2 ^ 32) ≡ true = grind (arith, nat_tests) in
      rw (← f, t, h.count_is, h.state_is, h.window_is) refl

  pub draws : (floor : ℕ) → plain.draw b T s 0 floor ≡ draw_by b R T s floor
  draws floor = rw (h.session_is, h.drawn_is, h.state_is) refl

  received_is : (spell : Notice → Message) (o : Option Session) → plain.received_by spell T s o ≡ cond (lives o) (plain.received spell T s (option_and_then first_sent o)) (Err (gone s), T)
  received_is spell None = refl
  received_is spell (Some v) = refl

  pub receives : (spell : Notice → Message) → plain.receive spell b T s ≡ receive_by spell R T s
  receives spell = rw h.session_is (received_is spell (session b T s))

  pub requests : (q : Request) (e : Entry) → plain.requested T s q e (verdict b T s q) ≡ requested_by R.state.length T s q e (against b R s q)
  requests q e = rw (judges b s T R q h, h.count_is) (answers (against b R s q))
    where
      answers : (r : Option Refusal) → plain.requested T s q e r ≡ requested_by (length (entries T)) T s q e r
      answers None = refl
      answers (Some r) = refl

  pub requests_as : (q : Request) (e : Entry) (n : ℕ) (r : Option Refusal) → n ≡ R.state.length → r ≡ against b R s q → plain.requested T s q e (verdict b T s q) ≡ requested_by n T s q e r
  requests_as q e n r i j = rw (i, j) (requests q e)

  pub decides : (t : Ts) (c : Bool) → plain.decide b T s t c ≡ decide_by b R T s t c
  decides t c = rw (h.session_is, h.state_is) refl

  pub finishes : (t : Ts) (c : Bool) → plain.finish b T t c ≡ finish_by b R T t c
  finishes t c = rw (h.count_is, h.state_is) refl

  pub asks : (t : Ts) → plain.ask b T t ≡ ask_by b R T t
  asks t = rw h.state_is refl

prepared_so : (p : ℕ) (q : Request) (s : ℕ) (k : Bool) → (nat_eq q.session s && k) ≡ prepared_of s (cond k (Some (p, q)) None)
prepared_so p q s true = and_true (nat_eq q.session s)
  where
    and_true : (x : Bool) → (x && true) ≡ x
    and_true true = refl
    and_true false = refl
prepared_so p q s false = and_false (nat_eq q.session s)
  where
    and_false : (x : Bool) → (x && false) ≡ false
    and_false true = refl
    and_false false = refl

pub prepared_is : (s : ℕ) (o : Option Known) → is_prepared_by s o ≡ prepared_of s (open_of o)
prepared_is s None = refl
prepared_is s (Some o) = prepared_so o.place o.request s (is_open o.fate)

-- ---- steps of the code

pub with_added : {X : Type 0} (is : List item.Item) (step : Result X Refusal × Option item.Item) (a : Result X Refusal) (es : List Item) → step.0 ≡ a → added step.1 ≡ es → IsStep is step (a, trace_of is ++ es)
with_added is step a es e f = record { answer = e; trace = ap (λ (x : List Item). trace_of is ++ x) f }

pub with_none : {X : Type 0} (is : List item.Item) (step : Result X Refusal × Option item.Item) (a : Result X Refusal) → step.0 ≡ a → added step.1 ≡ [] → IsStep is step (a, trace_of is)
with_none is step a e f = record { answer = e; trace = ap (λ (x : List Item). trace_of is ++ x) f ∙ append-nil (trace_of is) }

pub chosen : {X : Type 0} (is : List item.Item) (step : Result X Refusal × Option item.Item) (k : Bool) (p q : plain.Stepped X) → true ≡ k → IsStep is step p → IsStep is step (cond k p q)
chosen is step k p q e h = rw (← e) h

pub not_chosen : {X : Type 0} (is : List item.Item) (step : Result X Refusal × Option item.Item) (k : Bool) (p q : plain.Stepped X) → false ≡ k → IsStep is step q → IsStep is step (cond k p q)
not_chosen is step k p q e h = rw (← e) h

pub is_step : {X : Type 0} (is : List item.Item) (step : Result X Refusal × Option item.Item) (p q : plain.Stepped X) → p ≡ q → IsStep is step q → IsStep is step p
is_step {X} is step p q e h = subst (λ (x : plain.Stepped X). IsStep is step x) (sym e) h

pub no_clock : (l f : ℕ) → drawn_time 0 l f ≡ max (l + 1) (f + 1)
no_clock l f = zero-max (max (l + 1) (f + 1))

place_told : (p : ℕ → ℕ → List ℕ) (t : ℕ → List ℕ) (n : Notice) → messages.place_of (plain.message_of p t n) ≡ place_of n
place_told p t (Page page k) = refl
place_told p t (Grant page k) = refl
place_told p t (Invalid names k) = refl
place_told p t (Upgrade number k) = refl

-- the message of a notice is taken
pub takes : (is : List item.Item) (step : Result (Option Message) Refusal × Option item.Item) (p : ℕ → ℕ → List ℕ) (t : ℕ → List ℕ) (s : ℕ) (n : Notice) (m : Message)
    → m ≡ plain.message_of p t n → step.0 ≡ Ok (Some m) → added step.1 ≡ M (the.Took s (messages.place_of m)) ∷ []
    → IsStep is step (plain.received (plain.message_of p t) (trace_of is) s (Some n))
takes is step p t s n m e a f = with_added is step _ _ (a ∙ ap (λ (x : Message). Ok (Some x)) e) (f ∙ ap (λ (k : ℕ). M (the.Took s k) ∷ []) (ap messages.place_of e ∙ place_told p t n))
