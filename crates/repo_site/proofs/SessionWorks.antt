-- Calls of sessions do their work.
use Rattle.client_port.specs.Views.{Calm, Unsettled}
use Rattle.client_port.specs.Works.{ConnectWork, DrawWork, FetchWork, GrantWork, ReceiveWork, behind_taken}
use Rattle.law_client_views.proofs.Agreed.{connects, fetches, grants, receives}
use Rattle.law_repo_calls.proofs.Phases.{agreement}
use Rattle.law_repo_calls.specs.Seen.{StandsRight, phase, seen}
use Rattle.law_repo_calls.specs.Vouching.{IsCounted}
use Rattle.law_repo_memory.proofs.Judging.{epoch-fits}
use Rattle.law_repo_memory.specs.Agreeing.{trace_of}
use Rattle.law_repo_memory.specs.Running.{IsInAgreement}
use Rattle.log_entries.specs.declared.entry.Entry.{Entry}
use Rattle.repo_core.specs.Behind.{Stands, epoch_of, with_refusal, with_taken}
use Rattle.repo_core.specs.Refusing.{CanRefuse, HasNoReason, IsGone, Leaves}
use Rattle.repo_core.specs.Shown.{Shown}
use Rattle.repo_refusals.specs.Window.{window}
use Rattle.repo_refusals.specs.declared.refusal.Refusal.{Refusal}
use Rattle.repo_sessions.specs.Sessions.{is_live}
use Rattle.repo_site.proofs.Leaving.{calm, last_is_exact, marked, marked_is, outage, sessions, unmarked}
use Rattle.repo_site.specs.Working.{MayLeave}
use Rattle.repo_trace.specs.Recorded.{with_mark}
use Rattle.session_outbox.specs.Messages.{first}
use Rattle.session_outbox.specs.Outbox.{waiting}
use Rattle.session_outbox.specs.declared.answers.Welcome.{Welcome}
use Rattle.session_outbox.specs.declared.message.Message.{Message}
use Rattle.spec_history.specs.History as histories
use Rattle.spec_history.specs.History.{Base, state}
use Rattle.spec_trace.proofs.Traces.{entries-items}
use Rattle.spec_trace.specs.Calls.{next_page}
use Rattle.spec_trace.specs.Exact.{IsDrawn, most_pages}
use Rattle.spec_trace.specs.Notices.{lives}
use Rattle.spec_trace.specs.Session.{Session, session, session_lives}
use Rattle.spec_trace.specs.Trace.{Item, M, entries}
use Rattle.spec_trace.specs.declared.mark.Mark.TheVariants as the
use Rattle.std.proofs.Common.{Err, List, Ok, OnErr, OnOk, Option, Result, [], ap, arith, length, subst, sym, true, ℕ, ◌+◌, ◌++◌, ◌<◌, ◌^◌, ◌∙◌, ◌≡◌, ◌∷◌}
use Rattle.std.specs.Option.{IsSomeAnd}
use Rattle.std.specs.Prelude.{IfErr, IfOk, None, Some}
use Rattle.thor_value.specs.declared.names.Ts.{Ts}
use Rattle.validation_queue.specs.Contents.{Contents}

live_const : (o : Option Session) (P : Type 0) → IsSomeAnd o (λ v. (session_lives v ≡ true) × P) → (lives o ≡ true) × P
live_const None P h = absurd h
live_const (Some v) P h = h

counted_less : (n : ℕ) → n + 1 < 2 ^ 32 → n < 2 ^ 32
counted_less n l = omega (arith, l)

module _ (b : Base) (x y : Shown) (u : Unsettled) (k : StandsRight b x) (after : StandsRight b y) (up : x.is_up ≡ true) (m : MayLeave (phase y) u) where
  abbrev T : List Item
  T = trace_of x.trace

  abbrev S : List Item
  S = trace_of y.trace

  a : IsInAgreement b (seen x)
  a = agreement b x k up

  history : entries T ≡ x.trace.history
  history = entries-items x.trace.history x.trace.marks a.held.owed.trace

  -- what is done on the trace S', with nothing unsettled, is done on S
  there : (W : List Item → Unsettled → Type 0) (R : List Item) → S ≡ R → y.is_up ≡ true → W R Calm → W S u
  there W R is stands w = subst (W S) (sym (calm y u m stands)) (subst (λ (Q : List Item). W Q Calm) (sym is) w)

  pub connect_works : (client : ℕ) (result : Result Welcome Refusal) → IsCounted x → Stands x.is_up result y.is_up → IfOk result (λ w. y.trace ≡ with_mark x.trace (the.Connected w.session client)) → OnErr result (y.trace ≡ x.trace) → IfErr result (Leaves x y None) → IfErr result (CanRefuse x HasNoReason ⊥)
      → IfOk result (λ w. w.session ≡ x.memory.sessions.last + 1) → IfOk result (λ w. w.epoch ≡ epoch_of x.held) → IfOk result (λ w. w.threshold ≡ x.memory.queue.threshold) → IfOk result (λ w. w.place ≡ length x.trace.history) → IfOk result (λ w. w.upgrades ≡ x.held.upgrades) → ConnectWork client result b T S u
  connect_works client (Ok w) counted stands trace same left why number epoch threshold place upgrades =
      there (λ R v. ConnectWork client (Ok w) b T R v) (T ++ M (the.Connected w.session client) ∷ []) (marked_is x y (the.Connected w.session client) trace) stands.1
      (connects b T x.memory.sessions client w (sessions b x y u k after up m) number
      (epoch ∙ (epoch-fits b x.trace x.held x.memory a (counted_less (length x.held.upgrades) counted) ∙ ap (λ (H : List Entry). histories.epoch_of (state b H)) (sym history)))
      (threshold ∙ (ap (λ (Q : Contents). Q.threshold) a.queue ∙ ap (λ (H : List Entry). (window b H).threshold) (sym history)))
      (place ∙ ap length (sym history))
      (upgrades ∙ (a.held.upgrades ∙ ap (λ (H : List Entry). (state b H).texts) (sym history))))
  connect_works client (Err r) counted stands trace same left why number epoch threshold place upgrades = outage b x y u k after up m ⊥ r stands left same why

  pub fetch_works : (s page upto : ℕ) (D : Type 0) (result : Result (Unit {0}) Refusal) → Stands x.is_up result y.is_up → OnOk result (is_live x.memory.sessions s ≡ true) → OnOk result (y.trace ≡ with_mark x.trace (the.Fetched s page upto)) → OnErr result (y.trace ≡ x.trace)
      → IfErr result (Leaves x y None) → IfErr result (CanRefuse x (IsGone x.memory s) D) → FetchWork s page upto result b T S u
  fetch_works s page upto D (Ok t) stands live trace same left why =
      there (λ R v. FetchWork s page upto (Ok t) b T R v) (T ++ M (the.Fetched s page upto) ∷ []) (marked_is x y (the.Fetched s page upto) trace) stands.1 (fetches b T x.memory.sessions s page upto (sessions b x y u k after up m) live)
  fetch_works s page upto D (Err r) stands live trace same left why = unmarked b x y u k after up m s D r stands left same why

  pub grant_works : (s : ℕ) (W : Refusal → Type 0) (result : Result (Unit {0}) Refusal) → Stands x.is_up result y.is_up → OnOk result (is_live x.memory.sessions s ≡ true) → OnOk result (x.held.next_grant < 65536) → OnOk result (y.trace ≡ with_mark x.trace (the.Granted s x.held.next_grant))
      → IfErr result (λ r. y.trace ≡ with_refusal x.trace s None r) → IfErr result (Leaves x y None) → IfErr result (CanRefuse x W ⊥) → GrantWork s result b T S u
  grant_works s W (Ok t) stands live below trace refused left why =
      there (λ R v. GrantWork s (Ok t) b T R v) (T ++ M (the.Granted s (next_page b T)) ∷ []) (marked_is x y (the.Granted s x.held.next_grant) trace ∙ ap (λ (n : ℕ). T ++ M (the.Granted s n) ∷ []) a.held.next) stands.1
      (grants b T x.memory.sessions s (sessions b x y u k after up m) live (subst (λ (n : ℕ). n < most_pages) a.held.next below))
  grant_works s W (Err r) stands live below trace refused left why = marked b x y u k after up m s W r stands left refused why

  taken_is : (s : ℕ) (o : Option Message) → y.trace ≡ with_taken x.trace s o → S ≡ behind_taken T s o
  taken_is s None t = ap trace_of t
  taken_is s (Some n) t = marked_is x y (the.Took s _) t

  pub receive_works : (s : ℕ) (result : Result (Option Message) Refusal) → Stands x.is_up result y.is_up → OnOk result (is_live x.memory.sessions s ≡ true) → IfOk result (λ o. o ≡ first (waiting x.memory.sessions.waiting s)) → IfOk result (λ o. y.trace ≡ with_taken x.trace s o) → OnErr result (y.trace ≡ x.trace)
      → IfErr result (Leaves x y None) → IfErr result (CanRefuse x (IsGone x.memory s) ⊥) → ReceiveWork s result b T S u
  receive_works s (Ok o) stands live message trace same left why =
      there (λ R v. ReceiveWork s (Ok o) b T R v) (behind_taken T s o) (taken_is s o trace) stands.1 (receives b T x.memory.sessions s o (sessions b x y u k after up m) live (sym message))
  receive_works s (Err r) stands live message trace same left why = unmarked b x y u k after up m s ⊥ r stands left same why

  pub draw_works : (s floor : ℕ) (W : Refusal → Type 0) (result : Result Ts Refusal) → Stands x.is_up result y.is_up → IfOk result (λ t. floor < t.time) → IfOk result (λ t. y.trace ≡ with_mark x.trace (the.Drew s t)) → IfErr result (λ r. y.trace ≡ with_refusal x.trace s None r)
      → IfErr result (Leaves x y None) → IfErr result (CanRefuse x W ⊥) → DrawWork s floor result b T S u
  draw_works s floor W (Ok t) stands above trace refused left why =
      let is : S ≡ T ++ M (the.Drew s t) ∷ [] = marked_is x y (the.Drew s t) trace in
      let drawn : (lives (session b T s) ≡ true) × IsDrawn b T t = live_const (session b T s) (IsDrawn b T t) (last_is_exact b y T (M (the.Drew s t)) after is) in
      (drawn.0, drawn.1, above, (is, calm y u m stands.1))
  draw_works s floor W (Err r) stands above trace refused left why = marked b x y u k after up m s W r stands left refused why
