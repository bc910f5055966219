-- Requests, decisions and verdicts do their work.
use Rattle.base_reasons.specs.declared.reason.Reason.TheVariants as reasons
use Rattle.base_reasons.specs.declared.reason.Reason.{Reason}
use Rattle.client_port.specs.Views.{Calm, Unsettled}
use Rattle.client_port.specs.Works.{AnswersOf, AskWork, CommitWork, DecideWork, Decides, FinishWork, ForgetWork, MayHaveLeft, OutageWith, PrepareWork, RequestRefused, alone_entry, commits_by, is_prepared_by}
use Rattle.law_atomic_commit.proofs.Asked.{table-answers}
use Rattle.law_atomic_commit.specs.Asking.{answer_by}
use Rattle.law_repo_calls.proofs.Phases.{agreement}
use Rattle.law_repo_calls.specs.Seen.{StandsRight, phase, seen}
use Rattle.law_repo_memory.specs.Agreeing.{trace_of}
use Rattle.law_repo_memory.specs.Running.{IsInAgreement}
use Rattle.law_repo_memory.specs.Tables.{undecided_request}
use Rattle.law_repo_sessions.proofs.Answering.{unended_answer}
use Rattle.log_entries.specs.declared.entry.Entry.TheVariants.{Decided, Finished, One, Prepared, Upgraded}
use Rattle.log_entries.specs.declared.entry.Entry.{Entry}
use Rattle.log_entries.specs.declared.request.Kind.TheVariants.{App, Transform, Upgrade}
use Rattle.log_entries.specs.declared.request.Kind.{Kind}
use Rattle.log_entries.specs.declared.request.Request.{Request}
use Rattle.repo_core.specs.Behind as core
use Rattle.repo_core.specs.Behind.{IsAsked, IsVerdict, Stands, has_prepared, is_committed, is_of_session, with_refusal}
use Rattle.repo_core.specs.Calls.{judged}
use Rattle.repo_core.specs.Refusing.{CanRefuse, GoesDown, HasNoReason, IsEnded, Leaves, made_of}
use Rattle.repo_core.specs.Shown.{Shown}
use Rattle.repo_durable.specs.Kept.{is_fault}
use Rattle.repo_refusals.specs.declared.refusal.Refusal.TheVariants as refused
use Rattle.repo_refusals.specs.declared.refusal.Refusal.{Refusal}
use Rattle.repo_sessions.specs.Sessions.{has_session}
use Rattle.repo_site.proofs.Leaving.{behind_refusal, calm, entered_is, fallen, halted, have_halted, have_left, is_down_never, left_with, marked_is, outage, sessions, stays_up}
use Rattle.repo_site.specs.Working.{MayLeave}
use Rattle.repo_trace.specs.Recorded.{with_entry, with_mark}
use Rattle.session_outbox.specs.declared.answers.Asked as answer
use Rattle.session_outbox.specs.declared.answers.Asked.TheVariants as answers
use Rattle.session_outbox.specs.declared.answers.Verdict.{Verdict}
use Rattle.spec_history.specs.History.{Base, Known, is_open, is_undecided, known_by, state}
use Rattle.spec_history.specs.Requests.{is_upgrade_kind}
use Rattle.spec_trace.proofs.Traces.{entries-items}
use Rattle.spec_trace.specs.Calls.{Asked, Settled, Undecided, asked}
use Rattle.spec_trace.specs.Exact.{IsEndedIn}
use Rattle.spec_trace.specs.Notices.{is_unended}
use Rattle.spec_trace.specs.Session.{Session, session, session_ended}
use Rattle.spec_trace.specs.Trace.{E, Item, entries}
use Rattle.spec_trace.specs.Verdict.{verdict}
use Rattle.spec_trace.specs.declared.mark.Mark.TheVariants as the
use Rattle.std.proofs.Common.{Bool, Err, List, Ok, OnErr, OnOk, Option, Result, [], ap, cond, false, length, refl, subst, sym, true, ℕ, ◌++◌, ◌<◌, ◌∙◌, ◌≡◌, ◌∷◌}
use Rattle.std.specs.Prelude.{IfErr, IfOk, IsErrOf, None, Some, is_some, nat_eq, not, ◌&&◌, ◌||◌, ◌⊎◌}
use Rattle.thor_value.specs.declared.names.Ts.{Ts}
use Rattle.two_phase.specs.Contents.{open_at, standing}
use Rattle.two_phase.specs.Contents as tables
use Rattle.two_phase.specs.declared.standing.Standing.TheVariants as stands
use Rattle.two_phase.specs.declared.standing.Standing.{Standing}

-- the entry of a request that commits at one repository, as a port names it
pub same_entry : (q : Request) → core.alone_entry q.kind q ≡ alone_entry q
same_entry q = by q.kind
  where
    by : (kind : Kind) → core.alone_entry kind q ≡ cond (is_upgrade_kind kind) (Upgraded q) (One q)
    by App = refl
    by Transform = refl
    by (Upgrade text) = refl

-- ---- how a transaction stands

and_true : (t : Bool) → (t && true) ≡ t
and_true true = refl
and_true false = refl

and_false : (t : Bool) → (t && false) ≡ false
and_false true = refl
and_false false = refl

prepared_same : (s : ℕ) (o : Option Known) → is_of_session s (undecided_request o) ≡ is_prepared_by s o
prepared_same s None = refl
prepared_same s (Some o) = by (is_open o.fate)
  where
    by : (t : Bool) → is_of_session s (cond t (Some o.request) None) ≡ (nat_eq o.request.session s && t)
    by true = sym (and_true (nat_eq o.request.session s))
    by false = sym (and_false (nat_eq o.request.session s))

open_same : (o : Option Known) → is_some (undecided_request o) ≡ is_undecided o
open_same None = refl
open_same (Some o) = by (is_open o.fate)
  where
    by : (t : Bool) → is_some (cond t (Some o.request) None) ≡ t
    by true = refl
    by false = refl

ended_in : (o : Option Session) → is_unended o ≡ false → IsEndedIn o
ended_in None h = tt
ended_in (Some v) h = by (session_ended v) h
  where
    by : (t : Bool) → not t ≡ false → t ≡ true
    by true e = refl
    by false e = cc

-- what is told of a transaction that isn't undecided
told_as : (z : Standing) (x y : Bool) → answer_by z ≡ cond x Undecided (Settled y) → x ≡ false → is_committed z ≡ y
told_as stands.Open true y e f = cc
told_as stands.Open false y e f = cc
told_as stands.Committed true y e f = cc
told_as stands.Committed false true e f = refl
told_as stands.Committed false false e f = cc
told_as stands.Aborted true y e f = cc
told_as stands.Aborted false true e f = cc
told_as stands.Aborted false false e f = refl

settled_as : (z : Standing) (told : Asked) (c : Bool) → answer_by z ≡ told → c ≡ is_committed z → (z ≡ stands.Open → ⊥) → told ≡ Settled c
settled_as stands.Open told c e is never = absurd (never refl)
settled_as stands.Committed told c e is never = sym e ∙ ap Settled (sym is)
settled_as stands.Aborted told c e is never = sym e ∙ ap Settled (sym is)

and_one : (x y : Bool) → (x && y) ≡ false → y ≡ true → x ≡ false
and_one true true h e = cc
and_one true false h e = cc
and_one false y h e = refl

abbrev err_of : (X : Type 0) → Refusal → Result X Refusal
err_of X e = Err e

-- what is so of an answer that is damaged
damaged_by : (X : Type 0) (r : Refusal) (G : Type 0) → ((n place : ℕ) → IsErrOf {T = X} (Err r) (refused.Damaged n place) → G) → (n place : ℕ) → r ≡ refused.Damaged n place → G
damaged_by X r G f n place is = f n place (ap (err_of X) is)

-- one that is up isn't refused since it is down
pub only_down : {X : Type 0} (x : Shown) (W : Refusal → Type 0) (D : Type 0) (result : Result X Refusal) → IfErr result (CanRefuse x W D) → x.is_up ≡ true → IfErr result (λ r. (n : ℕ) → r ≡ refused.Down n → ⊥)
only_down x W D (Ok t) why up = tt
only_down x W D (Err r) why up = λ n e. clash up (why.down n e).0
  where
    clash : {p : Bool} → p ≡ true → p ≡ false → ⊥
    clash t f = cc

module _ (b : Base) (x y : Shown) (u : Unsettled) (k : StandsRight b x) (after : StandsRight b y) (up : x.is_up ≡ true) (m : MayLeave (phase y) u) where
  abbrev T : List Item
  T = trace_of x.trace

  abbrev S : List Item
  S = trace_of y.trace

  a : IsInAgreement b (seen x)
  a = agreement b x k up

  history : entries T ≡ x.trace.history
  history = entries-items x.trace.history x.trace.marks a.held.owed.trace

  table_has : (t : Ts) → open_at x.held.table t ≡ undecided_request (known_by b (entries T) t)
  table_has t = a.held.table.undecided t ∙ ap (λ (H : List Entry). undecided_request (known_by b H t)) (sym history)

  prepared_is : (s : ℕ) (t : Ts) → has_prepared x.held s t ≡ is_prepared_by s (known_by b (entries T) t)
  prepared_is s t = ap (is_of_session s) (table_has t) ∙ prepared_same s (known_by b (entries T) t)

  pub open_is : (t : Ts) → is_some (open_at x.held.table t) ≡ is_undecided (known_by b (entries T) t)
  open_is t = ap is_some (table_has t) ∙ open_same (known_by b (entries T) t)

  -- ---- requests

  stopped : (e : Entry) (V : Type 0) (o : Option Refusal) → (o ≡ None → V) → GoesDown x y (made_of o e) → y.is_up ≡ false → MayHaveLeft e V u
  stopped e V None v g down = have_left e V u (left_with y u m x e g down) (v refl)
  stopped e V (Some r) v g down = have_halted e V u (halted y u m x g down)

  request_refused : (s : ℕ) (q : Request) (e : Entry) (o : Option Refusal) (r : Refusal) → (o ≡ None → verdict b T s q ≡ None) → y.is_up ≡ cond (is_fault r) false x.is_up → Leaves x y (made_of o e) r → y.trace ≡ with_refusal x.trace s (Some q) r
      → ((n : ℕ) → r ≡ refused.Down n → ⊥) → ((n place : ℕ) → r ≡ refused.Damaged n place → GoesDown x y None) → RequestRefused e b T s q r S u
  request_refused s q e o (refused.Reason reason) v up_so left t never damaged = behind_refusal b x y u k after up m s (Some q) reason up_so t
  request_refused s q e o (refused.Down n) v up_so left t never damaged = absurd (never n refl)
  request_refused s q e o (refused.Stopped n) v up_so left t never damaged = (ap trace_of t, stopped e (verdict b T s q ≡ None) o v (left.fault refl) (fallen b x y u k after up m (refused.Stopped n) up_so refl))
  request_refused s q e o (refused.Damaged n place) v up_so left t never damaged = (ap trace_of t, halted y u m x (damaged n place refl) (fallen b x y u k after up m (refused.Damaged n place) up_so refl))
  request_refused s q e o refused.NoMemory v up_so left t never damaged = (ap trace_of t, stopped e (verdict b T s q ≡ None) o v (left.fault refl) (fallen b x y u k after up m refused.NoMemory up_so refl))

  -- what a call that writes an entry has come to
  pub entry_comes : (e : Entry) → y.is_up ≡ true → y.trace ≡ with_entry x.trace e → (S ≡ T ++ E e ∷ []) × (u ≡ Calm)
  entry_comes e stands t = (entered_is b x y e k t, calm y u m stands)

  pub prepare_works : (s : ℕ) (q : Request) (result : Result ℕ Refusal) → (judged x.held x.memory s q ≡ None → verdict b T s q ≡ None) → Stands x.is_up result y.is_up → OnOk result (judged x.held x.memory s q ≡ None) → IfOk result (λ place. place ≡ length x.trace.history) → OnOk result (y.trace ≡ with_entry x.trace (Prepared q))
      → IfErr result (λ r. y.trace ≡ with_refusal x.trace s (Some q) r) → IfErr result (Leaves x y (made_of (judged x.held x.memory s q) (Prepared q))) → IfErr result (λ r. (n : ℕ) → r ≡ refused.Down n → ⊥) → ((n place : ℕ) → IsErrOf result (refused.Damaged n place) → GoesDown x y None) → PrepareWork s q result b T S u
  prepare_works s q (Ok place) valid stands none at trace refused left never damaged = (valid none, at ∙ ap length (sym history), entry_comes (Prepared q) stands.1 trace)
  prepare_works s q (Err r) valid stands none at trace refused left never damaged = request_refused s q (Prepared q) (judged x.held x.memory s q) r valid stands left refused never (damaged_by ℕ r (GoesDown x y None) damaged)

  pub commit_works : (s : ℕ) (q : Request) (result : Result ℕ Refusal) → (judged x.held x.memory s q ≡ None → verdict b T s q ≡ None) → Stands x.is_up result y.is_up → OnOk result (judged x.held x.memory s q ≡ None) → IfOk result (λ place. place ≡ length x.trace.history) → OnOk result (y.trace ≡ with_entry x.trace (core.alone_entry q.kind q))
      → IfErr result (λ r. y.trace ≡ with_refusal x.trace s (Some q) r) → IfErr result (Leaves x y (made_of (judged x.held x.memory s q) (core.alone_entry q.kind q))) → IfErr result (λ r. (n : ℕ) → r ≡ refused.Down n → ⊥) → ((n place : ℕ) → IsErrOf result (refused.Damaged n place) → GoesDown x y None) → CommitWork s q result b T S u
  commit_works s q (Ok place) valid stands none at trace refused left never damaged =
      (valid none, at ∙ ap length (sym history), entry_comes (alone_entry q) stands.1 (trace ∙ ap (with_entry x.trace) (same_entry q)))
  commit_works s q (Err r) valid stands none at trace refused left never damaged =
      request_refused s q (alone_entry q) (judged x.held x.memory s q) r valid stands (subst (λ (e : Entry). Leaves x y (made_of (judged x.held x.memory s q) e) r) (same_entry q) left) refused never (damaged_by ℕ r (GoesDown x y None) damaged)

  -- ---- decisions and verdicts

  -- where nothing stood in the way the entry may be written
  stopped_at : (e : Entry) (V : Type 0) (t : Bool) → (t ≡ true → V) → GoesDown x y (cond t (Some e) None) → y.is_up ≡ false → MayHaveLeft e V u
  stopped_at e V true v g down = have_left e V u (left_with y u m x e g down) (v refl)
  stopped_at e V false v g down = have_halted e V u (halted y u m x g down)

  outage_with : (e : Entry) (V : Type 0) (t : Bool) (r : Refusal) → (t ≡ true → V) → y.is_up ≡ cond (is_fault r) false x.is_up → Leaves x y (cond t (Some e) None) r → y.trace ≡ x.trace → ((n : ℕ) → r ≡ refused.Down n → ⊥) → ((q : Reason) → r ≡ refused.Reason q → ⊥) → ((n place : ℕ) → r ≡ refused.Damaged n place → GoesDown x y None)
      → OutageWith e V T r S u
  outage_with e V t (refused.Reason q) v up_so left same never none damaged = absurd (none q refl)
  outage_with e V t (refused.Down n) v up_so left same never none damaged = absurd (never n refl)
  outage_with e V t (refused.Stopped n) v up_so left same never none damaged = (ap trace_of same, stopped_at e V t v (left.fault refl) (fallen b x y u k after up m (refused.Stopped n) up_so refl))
  outage_with e V t (refused.Damaged n place) v up_so left same never none damaged = (ap trace_of same, halted y u m x (damaged n place refl) (fallen b x y u k after up m (refused.Damaged n place) up_so refl))
  outage_with e V t refused.NoMemory v up_so left same never none damaged = (ap trace_of same, stopped_at e V t v (left.fault refl) (fallen b x y u k after up m refused.NoMemory up_so refl))

  never_down : (W : Refusal → Type 0) (D : Type 0) (r : Refusal) → CanRefuse x W D r → (n : ℕ) → r ≡ refused.Down n → ⊥
  never_down W D r why n e = is_down_never b x y u k after up m W D n (subst (CanRefuse x W D) e why)

  answered : (t : Ts) → t.repo ≡ b.repo → b.life < t.life → answer_by (standing x.held.table t) ≡ asked b T t
  answered t own later = table-answers b T x.held.table t own (open_is t) (a.held.kept t later) (a.held.table.alone ∙ ap (λ (H : List Entry). (state b H).alone) (sym history))

  -- how a transaction stands that isn't undecided
  stands_as : (t : Ts) → t.repo ≡ b.repo → is_undecided (known_by b (entries T) t) ≡ false → b.life < t.life → is_committed (standing x.held.table t) ≡ commits_by b T t
  stands_as t own settled later = told_as (standing x.held.table t) (is_undecided (known_by b (entries T) t) && nat_eq t.repo b.repo) (commits_by b T t) (answered t own later) (ap (λ (p : Bool). p && nat_eq t.repo b.repo) settled)

  -- what the session hasn't prepared isn't undecided
  settled_by : (s : ℕ) (t : Ts) → (has_prepared x.held s t || not (is_some (open_at x.held.table t))) ≡ true → has_prepared x.held s t ≡ false → is_undecided (known_by b (entries T) t) ≡ false
  settled_by s t test none = sym (open_is t) ∙ by (has_prepared x.held s t) (is_some (open_at x.held.table t)) test none
    where
      by : (p o : Bool) → (p || not o) ≡ true → p ≡ false → o ≡ false
      by true o e f = cc
      by false true e f = cc
      by false false e f = refl

  decided_so : (s : ℕ) (t : Ts) (c : Bool) (v : Verdict) → t.repo ≡ b.repo → (has_prepared x.held s t || not (is_some (open_at x.held.table t))) ≡ true → y.is_up ≡ true → y.trace ≡ cond (has_prepared x.held s t) (with_entry x.trace (Decided t c)) x.trace
      → IsVerdict v t (cond (has_prepared x.held s t) c (is_committed (standing x.held.table t))) → (p : Bool) → has_prepared x.held s t ≡ p → Decides p t c v b T S u
  decided_so s t c v own test stands trace is true e =
      (is.commit ∙ ap (λ (p : Bool). cond p c (is_committed (standing x.held.table t))) e, entry_comes (Decided t c) stands (trace ∙ ap (λ (p : Bool). cond p (with_entry x.trace (Decided t c)) x.trace) e))
  decided_so s t c v own test stands trace is false e =
      (λ later. is.commit ∙ (ap (λ (p : Bool). cond p c (is_committed (standing x.held.table t))) e ∙ stands_as t own (settled_by s t test e) later), (ap trace_of (trace ∙ ap (λ (p : Bool). cond p (with_entry x.trace (Decided t c)) x.trace) e), calm y u m stands))

  pub decide_works : (s : ℕ) (t : Ts) (c : Bool) (D : Type 0) (result : Result Verdict Refusal) → t.repo ≡ b.repo → (has_prepared x.held s t || not (is_some (open_at x.held.table t))) ≡ true → Stands x.is_up result y.is_up → OnOk result (has_session x.memory.sessions s ≡ true)
      → OnOk result (y.trace ≡ cond (has_prepared x.held s t) (with_entry x.trace (Decided t c)) x.trace) → IfOk result (λ v. IsVerdict v t (cond (has_prepared x.held s t) c (is_committed (standing x.held.table t)))) → OnErr result (y.trace ≡ x.trace)
      → IfErr result (Leaves x y (cond (has_session x.memory.sessions s) (cond (has_prepared x.held s t) (Some (Decided t c)) None) None)) → IfErr result (CanRefuse x (IsEnded x.memory s) D) → ((n place : ℕ) → IsErrOf result (refused.Damaged n place) → GoesDown x y None) → DecideWork s t c result b T S u
  decide_works s t c D (Ok v) own test stands live trace is same left why damaged =
      (sym (unended_answer b T x.memory.sessions s (sessions b x y u k after up m)) ∙ live, is.tx, subst (λ (p : Bool). Decides p t c v b T S u) (prepared_is s t) (decided_so s t c v own test stands.1 trace is (has_prepared x.held s t) refl))
  decide_works s t c D (Err r) own test stands live trace is same left why damaged = by r stands left why (damaged_by Verdict r (GoesDown x y None) damaged)
    where
      entry_of : (l : Bool) → cond l (cond (has_prepared x.held s t) (Some (Decided t c)) None) None ≡ cond (l && has_prepared x.held s t) (Some (Decided t c)) None
      entry_of true = refl
      entry_of false = refl

      last_of : (l p : Bool) → (l && p) ≡ true → p ≡ true
      last_of true p e = e
      last_of false p e = cc

      no_reason : (r : Refusal) → is_fault r ≡ true → (q : Reason) → r ≡ refused.Reason q → ⊥
      no_reason r f q e = never_fault (sym f ∙ ap is_fault e)
        where
          never_fault : true ≡ false → ⊥
          never_fault n = cc

      fault : (r : Refusal) → is_fault r ≡ true → y.is_up ≡ cond (is_fault r) false x.is_up → Leaves x y (cond (has_session x.memory.sessions s) (cond (has_prepared x.held s t) (Some (Decided t c)) None) None) r → CanRefuse x (IsEnded x.memory s) D r
          → ((n place : ℕ) → r ≡ refused.Damaged n place → GoesDown x y None) → OutageWith (Decided t c) (is_prepared_by s (known_by b (entries T) t) ≡ true) T r S u
      fault r f up_so left why damaged =
          outage_with (Decided t c) (is_prepared_by s (known_by b (entries T) t) ≡ true) (has_session x.memory.sessions s && has_prepared x.held s t) r
          (λ e. sym (prepared_is s t) ∙ last_of (has_session x.memory.sessions s) (has_prepared x.held s t) e) up_so
          (subst (λ (o : Option Entry). Leaves x y o r) (entry_of (has_session x.memory.sessions s)) left) same (never_down (IsEnded x.memory s) D r why) (no_reason r f) damaged

      by : (r : Refusal) → y.is_up ≡ cond (is_fault r) false x.is_up → Leaves x y (cond (has_session x.memory.sessions s) (cond (has_prepared x.held s t) (Some (Decided t c)) None) None) r → CanRefuse x (IsEnded x.memory s) D r
          → ((n place : ℕ) → r ≡ refused.Damaged n place → GoesDown x y None) → DecideWork s t c (Err r) b T S u
      by (refused.Reason q) up_so left why damaged =
          let g : IsEnded x.memory s (refused.Reason q) = (why.reason q refl).1 in
          (reason_is q g.0, ended_in (session b T s) (sym (unended_answer b T x.memory.sessions s (sessions b x y u k after up m)) ∙ g.1), (ap trace_of same, calm y u m (stays_up b x y u k after up m (refused.Reason q) up_so refl)))
        where
          reason_is : (q : Reason) → refused.Reason q ≡ refused.Reason (reasons.Gone s) → q ≡ reasons.Gone s
          reason_is q e = cc
      by (refused.Down n) up_so left why damaged = absurd (never_down (IsEnded x.memory s) D (refused.Down n) why n refl)
      by (refused.Stopped n) up_so left why damaged = fault (refused.Stopped n) refl up_so left why damaged
      by (refused.Damaged n place) up_so left why damaged = fault (refused.Damaged n place) refl up_so left why damaged
      by refused.NoMemory up_so left why damaged = fault refused.NoMemory refl up_so left why damaged

  pub finish_works : (t : Ts) (c : Bool) (D : Type 0) (result : Result (Option ℕ) Refusal) → Stands x.is_up result y.is_up → IfOk result (λ place. place ≡ cond (is_some (open_at x.held.table t)) (Some (length x.trace.history)) None)
      → OnOk result (y.trace ≡ cond (is_some (open_at x.held.table t)) (with_entry x.trace (Finished t c)) x.trace) → OnErr result (y.trace ≡ x.trace) → IfErr result (Leaves x y (cond (is_some (open_at x.held.table t)) (Some (Finished t c)) None)) → IfErr result (CanRefuse x HasNoReason D)
      → ((n place : ℕ) → IsErrOf result (refused.Damaged n place) → GoesDown x y None) → FinishWork t c result b T S u
  finish_works t c D (Ok o) stands place trace same left why damaged = by o (is_some (open_at x.held.table t)) refl place
    where
      some_is : (n l : ℕ) → Some n ≡ Some l → n ≡ l
      some_is n l e = cc

      by : (o : Option ℕ) (p : Bool) → is_some (open_at x.held.table t) ≡ p → o ≡ cond (is_some (open_at x.held.table t)) (Some (length x.trace.history)) None → FinishWork t c (Ok o) b T S u
      by (Some n) true e at = (sym (open_is t) ∙ e, some_is n (length x.trace.history) (at ∙ ap (λ (p : Bool). cond p (Some (length x.trace.history)) None) e) ∙ ap length (sym history), entry_comes (Finished t c) stands.1 (trace ∙ ap (λ (p : Bool). cond p (with_entry x.trace (Finished t c)) x.trace) e))
      by None false e at = (sym (open_is t) ∙ e, (ap trace_of (trace ∙ ap (λ (p : Bool). cond p (with_entry x.trace (Finished t c)) x.trace) e), calm y u m stands.1))
      by None true e at = absurd (no_place (at ∙ ap (λ (p : Bool). cond p (Some (length x.trace.history)) None) e))
        where
          no_place : {A : Type 0} {l : A} → None ≡ Some l → ⊥
          no_place n = cc
      by (Some n) false e at = absurd (a_place (at ∙ ap (λ (p : Bool). cond p (Some (length x.trace.history)) None) e))
        where
          a_place : {A : Type 0} {l : A} → Some l ≡ None → ⊥
          a_place n = cc
  finish_works t c D (Err r) stands place trace same left why damaged =
      outage_with (Finished t c) (is_undecided (known_by b (entries T) t) ≡ true) (is_some (open_at x.held.table t)) r (λ e. sym (open_is t) ∙ e) stands left same (never_down HasNoReason D r why) (λ q e. (why.reason q e).1) (damaged_by (Option ℕ) r (GoesDown x y None) damaged)

  pub forget_works : (t : Ts) (result : Result (Unit {0}) Refusal) → Stands x.is_up result y.is_up → OnOk result (y.trace ≡ with_mark x.trace (the.Forgot t)) → OnErr result (y.trace ≡ x.trace) → IfErr result (Leaves x y None) → IfErr result (CanRefuse x HasNoReason ⊥) → ForgetWork t result b T S u
  forget_works t (Ok d) stands trace same left why = (marked_is x y (the.Forgot t) trace, calm y u m stands.1)
  forget_works t (Err r) stands trace same left why = outage b x y u k after up m ⊥ r stands left same why

  -- ---- questions

  asked_so : (t : Ts) (o : answer.Asked) → t.repo ≡ b.repo → IsAsked x.held t o → (standing x.held.table t ≡ stands.Open → o ≡ answers.Undecided) → AnswersOf b T t o
  asked_so t answers.Undecided own is undecided = (tt, λ later. sym (answered t own later) ∙ ap answer_by is.0)
  asked_so t (answers.Settled v) own is undecided = (is.tx, λ later. settled_as (standing x.held.table t) (asked b T t) v.commit (answered t own later) is.commit (λ e. never (undecided e)))
    where
      never : answers.Settled v ≡ answers.Undecided → ⊥
      never e = cc

  pub ask_works : (t : Ts) (result : Result answer.Asked Refusal) → t.repo ≡ b.repo → y ≡ x → Stands x.is_up result y.is_up → IfErr result (λ r. (r ≡ refused.Down x.held.repo) × (x.is_up ≡ false)) → IfOk result (IsAsked x.held t) → (standing x.held.table t ≡ stands.Open → IfOk result (λ o. o ≡ answers.Undecided)) → AskWork t result b T S u
  ask_works t (Ok o) own same stands why is undecided = (asked_so t o own is undecided, (ap (λ (z : Shown). trace_of z.trace) same, calm y u m stands.1))
  ask_works t (Err r) own same stands why is undecided = absurd (no_both why.1)
    where
      no_both : x.is_up ≡ false → ⊥
      no_both down = clash up down
        where
          clash : {p : Bool} → p ≡ true → p ≡ false → ⊥
          clash t f = cc
