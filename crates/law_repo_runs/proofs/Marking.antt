-- A mark that is made is exact, and the repository is as its trace says behind it.
use Rattle.log_entries.specs.declared.entry.Entry.{Entry}
use Rattle.log_entries.specs.declared.request.Request.{Request}
use Rattle.repo_sessions.specs.Sessions.{Kept, acknowledged, sent, taken}
use Rattle.spec_history.specs.History.{Base, state}
use Rattle.session_outbox.specs.declared.message.Message.TheVariants.{Grant, Page}
use Rattle.law_repo_memory.proofs.Answering.{session-answers}
use Rattle.law_repo_memory.proofs.Exactness.{buffer-exact, clock-exact, drew-exact, gone-exact, granted-exact, pages-exact, request-exact}
use Rattle.law_repo_memory.proofs.Marks.{trace-marked}
use Rattle.law_repo_memory.proofs.Running.{mark-comes}
use Rattle.law_repo_memory.specs.Agreeing.{trace_of}
use Rattle.law_repo_memory.specs.Judging.{SessionsAnswer}
use Rattle.law_repo_memory.specs.Running.{IsInAgreement, MarkChanges, Repository}
use Rattle.law_repo_runs.proofs.Recording.{behind-mark}
use Rattle.law_repo_runs.specs.Happening.{CallRefused, MarkIsMade, MayMark, RequestRefused}
use Rattle.law_repo_runs.specs.Standing.{IsRecorded, IsRight, Up}
use Rattle.law_repo_sessions.proofs.Answering.{connected_exact, fetched_exact, taken_exact}
use Rattle.law_repo_sessions.proofs.Begun.{begun_agrees}
use Rattle.law_repo_sessions.proofs.Marked.{fetched_agrees, granted_agrees, noted, taken_agrees}
use Rattle.law_repo_sessions.specs.Agreeing.{SessionsAgree}
use Rattle.spec_trace.proofs.Traces.{entries-items}
use Rattle.spec_trace.specs.Exact.{MarkIsExact}
use Rattle.spec_trace.specs.Trace.{Item, M, entries}
use Rattle.spec_trace.specs.declared.mark.Mark.TheVariants as the
use Rattle.spec_trace.specs.declared.mark.Mark.{Mark}
use Rattle.std.proofs.Common.{List, [], inl, inr, length, subst, sym, ℕ, ◌++◌, ◌<◌, ◌∷◌, ◌≡◌}
use Rattle.std.specs.Prelude.{IsTrue, None, Some, ◌≤◌}
use Rattle.thor_value.specs.FiniteMap.{has}
use Rattle.repo_trace.specs.Recorded.{Recorded}
use Rattle.repo_refusals.specs.declared.refusal.Refusal.{Refusal}

module _ (b : Base) (x : Repository) (k : IsRecorded b x.trace) (a : IsInAgreement b x) (ss : SessionsAgree b (trace_of x.trace) x.memory.sessions) where
  abbrev T : List Item
  T = trace_of x.trace

  answers : SessionsAnswer b T x.memory.sessions
  answers = session-answers b T x.memory.sessions ss

  hist : entries T ≡ x.trace.history
  hist = entries-items x.trace.history x.trace.marks k.trace

  begun : 0 < length (entries T)
  begun = subst (λ (H : List Entry). 0 < length H) (sym hist) k.begun

  call-exact : (s : ℕ) (r : Refusal) → CallRefused x s r → MarkIsExact b T (the.Refused s None r)
  call-exact s r (inl gone) = subst (λ (w : Refusal). MarkIsExact b T (the.Refused s None w)) (sym gone.0) (gone-exact b x.trace x.held x.memory s a answers gone.1)
  call-exact s r (inr (inl pages)) = subst (λ (w : Refusal). MarkIsExact b T (the.Refused s None w)) (sym pages.0) (pages-exact b x.trace x.held x.memory s a answers pages.1 pages.2)
  call-exact s r (inr (inr clock)) = subst (λ (w : Refusal). MarkIsExact b T (the.Refused s None w)) (sym clock.0) (clock-exact b x.trace x.held x.memory s clock.2.0 clock.2.1 a answers clock.1 clock.2.2)

  asked-exact : (q : Request) (r : Refusal) → RequestRefused b x q r → MarkIsExact b T (the.Refused q.session (Some q) r)
  asked-exact q r (order, inl why) = request-exact b x.trace x.held x.memory q r a answers order why
  asked-exact q r (order, inr full) = subst (λ (w : Refusal). MarkIsExact b T (the.Refused q.session (Some q) w)) (sym full.1) (buffer-exact b x.trace x.held x.memory q a answers order full.0 full.2)

  mark-exact : (y : Repository) (m : Mark) → MayMark b x m y.memory.sessions → MarkChanges b x m y → MarkIsExact b T m
  mark-exact y (the.Connected s client) may c = connected_exact b T x.memory.sessions client s ss may.0 may.1 begun
  mark-exact y (the.Fetched s page upto) may c = fetched_exact b T x.memory.sessions s page upto ss may.0 (subst (λ (H : List Entry). upto ≤ length H) (sym hist) may.1)
  mark-exact y (the.Granted s page) may c = subst (λ (p : ℕ). MarkIsExact b T (the.Granted s p)) (sym c.0) (granted-exact b x.trace x.held x.memory s a answers may.0 may.1)
  mark-exact y (the.Took s place) may c = subst (λ (p : ℕ). MarkIsExact b T (the.Took s p)) (sym may.1.2) (taken_exact b T x.memory.sessions s may.1.0 ss may.0 may.1.1)
  mark-exact y (the.Drew s t) may c = drew-exact b x.trace x.held x.memory s t a answers may.0 may.1 may.2 may.3 may.4
  mark-exact y (the.Forgot t) may c = subst (λ (H : List Entry). IsTrue (has (state b H).kept t)) (sym hist) c.0
  mark-exact y (the.Refused s None r) may c = call-exact s r may.0
  mark-exact y (the.Refused s (Some q) r) may c = subst (λ (n : ℕ). MarkIsExact b T (the.Refused n (Some q) r)) may.0.0 (asked-exact q r may.0.1)

  same : (K : Kept) (m : Mark) → K ≡ x.memory.sessions → SessionsAgree b (T ++ M m ∷ []) x.memory.sessions → SessionsAgree b (T ++ M m ∷ []) K
  same K m e s = subst (SessionsAgree b (T ++ M m ∷ [])) (sym e) s

  mark-told : (y : Repository) (m : Mark) → MayMark b x m y.memory.sessions → MarkChanges b x m y → SessionsAgree b (T ++ M m ∷ []) y.memory.sessions
  mark-told y (the.Connected s client) may c = subst (SessionsAgree b (T ++ M (the.Connected s client) ∷ [])) (sym may.2) (begun_agrees b T x.memory.sessions client s may.0 ss)
  mark-told y (the.Fetched s page upto) may c =
      subst (SessionsAgree b (T ++ M (the.Fetched s page upto) ∷ [])) (sym may.2.1)
      (subst (λ (H : List Entry). SessionsAgree b (T ++ M (the.Fetched s page upto) ∷ []) (acknowledged (sent x.memory.sessions s page (Page page may.2.0 (length H))) s upto)) hist
      (fetched_agrees b T x.memory.sessions s page upto may.2.0 ss may.0 (subst (λ (H : List Entry). upto ≤ length H) (sym hist) may.1)))
  mark-told y (the.Granted s page) may c =
      subst (SessionsAgree b (T ++ M (the.Granted s page) ∷ [])) (sym may.2)
      (subst (λ (H : List Entry). SessionsAgree b (T ++ M (the.Granted s page) ∷ []) (sent x.memory.sessions s page (Grant page (length H)))) hist (granted_agrees b T x.memory.sessions s page ss may.0))
  mark-told y (the.Took s place) may c =
      subst (SessionsAgree b (T ++ M (the.Took s place) ∷ [])) (sym may.2)
      (subst (λ (p : ℕ). SessionsAgree b (T ++ M (the.Took s p) ∷ []) (taken x.memory.sessions s)) (sym may.1.2) (taken_agrees b T x.memory.sessions s may.1.0 ss may.0 may.1.1))
  mark-told y (the.Drew s t) may c = same y.memory.sessions (the.Drew s t) may.5 (noted b T x.memory.sessions (the.Drew s t) tt ss)
  mark-told y (the.Forgot t) may c = same y.memory.sessions (the.Forgot t) may (noted b T x.memory.sessions (the.Forgot t) tt ss)
  mark-told y (the.Refused s q r) may c = same y.memory.sessions (the.Refused s q r) may.1 (noted b T x.memory.sessions (the.Refused s q r) tt ss)

  pub marked : (m : Mark) (y : Repository) → MarkIsMade b x m y → IsRight b y Up
  marked m y mk =
      record {
        recorded = subst (IsRecorded b) (sym mk.comes.trace) (behind-mark b x.trace k m (mark-exact y m mk.may mk.comes.changes));
        stands = (
          mark-comes b x y m a mk.comes,
          subst (λ (r : Recorded). SessionsAgree b (trace_of r) y.memory.sessions) (sym mk.comes.trace) (subst (λ (U : List Item). SessionsAgree b U y.memory.sessions) (sym (trace-marked b x.trace m)) (mark-told y m mk.may mk.comes.changes)),
        );
      }
