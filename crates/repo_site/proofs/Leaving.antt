-- What a call leaves unsettled, and calls that are refused.
use Rattle.base_reasons.specs.declared.reason.Reason.{Reason}
use Rattle.client_port.specs.Views.{Calm, Halted, MayCome, Unsettled}
use Rattle.client_port.specs.Works.{IsBehind, IsHalted, IsOutage, MayHaveLeft, RefusedMarked, RefusedUnmarked}
use Rattle.law_client_views.proofs.Agreed.{is_gone}
use Rattle.law_client_views.specs.Standing.{is_client, unsettled_of}
use Rattle.law_repo_calls.proofs.Phases.{down_phase, right_up, torn_phase, up_phase}
use Rattle.law_repo_calls.specs.Seen.{StandsRight, phase}
use Rattle.law_repo_memory.specs.Agreeing.{trace_of}
use Rattle.law_repo_runs.specs.Standing.{Down, Phase, Torn, Up}
use Rattle.law_repo_sessions.specs.Agreeing.{SessionsAgree}
use Rattle.log_entries.specs.declared.entry.Entry.{Entry}
use Rattle.log_entries.specs.declared.request.Request.{Request}
use Rattle.repo_core.specs.Behind.{with_refusal}
use Rattle.repo_core.specs.Refusing.{CanRefuse, GoesDown, HasNoReason, IsGone, Leaves}
use Rattle.repo_core.specs.Shown.{Shown}
use Rattle.repo_durable.specs.Kept.{is_fault}
use Rattle.repo_refusals.specs.declared.refusal.Refusal.TheVariants as refused
use Rattle.repo_refusals.specs.declared.refusal.Refusal.{Refusal}
use Rattle.repo_site.specs.Working.{MayLeave}
use Rattle.repo_trace.specs.Recorded.{with_entry, with_mark}
use Rattle.spec_history.specs.History.{Base}
use Rattle.spec_trace.proofs.Exactness.{exact-owed}
use Rattle.spec_trace.proofs.Traces.{items-entry, items-mark}
use Rattle.spec_trace.specs.Exact.{ItemIsExact, RefusalIsExact, exact}
use Rattle.spec_trace.specs.Gaps.{maker}
use Rattle.spec_trace.specs.Trace.{E, Item, M}
use Rattle.spec_trace.specs.declared.mark.Mark.TheVariants as the
use Rattle.spec_trace.specs.declared.mark.Mark.{Mark}
use Rattle.std.proofs.Common.{Bool, List, Option, [], ap, cond, false, inl, inr, refl, subst, sym, true, ℕ, ◌++◌, ◌∙◌, ◌≡◌, ◌∷◌}
use Rattle.std.specs.Prelude.{None, Some, ◌⊎◌}

-- ---- what is unsettled

-- what is read off a repository's state is what may be
pub may_leave : (b : Base) (c : ℕ) (T : List Item) (p : Phase) → MayLeave p (unsettled_of b c T p)
may_leave b c T Up = refl
may_leave b c T (Down None) = refl
may_leave b c T (Down (Some e)) = by (is_client c (maker b T (E e)))
  where
    by : (t : Bool) → (cond t (MayCome e) Halted ≡ MayCome e) ⊎ (cond t (MayCome e) Halted ≡ Halted)
    by true = inl refl
    by false = inr refl
may_leave b c T Torn = refl

module _ (y : Shown) (u : Unsettled) (m : MayLeave (phase y) u) where
  pub calm : y.is_up ≡ true → u ≡ Calm
  calm up = subst (λ (p : Phase). MayLeave p u) (up_phase y up) m

  down_with : (o : Option Entry) → y.is_up ≡ false → y.is_torn ≡ false → y.pending ≡ o → MayLeave (Down o) u
  down_with o down whole is = subst (λ (p : Phase). MayLeave p u) (down_phase y o down whole is) m

  torn : y.is_up ≡ false → y.is_torn ≡ true → u ≡ Halted
  torn down t = subst (λ (p : Phase). MayLeave p u) (torn_phase y down t) m

  -- nothing of a call that writes no entry
  pub halted : (x : Shown) → GoesDown x y None → y.is_up ≡ false → u ≡ Halted
  halted x g down = by y.is_torn refl
    where
      none : y.is_torn ≡ false → (y.pending ≡ None) ⊎ (y.pending ≡ None) → u ≡ Halted
      none whole (inl e) = down_with None down whole e
      none whole (inr e) = down_with None down whole e

      by : (t : Bool) → y.is_torn ≡ t → u ≡ Halted
      by true t = torn down t
      by false t = none t (g.pending t)

  -- the entry, or nothing
  pub left_with : (x : Shown) (e : Entry) → GoesDown x y (Some e) → y.is_up ≡ false → (u ≡ MayCome e) ⊎ (u ≡ Halted)
  left_with x e g down = by y.is_torn refl
    where
      one : y.is_torn ≡ false → (y.pending ≡ None) ⊎ (y.pending ≡ Some e) → (u ≡ MayCome e) ⊎ (u ≡ Halted)
      one whole (inl k) = inr (down_with None down whole k)
      one whole (inr k) = down_with (Some e) down whole k

      by : (t : Bool) → y.is_torn ≡ t → (u ≡ MayCome e) ⊎ (u ≡ Halted)
      by true t = inr (torn down t)
      by false t = one t (g.pending t)

pub have_left : (e : Entry) (valid : Type 0) (u : Unsettled) → (u ≡ MayCome e) ⊎ (u ≡ Halted) → valid → MayHaveLeft e valid u
have_left e valid u (inl is) v = subst (MayHaveLeft e valid) (sym is) (refl, v)
have_left e valid u (inr is) v = subst (MayHaveLeft e valid) (sym is) tt

pub have_halted : (e : Entry) (valid : Type 0) (u : Unsettled) → u ≡ Halted → MayHaveLeft e valid u
have_halted e valid u is = subst (MayHaveLeft e valid) (sym is) tt

pub never_both : (b : Bool) → b ≡ true → b ≡ false → ⊥
never_both b t f = cc

-- ---- the trace

pub marked_is : (x y : Shown) (m : Mark) → y.trace ≡ with_mark x.trace m → trace_of y.trace ≡ trace_of x.trace ++ M m ∷ []
marked_is x y m e = ap trace_of e ∙ items-mark x.trace.history x.trace.marks m

pub entered_is : (b : Base) (x y : Shown) (e : Entry) → StandsRight b x → y.trace ≡ with_entry x.trace e → trace_of y.trace ≡ trace_of x.trace ++ E e ∷ []
entered_is b x y e k is = ap trace_of is ∙ items-entry x.trace.history x.trace.marks e k.right.recorded.trace

-- the last item is exact
pub last_is_exact : (b : Base) (y : Shown) (T : List Item) (i : Item) → StandsRight b y → trace_of y.trace ≡ T ++ i ∷ [] → ItemIsExact b T i
last_is_exact b y T i k is = exact-owed b T i (subst (exact b) is k.right.recorded.exact)

-- ---- calls that are refused

module _ (b : Base) (x y : Shown) (u : Unsettled) (k : StandsRight b x) (after : StandsRight b y) (up : x.is_up ≡ true) (m : MayLeave (phase y) u) where
  abbrev T : List Item
  T = trace_of x.trace

  abbrev S : List Item
  S = trace_of y.trace

  pub sessions : SessionsAgree b T x.memory.sessions
  sessions = (right_up b x k up).stands.1

  pub fallen : (r : Refusal) → y.is_up ≡ cond (is_fault r) false x.is_up → is_fault r ≡ true → y.is_up ≡ false
  fallen r u f = u ∙ ap (λ (t : Bool). cond t false x.is_up) f

  pub stays_up : (r : Refusal) → y.is_up ≡ cond (is_fault r) false x.is_up → is_fault r ≡ false → y.is_up ≡ true
  stays_up r u f = u ∙ (ap (λ (t : Bool). cond t false x.is_up) f ∙ up)

  pub is_down_never : (W : Refusal → Type 0) (D : Type 0) (n : ℕ) → CanRefuse x W D (refused.Down n) → ⊥
  is_down_never W D n why = never_both x.is_up up (why.down n refl).0

  -- a fault of a call that writes no entry
  pub idle : (r : Refusal) → is_fault r ≡ true → y.is_up ≡ cond (is_fault r) false x.is_up → Leaves x y None r → y.trace ≡ x.trace → IsHalted T S u
  idle r f stands left same = (ap trace_of same, halted y u m x (left.fault f) (fallen r stands f))

  -- the session is gone, or there was an outage
  pub unmarked : (s : ℕ) (D : Type 0) (r : Refusal) → y.is_up ≡ cond (is_fault r) false x.is_up → Leaves x y None r → y.trace ≡ x.trace → CanRefuse x (IsGone x.memory s) D r → RefusedUnmarked b T s r S u
  unmarked s D (refused.Reason q) stands left same why =
      let g : IsGone x.memory s (refused.Reason q) = (why.reason q refl).1 in
      subst (λ (v : Unsettled). RefusedUnmarked b T s (refused.Reason q) S v) (sym (calm y u m (stays_up (refused.Reason q) stands refl)))
      (subst (λ (R : List Item). RefusedUnmarked b T s (refused.Reason q) R Calm) (sym (ap trace_of same))
      (subst (λ (r : Refusal). RefusedUnmarked b T s r T Calm) (sym g.0) (is_gone b T x.memory.sessions s sessions g.1)))
  unmarked s D (refused.Down n) stands left same why = absurd (is_down_never (IsGone x.memory s) D n why)
  unmarked s D (refused.Stopped n) stands left same why = (tt, idle (refused.Stopped n) refl stands left same)
  unmarked s D (refused.Damaged n place) stands left same why = (tt, idle (refused.Damaged n place) refl stands left same)
  unmarked s D refused.NoMemory stands left same why = (tt, idle refused.NoMemory refl stands left same)

  -- a call that nothing but an outage refuses
  pub outage : (D : Type 0) (r : Refusal) → y.is_up ≡ cond (is_fault r) false x.is_up → Leaves x y None r → y.trace ≡ x.trace → CanRefuse x HasNoReason D r → IsOutage r × IsHalted T S u
  outage D (refused.Reason q) stands left same why = absurd ((why.reason q refl).1)
  outage D (refused.Down n) stands left same why = absurd (is_down_never HasNoReason D n why)
  outage D (refused.Stopped n) stands left same why = (tt, idle (refused.Stopped n) refl stands left same)
  outage D (refused.Damaged n place) stands left same why = (tt, idle (refused.Damaged n place) refl stands left same)
  outage D refused.NoMemory stands left same why = (tt, idle refused.NoMemory refl stands left same)

  -- a refusal gets its mark
  pub behind_refusal : (s : ℕ) (o : Option Request) (q : Reason) → y.is_up ≡ x.is_up → y.trace ≡ with_mark x.trace (the.Refused s o (refused.Reason q)) → RefusalIsExact b T s o (refused.Reason q) × IsBehind T (M (the.Refused s o (refused.Reason q))) S u
  behind_refusal s o q stands t =
      let is : S ≡ T ++ M (the.Refused s o (refused.Reason q)) ∷ [] = marked_is x y (the.Refused s o (refused.Reason q)) t in
      (last_is_exact b y T (M (the.Refused s o (refused.Reason q))) after is, (is, calm y u m (stands ∙ up)))

  -- of a draw or a grant
  pub marked : (s : ℕ) (W : Refusal → Type 0) (r : Refusal) → y.is_up ≡ cond (is_fault r) false x.is_up → Leaves x y None r → y.trace ≡ with_refusal x.trace s None r → CanRefuse x W ⊥ r → RefusedMarked b T s r S u
  marked s W (refused.Reason q) stands left t why = behind_refusal s None q stands t
  marked s W (refused.Down n) stands left t why = absurd (is_down_never W ⊥ n why)
  marked s W (refused.Stopped n) stands left t why = idle (refused.Stopped n) refl stands left t
  marked s W (refused.Damaged n place) stands left t why = idle (refused.Damaged n place) refl stands left t
  marked s W refused.NoMemory stands left t why = idle refused.NoMemory refl stands left t
