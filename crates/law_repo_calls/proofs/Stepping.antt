-- Calls as runs of events.
use Rattle.log_entries.specs.declared.entry.Entry.{Entry}
use Rattle.log_entries.specs.declared.request.Request.{Request}
use Rattle.repo_state.specs.declared.held.Held.{Held}
use Rattle.spec_history.specs.History.{Base}
use Rattle.repo_core.specs.Behind.{is_marked, with_refusal}
use Rattle.repo_core.specs.Refusing.{GoesDown, Leaves, StaysAsWas}
use Rattle.repo_core.specs.Shown.{Shown}
use Rattle.law_repo_calls.proofs.Phases.{down_phase, not_torn, same_phase, same_seen, torn_phase, up_phase, whole_up}
use Rattle.law_repo_calls.specs.Seen.{IsRun, IsWhole, phase, seen}
use Rattle.law_repo_runs.specs.Happening.{MarkIsMade, WasMaking, WasRefused}
use Rattle.law_repo_runs.specs.Restarting.{Does, Event, Fails, Marks, Tears}
use Rattle.law_repo_runs.specs.Standing.{Down}
use Rattle.spec_trace.specs.declared.mark.Mark.TheVariants.{Refused}
use Rattle.spec_trace.specs.declared.mark.Mark.{Mark}
use Rattle.repo_durable.specs.Kept.{is_fault}
use Rattle.std.proofs.Common.{Bool, Option, [], ◌∷◌, ap, cond, false, inl, inr, refl, subst, sym, true, ℕ, ◌∙◌, ◌≡◌}
use Rattle.std.specs.Prelude.{None, ◌⊎◌}
use Rattle.repo_trace.specs.Recorded.{with_mark}
use Rattle.repo_refusals.specs.declared.refusal.Refusal.TheVariants as the
use Rattle.repo_refusals.specs.declared.refusal.Refusal.{Refusal}
use Rattle.repo_volatile.specs.Volatile.{Memory}

-- the limit of the buffer stays
abbrev pub LimitStays : Shown → Shown → Type 0
LimitStays x y = y.held.objects.mob.limit ≡ x.held.objects.mob.limit

pub stays_so : (x y : Shown) → y.held ≡ x.held → LimitStays x y
stays_so x y h = ap (λ (a : Held). a.objects.mob.limit) h

-- nothing happens
pub runs_still : (b : Base) (x y : Shown) → y.held ≡ x.held → y.memory ≡ x.memory → y.pending ≡ x.pending → y.is_torn ≡ x.is_torn → y.trace ≡ x.trace → y.is_up ≡ x.is_up → y.opened_in ≡ x.opened_in → IsRun b x y
runs_still b x y held memory pending torn t u o = record {
  events = [];
  run = (same_seen x y held memory t, same_phase x y u torn pending);
  opened = o;
  limit = λ w. (subst_whole w, stays_so x y held);
}
  where
    subst_whole : IsWhole (phase y) → IsWhole (phase x)
    subst_whole w = subst IsWhole (same_phase x y u torn pending) w

pub runs_none : (b : Base) (x y : Shown) → StaysAsWas x y → y.trace ≡ x.trace → y.is_up ≡ x.is_up → y.opened_in ≡ x.opened_in → IsRun b x y
runs_none b x y s t u o = runs_still b x y s.held s.memory s.pending s.torn t u o

pub runs_same : (b : Base) (x y : Shown) → y ≡ x → IsRun b x y
runs_same b x y is = subst (IsRun b x) (sym is) (runs_still b x x refl refl refl refl refl refl refl)

-- one event happens
pub runs_one : (b : Base) (x y : Shown) (e : Event) → Does b (seen x) (phase x) e (seen y) (phase y) → y.opened_in ≡ x.opened_in → (IsWhole (phase y) → IsWhole (phase x) × LimitStays x y) → IsRun b x y
runs_one b x y e d o l = record { events = e ∷ []; run = (seen y, phase y, d, (refl, refl)); opened = o; limit = l }

-- a fault, with this entry pending or none
pub runs_fault : (b : Base) (x y : Shown) (entry : Option Entry) → GoesDown x y entry → y.is_up ≡ false → y.trace ≡ x.trace → WasMaking b (seen x) entry → y.opened_in ≡ x.opened_in → IsRun b x y
runs_fault b x y entry g d t w o = by y.is_torn refl
  where
    limit : IsWhole (phase y) → IsWhole (phase x) × LimitStays x y
    limit k = (whole_up x g.was_up, (g.held (not_torn y d k)).limit)

    stands : y.is_torn ≡ false → (y.pending ≡ None) ⊎ (y.pending ≡ entry) → (phase y ≡ Down None) ⊎ (phase y ≡ Down entry)
    stands k (inl e) = inl (down_phase y None d k e)
    stands k (inr e) = inr (down_phase y entry d k e)

    by : (k : Bool) → y.is_torn ≡ k → IsRun b x y
    by true k = runs_one b x y Tears (torn_phase y d k, t) o limit
    by false k = runs_one b x y (Fails entry) (up_phase x g.was_up, stands k (g.pending k), w, record { trace = t; moves = (g.held k).objects; memory = g.memory }) o limit

-- a refusal without a mark
pub runs_refused : (b : Base) (x y : Shown) (entry : Option Entry) (r : Refusal) → y.is_up ≡ cond (is_fault r) false x.is_up → Leaves x y entry r → y.trace ≡ x.trace → WasMaking b (seen x) entry → y.opened_in ≡ x.opened_in → IsRun b x y
runs_refused b x y entry r u left t w o = by (is_fault r) refl
  where
    by : (f : Bool) → is_fault r ≡ f → IsRun b x y
    by true is = runs_fault b x y entry (left.fault is) (u ∙ ap (λ (f : Bool). cond f false x.is_up) is) t w o
    by false is = runs_none b x y (left.other is) t (u ∙ ap (λ (f : Bool). cond f false x.is_up) is) o

-- a mark is made
pub runs_mark : (b : Base) (x y : Shown) (m : Mark) → x.is_up ≡ true → y.is_up ≡ true → MarkIsMade b (seen x) m (seen y) → y.opened_in ≡ x.opened_in → LimitStays x y → IsRun b x y
runs_mark b x y m u v made o l = runs_one b x y (Marks m) (up_phase x u, up_phase y v, made) o (λ w. (whole_up x u, l))

no_fault : (r : Refusal) → is_marked r ≡ true → is_fault r ≡ false
no_fault (the.Reason reason) m = refl
no_fault (the.Down r) m = absurd (cc)
no_fault (the.Stopped r) m = absurd (cc)
no_fault (the.Damaged r k) m = absurd (cc)
no_fault the.NoMemory m = absurd (cc)

-- a draw, a grant or a request is refused
pub runs_answered : (b : Base) (x y : Shown) (s : ℕ) (q : Option Request) (entry : Option Entry) (r : Refusal) → y.is_up ≡ cond (is_fault r) false x.is_up → Leaves x y entry r → y.trace ≡ with_refusal x.trace s q r
    → WasMaking b (seen x) entry → (is_marked r ≡ true → (x.is_up ≡ true) × WasRefused b (seen x) s q r) → y.opened_in ≡ x.opened_in → IsRun b x y
runs_answered b x y s q entry r u left t w why o = by (is_marked r) refl
  where
    refusal : (k : Bool) → is_marked r ≡ k → y.trace ≡ cond k (with_mark x.trace (Refused s q r)) x.trace
    refusal k is = t ∙ ap (λ (m : Bool). cond m (with_mark x.trace (Refused s q r)) x.trace) is

    by : (k : Bool) → is_marked r ≡ k → IsRun b x y
    by true is =
        let stays : StaysAsWas x y = left.other (no_fault r is) in
        let up : y.is_up ≡ true = u ∙ (ap (λ (f : Bool). cond f false x.is_up) (no_fault r is) ∙ (why is).0) in
        runs_mark b x y (Refused s q r) (why is).0 up (record {
          comes = record {
            trace = refusal true is;
            changes = (stays.held, ap (λ (m : Memory). m.drawn) stays.memory);
            queue = ap (λ (m : Memory). m.queue) stays.memory;
            requested = ap (λ (m : Memory). m.requested) stays.memory;
          };
          may = ((why is).1, ap (λ (m : Memory). m.sessions) stays.memory);
        }) o (stays_so x y stays.held)
    by false is = runs_refused b x y entry r u left (refusal false is) w o

-- a call on a repository that is down
pub runs_down : (b : Base) (x y : Shown) (s : ℕ) (q : Option Request) (entry : Option Entry) (r : Refusal) → y.is_up ≡ cond (is_fault r) false x.is_up → Leaves x y entry r → y.trace ≡ with_refusal x.trace s q r
    → (is_marked r ≡ true → x.is_up ≡ true) → x.is_up ≡ false → y.opened_in ≡ x.opened_in → IsRun b x y
runs_down b x y s q entry r u left t marked down o = by (is_fault r) refl (is_marked r) refl
  where
    by : (f : Bool) → is_fault r ≡ f → (m : Bool) → is_marked r ≡ m → IsRun b x y
    by true is m has_mark = absurd (both_ways (left.fault is).was_up)
      where
        both_ways : x.is_up ≡ true → ⊥
        both_ways up = cc
    by false is true has_mark = absurd (both_ways (marked has_mark))
      where
        both_ways : x.is_up ≡ true → ⊥
        both_ways up = cc
    by false is false has_mark =
        runs_none b x y (left.other is) (t ∙ ap (λ (k : Bool). cond k (with_mark x.trace (Refused s q r)) x.trace) has_mark) (u ∙ ap (λ (f : Bool). cond f false x.is_up) is) o
