-- Restarts and openings.
use Rattle.log_entries.specs.declared.entry.Entry.TheVariants.{Life}
use Rattle.log_entries.specs.declared.entry.Entry.{Entry}
use Rattle.repo_state.proofs.Limits.{entered_limit}
use Rattle.repo_state.specs.declared.held.Held.{Held}
use Rattle.repo_sessions.specs.Sessions.{Kept, ended}
use Rattle.spec_history.specs.History.{Base}
use Rattle.repo_core.specs.Restarting as core
use Rattle.repo_core.specs.Restarting.{Begins, StaysDown, memory_at}
use Rattle.repo_core.specs.Shown.{Shown}
use Rattle.law_repo_calls.proofs.Marked.{earlier_go}
use Rattle.law_repo_calls.proofs.Phases.{down_phase, made_of_parts, not_torn, torn_phase, up_phase, whole_not_torn}
use Rattle.law_repo_calls.proofs.Stepping.{LimitStays, runs_one}
use Rattle.law_repo_calls.specs.Seen.{IsRun, IsWhole, StandsRight, phase, phase_from, seen}
use Rattle.law_repo_calls.specs.Vouching.{IsBase}
use Rattle.law_repo_memory.specs.Running.{EarlierGo}
use Rattle.law_repo_runs.proofs.Returning.{may-take, take}
use Rattle.law_repo_runs.proofs.Steps.{opens, runs}
use Rattle.law_repo_runs.specs.Restarting.{MayTake, Recovers, Restart, RestartFails, StaysPending, Tears, life_behind}
use Rattle.law_repo_runs.specs.Standing.{Down, IsRight}
use Rattle.std.proofs.Common.{Bool, Err, Ok, OnErr, OnOk, Option, Result, [], ◌∷◌, ap, false, inl, inr, refl, subst, sym, true, ℕ, ◌+◌, ◌∙◌, ◌≡◌}
use Rattle.std.specs.Option.{IfSome}
use Rattle.std.specs.Prelude.{IfOk, None, Some, ◌⊎◌}
use Rattle.thor_value.specs.FiniteMap.{IsSorted, Set, has}
use Rattle.thor_value.specs.Names.{ts_cmp}
use Rattle.repo_trace.specs.Recorded.{nothing, with_entry}
use Rattle.repo_refusals.specs.declared.refusal.Refusal.{Refusal}
use Rattle.repo_volatile.proofs.Lasting.{lasts_itself}
use Rattle.repo_volatile.specs.Volatile.{Memory}

-- ---- what is taken

may_take : (u t : Bool) (p taken : Option Entry) → t ≡ false → IfSome taken (λ e. (u ≡ false) × (p ≡ Some e)) → MayTake (phase_from u t p) taken
may_take true t p None whole was = tt
may_take true t p (Some e) whole was = absurd (never was.0)
  where
    never : true ≡ false → ⊥
    never e = cc
may_take false true p taken whole was = absurd (never whole)
  where
    never : true ≡ false → ⊥
    never e = cc
may_take false false p None whole was = tt
may_take false false p (Some e) whole was = was.1

-- the table with what was taken is in order
sorted : (b : Base) (x z : Shown) → StandsRight b x → (r : core.Recovers x z) → IsSorted r.taking.held.table.transactions
sorted b x z k r =
    let may : MayTake (phase x) r.takes.taken = may_take x.is_up x.is_torn x.pending r.takes.taken r.takes.whole r.takes.was in
    subst (λ (h : Held). IsSorted h.table.transactions) (sym r.takes.held) (take b (seen x) r.takes.taken r.takes.moved r.takes.moves (may-take b (seen x) (phase x) r.takes.taken k.right may)).held.table.sorted

-- what is recovered
pub recovers : (b : Base) (x z : Shown) → StandsRight b x → core.Recovers x z → Recovers b (seen x) (phase x) (seen z)
recovers b x z k r = record {
  taken = r.takes.taken;
  may = may_take x.is_up x.is_torn x.pending r.takes.taken r.takes.whole r.takes.was;
  trace = r.trace ∙ r.takes.trace;
  moved = r.takes.moved;
  moves = r.takes.moves;
  table = z.held.table;
  go = subst (λ (h : Held). EarlierGo b h.table z.held.table) r.takes.held (earlier_go b r.taking.opened_in r.taking.held.table z.held.table (r.opened ∙ k.opened) (sorted b x z k r) r.drops.go);
  held = r.drops.held ∙ ap (λ (h : Held). record h { table = z.held.table }) r.takes.held;
  came = λ t h. subst (λ (m : Set ts_cmp). has m t ≡ true) (sym (ap (λ (m : Memory). m.requested) r.memory ∙ r.takes.requested)) h;
  last = ap (λ (m : Memory). m.sessions.last) r.memory ∙ ap (λ (m : Kept). m.last) r.takes.sessions;
}

-- the limit stays
recovered_limit : (x z : Shown) → core.Recovers x z → LimitStays x z
recovered_limit x z r = ap (λ (h : Held). h.objects.mob.limit) r.drops.held ∙ r.takes.limit

recovered_whole : (x z : Shown) → core.Recovers x z → IsWhole (phase x)
recovered_whole x z r = whole_not_torn x r.takes.whole

sessions_same : (x z : Shown) → core.Recovers x z → z.memory.sessions ≡ x.memory.sessions
sessions_same x z r = ap (λ (m : Memory). m.sessions) r.memory ∙ r.takes.sessions

-- ---- a restart

comes_up : (b : Base) (x y : Shown) → StandsRight b x → y.is_up ≡ true → core.ComesUp x y → y.memory.sessions ≡ ended x.memory.sessions → y.opened_in ≡ x.opened_in → IsRun b x y
comes_up b x y k up c sessions o =
    runs_one b x y Restart (
      up_phase y up,
      record {
        between = seen c.between;
        recovers = recovers b x c.between k c.recovers;
        begins = record { trace = c.trace; held = c.held; memory = c.memory; sessions = sessions ∙ ap ended (sym (sessions_same x c.between c.recovers)) };
      },
    ) o (λ w. (recovered_whole x c.between c.recovers, ap (λ (h : Held). h.objects.mob.limit) c.held ∙ (entered_limit c.between.held (Life (c.between.held.life + 1)) ∙ recovered_limit x c.between c.recovers)))

stays_pending : (u t : Bool) (p o q : Option Entry) → t ≡ false → (o ≡ None) ⊎ ((u ≡ false) × (o ≡ p)) → q ≡ o → StaysPending (phase_from u t p) (Down q)
stays_pending true t p o q whole (inl none) is = ap Down (is ∙ none)
stays_pending true t p o q whole (inr same) is = absurd (never same.0)
  where
    never : true ≡ false → ⊥
    never e = cc
stays_pending false true p o q whole why is = absurd (never whole)
  where
    never : true ≡ false → ⊥
    never e = cc
stays_pending false false p o q whole (inl none) is = inl (ap Down (is ∙ none))
stays_pending false false p o q whole (inr same) is = inr (ap Down (is ∙ same.1))

takes_none : (b : Base) (x y : Shown) → y.is_up ≡ false → core.TakesNone x y → y.opened_in ≡ x.opened_in → IsRun b x y
takes_none b x y d n o = by y.is_torn refl
  where
    limit : IsWhole (phase y) → IsWhole (phase x) × LimitStays x y
    limit w = let whole : y.is_torn ≡ false = not_torn y d w in (whole_not_torn x (n.torn whole), (n.held whole).limit)

    by : (t : Bool) → y.is_torn ≡ t → IsRun b x y
    by true t = runs_one b x y Tears (torn_phase y d t, n.trace) o limit
    by false t =
        runs_one b x y RestartFails (inl (record {
          down = record { trace = n.trace; moves = (n.held t).objects; memory = n.memory };
          phase = subst (StaysPending (phase x)) (sym (down_phase y y.pending d t refl)) (stays_pending x.is_up x.is_torn x.pending y.pending y.pending (n.torn t) (n.pending t) refl);
        })) o limit

fails_behind : (b : Base) (x y : Shown) → StandsRight b x → y.is_up ≡ false → core.FailsBehind x y → y.opened_in ≡ x.opened_in → IsRun b x y
fails_behind b x y k d f o = by y.is_torn refl
  where
    limit : IsWhole (phase y) → IsWhole (phase x) × LimitStays x y
    limit w = (recovered_whole x f.between f.recovers, (f.falls.held (not_torn y d w)).limit ∙ recovered_limit x f.between f.recovers)

    pending : (t : y.is_torn ≡ false) → (y.pending ≡ None) ⊎ (y.pending ≡ Some (Life (f.between.held.life + 1))) → (phase y ≡ Down None) ⊎ (phase y ≡ Down (Some (life_behind (seen f.between))))
    pending t (inl e) = inl (down_phase y None d t e)
    pending t (inr e) = inr (down_phase y (Some (Life (f.between.held.life + 1))) d t e)

    by : (t : Bool) → y.is_torn ≡ t → IsRun b x y
    by true t = record {
      events = RestartFails ∷ Tears ∷ [];
      run = (
        seen f.between,
        Down None,
        inr (record {
          between = seen f.between;
          recovers = recovers b x f.between k f.recovers;
          down = record { trace = refl; moves = refl; memory = lasts_itself f.between.memory };
          phase = inl refl;
        }),
        (seen y, phase y, (torn_phase y d t, f.trace), (refl, refl)),
      );
      opened = o;
      limit = limit;
    }
    by false t =
        runs_one b x y RestartFails (inr (record {
          between = seen f.between;
          recovers = recovers b x f.between k f.recovers;
          down = record { trace = f.trace; moves = (f.falls.held t).objects; memory = f.falls.memory };
          phase = pending t (f.falls.pending t);
        })) o limit

stays_down : (b : Base) (x y : Shown) → StandsRight b x → y.is_up ≡ false → StaysDown x y → y.opened_in ≡ x.opened_in → IsRun b x y
stays_down b x y k d (inl none) o = takes_none b x y d none o
stays_down b x y k d (inr behind) o = fails_behind b x y k d behind o

pub restart_runs : {X : Type 0} (b : Base) (x y : Shown) (result : Result X Refusal) → StandsRight b x → OnOk result (y.is_up ≡ true) → OnErr result (y.is_up ≡ false) → OnOk result (y.memory.sessions ≡ ended x.memory.sessions)
    → OnOk result (core.ComesUp x y) → OnErr result (StaysDown x y) → y.opened_in ≡ x.opened_in → IsRun b x y
restart_runs b x y (Ok t) k up down sessions comes stays o = comes_up b x y k up comes sessions o
restart_runs b x y (Err r) k up down sessions comes stays o = stays_down b x y k down stays o

-- ---- an opening

pub opening : (b : Base) (h : Held) (y : Shown) → IsBase b h → y.is_up ≡ true → y.trace ≡ with_entry nothing (Life (h.life + 1)) → Begins h y → StandsRight b y
opening b h y base up trace n = record {
  right = subst (IsRight b (seen y)) (sym (up_phase y up)) (opens b (made_of_parts h (memory_at h.threshold) nothing) (seen y) (record {
    silence = base.silence;
    can = base.begins;
    trace = refl;
    sessions = refl;
    begins = record { trace = trace; held = n.held; memory = n.memory; sessions = n.sessions };
  }));
  opened = n.opened ∙ ap (λ (l : ℕ). l + 1) base.begins.life;
  limit = λ w. ap (λ (g : Held). g.objects.mob.limit) n.held ∙ (entered_limit h (Life (h.life + 1)) ∙ base.limit);
}

pub opened_right : (b : Base) (h : Held) {P E : Type 0} (view : P → Shown) (result : Result P E) → IsBase b h → IfOk result (λ repo. (view repo).is_up ≡ true) → IfOk result (λ repo. (view repo).trace ≡ with_entry nothing (Life (h.life + 1))) → IfOk result (λ repo. Begins h (view repo)) → IfOk result (λ repo. StandsRight b (view repo))
opened_right b h view (Ok repo) base up trace begins = opening b h (view repo) base up trace begins
opened_right b h view (Err e) base up trace begins = tt

-- ---- runs of events

-- what a call does leaves it right
pub stands_on : (b : Base) (x y : Shown) → StandsRight b x → IsRun b x y → StandsRight b y
stands_on b x y k r = record {
  right = runs b (seen x) (seen y) (phase x) (phase y) r.events k.right r.run;
  opened = r.opened ∙ k.opened;
  limit = λ w. (r.limit w).1 ∙ k.limit (r.limit w).0;
}
