-- The calls that make marks, move objects, drop decisions or stop a repository.
use Rattle.repo_state.specs.declared.held.Held.{Held}
use Rattle.repo_sessions.specs.Sessions.{begun, is_live, sent, taken}
use Rattle.spec_history.specs.History.{Base}
use Rattle.session_outbox.specs.Messages.{first, place_of}
use Rattle.session_outbox.specs.Outbox.{waiting}
use Rattle.session_outbox.specs.declared.answers.Welcome.{Welcome}
use Rattle.session_outbox.specs.declared.message.Message.TheVariants.{Grant}
use Rattle.session_outbox.specs.declared.message.Message.{Message}
use Rattle.repo_core.specs.Behind.{MovesObjects, Stands, forgotten, is_marked, with_refusal, with_taken}
use Rattle.repo_core.specs.Calls.{DrawIsRefused, GrantIsRefused}
use Rattle.repo_core.specs.Refusing.{Leaves, Rests}
use Rattle.repo_core.specs.Restarting.{DropsEarlier, LetsGo}
use Rattle.repo_core.specs.Shown.{Shown}
use Rattle.repo_core.specs.Telling.{SendsPage}
use Rattle.law_repo_calls.proofs.Phases.{agreement, down_phase, made_of_parts, same_seen, up_phase, whole_up}
use Rattle.law_repo_calls.proofs.Stepping.{LimitStays, runs_answered, runs_mark, runs_none, runs_one, runs_refused, runs_still, stays_so}
use Rattle.law_repo_calls.specs.Seen.{IsRun, StandsRight, phase, seen}
use Rattle.law_repo_calls.specs.Vouching.{WasKept}
use Rattle.law_repo_memory.specs.Running.{EarlierGo}
use Rattle.law_repo_runs.specs.Happening.{CallRefused}
use Rattle.law_repo_runs.specs.Restarting.{Checkpoint, Fails, Flushes, Marks, Waits}
use Rattle.law_repo_runs.specs.Standing.{Up}
use Rattle.spec_trace.specs.declared.mark.Mark.TheVariants.{Connected, Drew, Fetched, Forgot, Granted, Took}
use Rattle.repo_durable.specs.Kept.{is_fault}
use Rattle.std.proofs.Common.{Bool, Err, Ok, OnErr, OnOk, Option, Result, [], ◌∷◌, ap, arith, cond, false, inl, inr, length, refl, subst, sym, true, ℕ, ◌+◌, ◌<◌, ◌^◌, ◌∙◌, ◌≡◌, ◌≤◌}
use Rattle.std.specs.Prelude.{IfErr, IfOk, None, Some, nat_eq}
use Rattle.thor_value.specs.FiniteMap.{IsSorted}
use Rattle.thor_value.specs.declared.names.Ts.{Ts}
use Rattle.repo_trace.specs.Recorded.{with_mark}
use Rattle.two_phase.specs.Contents.{Contents}
use Rattle.repo_refusals.specs.declared.refusal.Refusal.{Refusal}
use Rattle.repo_volatile.proofs.Lasting.{lasts_itself}
use Rattle.repo_volatile.specs.Volatile.{Memory, Outlasts}

-- ---- marks

pub connect_runs : (b : Base) (x y : Shown) (client : ℕ) (result : Result Welcome Refusal) → Stands x.is_up result y.is_up → y.held ≡ x.held → IfOk result (λ w. y.trace ≡ with_mark x.trace (Connected w.session client)) → OnErr result (y.trace ≡ x.trace)
    → IfErr result (Leaves x y None) → y.opened_in ≡ x.opened_in → IfOk result (λ w. y.memory ≡ record x.memory { sessions = begun x.memory.sessions client w.session }) → IfOk result (λ w. w.session ≡ x.memory.sessions.last + 1) → IfOk result (λ w. w.session < 2 ^ 32) → IsRun b x y
connect_runs b x y client (Ok w) stands held trace refused left o is number counted =
    runs_mark b x y (Connected w.session client) stands.0 stands.1 (record {
      comes = record { trace = trace; changes = (held, ap (λ (m : Memory). m.drawn) is); queue = ap (λ (m : Memory). m.queue) is; requested = ap (λ (m : Memory). m.requested) is };
      may = (number, counted, ap (λ (m : Memory). m.sessions) is);
    }) o (stays_so x y held)
connect_runs b x y client (Err r) stands held trace refused left o is number counted = runs_refused b x y None r stands left refused tt o

pub fetch_runs : (b : Base) (x y : Shown) (s page upto : ℕ) (result : Result (Unit {0}) Refusal) → upto ≤ length x.trace.history → Stands x.is_up result y.is_up → OnOk result (is_live x.memory.sessions s ≡ true) → MovesObjects x.held y.held → LimitStays x y
    → OnOk result (SendsPage x.memory s page upto (length x.trace.history) y.memory) → OnOk result (y.trace ≡ with_mark x.trace (Fetched s page upto)) → OnErr result (y.trace ≡ x.trace) → IfErr result (Leaves x y None) → y.opened_in ≡ x.opened_in → IsRun b x y
fetch_runs b x y s page upto (Ok t) within stands live moves limit sends trace refused left o = record {
  events = Flushes ∷ Marks (Fetched s page upto) ∷ [];
  run = (
    made_of_parts y.held x.memory x.trace,
    Up,
    (up_phase x stands.0, refl, record { trace = refl; held = moves; memory = refl }),
    (
      seen y,
      phase y,
      (
        refl,
        up_phase y stands.1,
        record {
          comes = record { trace = trace; changes = (refl, ap (λ (m : Memory). m.drawn) sends.sends); queue = ap (λ (m : Memory). m.queue) sends.sends; requested = ap (λ (m : Memory). m.requested) sends.sends };
          may = (live, within, (sends.bytes, ap (λ (m : Memory). m.sessions) sends.sends));
        },
      ),
      (refl, refl),
    ),
  );
  opened = o;
  limit = λ w. (whole_up x stands.0, limit);
}
fetch_runs b x y s page upto (Err r) within stands live moves limit sends trace refused left o = runs_refused b x y None r stands left refused tt o

grant_refused : (x : Shown) (s : ℕ) (r : Refusal) → GrantIsRefused x.held x.memory s r → CallRefused (seen x) s r
grant_refused x s r (inl gone) = inl gone
grant_refused x s r (inr full) = inr (inl full)

pub grant_runs : (b : Base) (x y : Shown) (s : ℕ) (result : Result (Unit {0}) Refusal) → Stands x.is_up result y.is_up → OnOk result (is_live x.memory.sessions s ≡ true) → OnOk result (y.held ≡ record x.held { next_grant = x.held.next_grant + 1 })
    → OnOk result (x.held.next_grant < 65536) → OnOk result (y.memory ≡ record x.memory { sessions = sent x.memory.sessions s x.held.next_grant (Grant x.held.next_grant (length x.trace.history)) }) → OnOk result (y.trace ≡ with_mark x.trace (Granted s x.held.next_grant))
    → IfErr result (λ r. is_marked r ≡ true → (x.is_up ≡ true) × GrantIsRefused x.held x.memory s r) → IfErr result (λ r. y.trace ≡ with_refusal x.trace s None r) → IfErr result (Leaves x y None) → y.opened_in ≡ x.opened_in → IsRun b x y
grant_runs b x y s (Ok t) stands live held below is trace why refused left o =
    runs_mark b x y (Granted s x.held.next_grant) stands.0 stands.1 (record {
      comes = record { trace = trace; changes = (refl, held, ap (λ (m : Memory). m.drawn) is); queue = ap (λ (m : Memory). m.queue) is; requested = ap (λ (m : Memory). m.requested) is };
      may = (live, below, ap (λ (m : Memory). m.sessions) is);
    }) o (ap (λ (h : Held). h.objects.mob.limit) held)
grant_runs b x y s (Err r) stands live held below is trace why refused left o =
    runs_answered b x y s None None r stands left refused tt (λ m. ((why m).0, grant_refused x s r (why m).1)) o

pub receive_runs : (b : Base) (x y : Shown) (s : ℕ) (result : Result (Option Message) Refusal) → Stands x.is_up result y.is_up → OnOk result (is_live x.memory.sessions s ≡ true) → y.held ≡ x.held → IfOk result (λ m. m ≡ first (waiting x.memory.sessions.waiting s))
    → OnOk result (y.memory ≡ record x.memory { sessions = taken x.memory.sessions s }) → IfOk result (λ m. y.trace ≡ with_taken x.trace s m) → OnErr result (y.trace ≡ x.trace) → IfErr result (Leaves x y None) → y.opened_in ≡ x.opened_in → IsRun b x y
receive_runs b x y s (Ok None) stands live held message rest trace refused left o =
    runs_one b x y Waits (up_phase x stands.0, up_phase y stands.1, record { trace = trace; held = held; session = s; none = sym message; memory = rest }) o (λ w. (whole_up x stands.0, stays_so x y held))
receive_runs b x y s (Ok (Some m)) stands live held message rest trace refused left o =
    runs_mark b x y (Took s (place_of m)) stands.0 stands.1 (record {
      comes = record { trace = trace; changes = (held, ap (λ (n : Memory). n.drawn) rest); queue = ap (λ (n : Memory). n.queue) rest; requested = ap (λ (n : Memory). n.requested) rest };
      may = (live, (m, sym message, refl), ap (λ (n : Memory). n.sessions) rest);
    }) o (stays_so x y held)
receive_runs b x y s (Err r) stands live held message rest trace refused left o = runs_refused b x y None r stands left refused tt o

draw_refused : (x : Shown) (s floor : ℕ) (r : Refusal) → DrawIsRefused x.memory s floor r → CallRefused (seen x) s r
draw_refused x s floor r (inl gone) = inl gone
draw_refused x s floor r (inr clock) = inr (inr (clock.0, clock.1, (clock.2.0, floor, clock.2.1)))

pub draw_runs : (b : Base) (x y : Shown) (s floor : ℕ) (result : Result Ts Refusal) → Stands x.is_up result y.is_up → OnOk result (is_live x.memory.sessions s ≡ true) → y.held ≡ x.held → IfOk result (λ t. x.memory.drawn < t.time) → IfOk result (λ t. t.time < 2 ^ 62)
    → IfOk result (λ t. t.repo ≡ x.held.repo) → IfOk result (λ t. t.life ≡ x.held.life) → IfOk result (λ t. y.memory ≡ record x.memory { drawn = t.time }) → IfOk result (λ t. y.trace ≡ with_mark x.trace (Drew s t))
    → IfErr result (λ r. is_marked r ≡ true → (x.is_up ≡ true) × DrawIsRefused x.memory s floor r) → IfErr result (λ r. y.trace ≡ with_refusal x.trace s None r) → IfErr result (Leaves x y None) → y.opened_in ≡ x.opened_in → IsRun b x y
draw_runs b x y s floor (Ok t) stands live held later below repo life drawn trace why refused left o =
    runs_mark b x y (Drew s t) stands.0 stands.1 (record {
      comes = record { trace = trace; changes = (held, ap (λ (m : Memory). m.drawn) drawn); queue = ap (λ (m : Memory). m.queue) drawn; requested = ap (λ (m : Memory). m.requested) drawn };
      may = (live, later, below, repo, life, ap (λ (m : Memory). m.sessions) drawn);
    }) o (stays_so x y held)
draw_runs b x y s floor (Err r) stands live held later below repo life drawn trace why refused left o =
    runs_answered b x y s None None r stands left refused tt (λ m. ((why m).0, draw_refused x s floor r (why m).1)) o

pub forget_runs : (b : Base) (x y : Shown) (t : Ts) (result : Result (Unit {0}) Refusal) → WasKept b x t → Stands x.is_up result y.is_up → y.memory ≡ x.memory → OnOk result (y.held ≡ forgotten x.held t) → OnOk result (y.trace ≡ with_mark x.trace (Forgot t))
    → OnErr result (y.trace ≡ x.trace) → IfErr result (Leaves x y None) → y.opened_in ≡ x.opened_in → IsRun b x y
forget_runs b x y t (Ok u) was stands memory held trace refused left o =
    runs_mark b x y (Forgot t) stands.0 stands.1 (record {
      comes = record { trace = trace; changes = (was, held, ap (λ (m : Memory). m.drawn) memory); queue = ap (λ (m : Memory). m.queue) memory; requested = ap (λ (m : Memory). m.requested) memory };
      may = ap (λ (m : Memory). m.sessions) memory;
    }) o (ap (λ (h : Held). h.objects.mob.limit) held)
forget_runs b x y t (Err r) was stands memory held trace refused left o = runs_refused b x y None r stands left refused tt o

-- ---- objects and decisions

same_lasts : (x y : Shown) → y.memory ≡ x.memory → Outlasts x.memory y.memory
same_lasts x y m = subst (λ (n : Memory). Outlasts x.memory n) (sym m) (lasts_itself x.memory)

pub flush_runs : {X : Type 0} (b : Base) (x y : Shown) (result : Result X Refusal) → Stands x.is_up result y.is_up → MovesObjects x.held y.held → LimitStays x y → y.memory ≡ x.memory → y.trace ≡ x.trace → IfErr result (Rests x y) → y.opened_in ≡ x.opened_in → IsRun b x y
flush_runs b x y (Ok t) stands moves limit memory trace rests o =
    runs_one b x y Flushes (up_phase x stands.0, up_phase y stands.1, record { trace = trace; held = moves; memory = memory }) o (λ w. (whole_up x stands.0, limit))
flush_runs b x y (Err r) stands moves limit memory trace rests o = by (is_fault r) refl
  where
    by : (f : Bool) → is_fault r ≡ f → IsRun b x y
    by true is =
        let f : (x.is_up ≡ true) × (y.pending ≡ None) × (y.is_torn ≡ false) = rests.fault is in
        runs_one b x y (Fails None) (up_phase x f.0, inl (down_phase y None (stands ∙ ap (λ (a : Bool). cond a false x.is_up) is) f.2 f.1), tt, record { trace = trace; moves = moves; memory = same_lasts x y memory }) o (λ w. (whole_up x f.0, limit))
    by false is = runs_none b x y (rests.other is) trace (stands ∙ ap (λ (a : Bool). cond a false x.is_up) is) o

-- of decisions those of earlier runs go
pub earlier_go : (b : Base) (life : ℕ) (old new : Contents) → life ≡ b.life + 1 → IsSorted old.transactions → LetsGo life old new → EarlierGo b old new
earlier_go b life old new is sorted go = record {
  sorted = go.sorted sorted;
  same = go.same sorted;
  kept = λ t l. go.kept sorted t (omega (arith, is, l));
  alone = go.alone;
}

pub checkpoint_runs : {X : Type 0} (b : Base) (x y : Shown) (result : Result X Refusal) → StandsRight b x → Stands x.is_up result y.is_up → y.memory ≡ x.memory → y.trace ≡ x.trace → DropsEarlier x y → IfErr result (Rests x y) → y.opened_in ≡ x.opened_in → IsRun b x y
checkpoint_runs {X = X} b x y result k stands memory trace drops rests o = on result stands rests
  where
    limit : LimitStays x y
    limit = ap (λ (h : Held). h.objects.mob.limit) drops.held

    go : x.is_up ≡ true → EarlierGo b x.held.table y.held.table
    go u = earlier_go b x.opened_in x.held.table y.held.table k.opened (agreement b x k u).held.table.sorted drops.go

    on : (a : Result X Refusal) → Stands x.is_up a y.is_up → IfErr a (Rests x y) → IsRun b x y
    on (Ok t) stood left =
        runs_one b x y Checkpoint (up_phase x stood.0, up_phase y stood.1, record { trace = trace; memory = memory; table = y.held.table; go = go stood.0; held = drops.held }) o (λ w. (whole_up x stood.0, limit))
    on (Err r) stood left = by (is_fault r) refl
      where
        by : (f : Bool) → is_fault r ≡ f → IsRun b x y
        by true is =
            let f : (x.is_up ≡ true) × (y.pending ≡ None) × (y.is_torn ≡ false) = left.fault is in
            record {
              events = Checkpoint ∷ Fails None ∷ [];
              run = (
                made_of_parts y.held x.memory x.trace,
                Up,
                (up_phase x f.0, refl, record { trace = refl; memory = refl; table = y.held.table; go = go f.0; held = drops.held }),
                (
                  seen y,
                  phase y,
                  (refl, inl (down_phase y None (stood ∙ ap (λ (a : Bool). cond a false x.is_up) is) f.2 f.1), tt, record { trace = trace; moves = refl; memory = same_lasts x y memory }),
                  (refl, refl),
                ),
              );
              opened = o;
              limit = λ w. (whole_up x f.0, limit);
            }
        by false is = runs_none b x y (left.other is) trace (stood ∙ ap (λ (a : Bool). cond a false x.is_up) is) o

-- ---- stops

unmoved : (x y : Shown) → y.held ≡ x.held → MovesObjects x.held y.held
unmoved x y h = subst (λ (g : Held). MovesObjects x.held g) (sym h) refl

pub stop_runs : (b : Base) (x y : Shown) (calls : ℕ) → y.is_up ≡ cond (nat_eq calls 0) false x.is_up → (x.is_up ≡ false → y.pending ≡ x.pending) → (x.is_up ≡ true → y.pending ≡ None) → (x.is_up ≡ true → y.is_torn ≡ false) → y.is_torn ≡ x.is_torn → y.opened_in ≡ x.opened_in
    → y.held ≡ x.held → y.memory ≡ x.memory → y.trace ≡ x.trace → IsRun b x y
stop_runs b x y calls up pending none whole torn o held memory trace = by x.is_up refl (nat_eq calls 0) refl
  where
    by : (u : Bool) → x.is_up ≡ u → (z : Bool) → nat_eq calls 0 ≡ z → IsRun b x y
    by true u true z =
        runs_one b x y (Fails None) (up_phase x u, inl (down_phase y None (up ∙ ap (λ (a : Bool). cond a false x.is_up) z) (whole u) (none u)), tt, record { trace = trace; moves = unmoved x y held; memory = same_lasts x y memory }) o (λ w. (whole_up x u, stays_so x y held))
    by true u false z = record {
      events = [];
      run = (same_seen x y held memory trace, up_phase y (up ∙ (ap (λ (a : Bool). cond a false x.is_up) z ∙ u)) ∙ sym (up_phase x u));
      opened = o;
      limit = λ w. (whole_up x u, stays_so x y held);
    }
    by false u z at = runs_still b x y held memory (pending u) torn trace (up ∙ (lowered z at ∙ sym u)) o
      where
        lowered : (z : Bool) → nat_eq calls 0 ≡ z → cond (nat_eq calls 0) false x.is_up ≡ false
        lowered true at = ap (λ (a : Bool). cond a false x.is_up) at
        lowered false at = ap (λ (a : Bool). cond a false x.is_up) at ∙ u
