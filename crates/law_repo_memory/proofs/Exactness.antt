-- Marks are exact where memory and history agree.
use Rattle.log_entries.specs.declared.request.Request.{Request}
use Rattle.repo_state.specs.declared.held.Held.{Held}
use Rattle.repo_sessions.specs.Sessions.{is_live, has_session}
use Rattle.spec_history.proofs.Listed.{is_some_and}
use Rattle.spec_history.specs.History.{Base, epoch_of, known_by, known_in, state}
use Rattle.law_repo_memory.proofs.Judging.{accepted-by-trace, verdict-exact}
use Rattle.law_repo_memory.proofs.Opens.{undecided-some}
use Rattle.law_repo_memory.specs.Agreeing.{Agrees, state_of, trace_of}
use Rattle.law_repo_memory.specs.Judging.{IsAccepted, SessionsAnswer}
use Rattle.spec_trace.specs.Notices.{lives, is_unended}
use Rattle.log_entries.specs.declared.entry.Entry.TheVariants.{Decided}
use Rattle.log_entries.specs.declared.entry.Entry.{Entry}
use Rattle.spec_trace.proofs.Traces.{entries-items}
use Rattle.spec_trace.specs.Calls.{drawn_time, last_drawn, next_page}
use Rattle.spec_trace.specs.Exact.{ComesFromSession, EntryIsExact, IsDrawn, IsGoneIn, IsLiveAnd, MarkIsExact, WritesOnPages, most_pages}
use Rattle.spec_trace.specs.Session.{Ended, Live, Retired, Session, Stage, is_ended, session, session_ended, session_lives}
use Rattle.spec_trace.specs.Session as stages
use Rattle.spec_trace.specs.Trace.{entries}
use Rattle.spec_trace.specs.declared.mark.Mark.TheVariants as the
use Rattle.std.proofs.Common.{Bool, List, [], ap, arith, cond, refl, subst, sym, ℕ, ◌<◌, ◌≡◌, ◌≤◌, ◌∙◌, ◌∷◌}
use Rattle.std.proofs.lemmas.Bool.{lt-ltb}
use Rattle.std.proofs.lemmas.Map.Views.{tells_apart}
use Rattle.std.specs.List.{AllByRecursion}
use Rattle.std.specs.Map.{keys_of}
use Rattle.std.specs.Option.{IsSomeAnd, is_some, option_or}
use Rattle.std.specs.Ordering.{eq_by_cmp}
use Rattle.std.specs.Prelude.{None, Option, Some, false, length, not, true, ◌^◌}
use Rattle.thor_value.proofs.FiniteMap.{get-insert}
use Rattle.thor_value.proofs.NameOrders.{oref_exact, oref_total}
use Rattle.thor_value.specs.FiniteMap.{Map, empty, get, has, insert, overwrite}
use Rattle.thor_value.specs.Names.{oref_cmp}
use Rattle.thor_value.specs.declared.names.Oref.{Oref}
use Rattle.thor_value.specs.declared.names.Ts.{Ts}
use Rattle.thor_value.specs.declared.values.Obj.{Obj}
use Rattle.repo_trace.specs.Recorded.{Recorded}
use Rattle.two_phase.specs.Contents.{open_at}
use Rattle.validation_queue.specs.Names.{IsInOrder}
use Rattle.repo_refusals.specs.Refusals.{bytes_of, full_of_writes}
use Rattle.base_reasons.specs.declared.reason.Reason.TheVariants as reasons
use Rattle.repo_refusals.specs.declared.refusal.Refusal.TheVariants as refused
use Rattle.repo_refusals.specs.declared.refusal.Refusal.{Refusal}
use Rattle.repo_volatile.specs.Volatile.{Memory, verdict}

live_some : (o : Option Session) (P : Session → Type 0) → lives o ≡ true → ((v : Session) → P v) → IsSomeAnd o (λ v. (session_lives v ≡ true) × P v)
live_some None P e h = cc
live_some (Some v) P e h = (e, h v)

gone_none : (o : Option Session) → lives o ≡ false → IsGoneIn o
gone_none None e = tt
gone_none (Some v) e = e

drawn_by_itself : (n last : ℕ) → last < n → n ≡ drawn_time n last 0
drawn_by_itself n last h = omega arith

module _ (b : Base) (r : Recorded) (h : Held) (M : Memory) (s : ℕ) (a : Agrees b r h M) (sessions : SessionsAnswer b (trace_of r) M.sessions) where
  live-and : (P : Session → Type 0) → is_live M.sessions s ≡ true → ((v : Session) → P v) → IsLiveAnd b (trace_of r) s P
  live-and P e k = live_some (session b (trace_of r) s) P (sym (sessions.live s) ∙ e) k

pub drew-exact : (b : Base) (r : Recorded) (h : Held) (M : Memory) (s : ℕ) (t : Ts) → Agrees b r h M → SessionsAnswer b (trace_of r) M.sessions → is_live M.sessions s ≡ true → M.drawn < t.time → t.time < 2 ^ 62 → t.repo ≡ h.repo → t.life ≡ h.life
    → MarkIsExact b (trace_of r) (the.Drew s t)
drew-exact b r h M s t a sessions live later below repo life =
    let last : last_drawn b (trace_of r) < t.time = subst (λ n. n < t.time) a.drawn later in
    let drawn : IsDrawn b (trace_of r) t = record {
      time = (t.time, 0, drawn_by_itself t.time (last_drawn b (trace_of r)) last);
      below = below;
      repo = repo ∙ a.held.repo;
      life = life ∙ (a.held.life ∙ sym (ap (λ (H : List Entry). (state b H).life) (entries-items r.history r.marks a.held.owed.trace)));
    } in
    live-and b r h M s a sessions (λ v. IsDrawn b (trace_of r) t) live (λ v. drawn)

pub granted-exact : (b : Base) (r : Recorded) (h : Held) (M : Memory) (s : ℕ) → Agrees b r h M → SessionsAnswer b (trace_of r) M.sessions → is_live M.sessions s ≡ true → h.next_grant < most_pages → MarkIsExact b (trace_of r) (the.Granted s h.next_grant)
granted-exact b r h M s a sessions live below = live-and b r h M s a sessions (λ v. (h.next_grant ≡ next_page b (trace_of r)) × (h.next_grant < most_pages)) live (λ v. (a.held.next, below))

pub request-exact : (b : Base) (r : Recorded) (h : Held) (M : Memory) (q : Request) (why : Refusal) → Agrees b r h M → SessionsAnswer b (trace_of r) M.sessions → IsInOrder q.ros (keys_of q.writes) → verdict M (epoch_of (state_of b r)) q.session q ≡ Some why
    → MarkIsExact b (trace_of r) (the.Refused q.session (Some q) why)
request-exact b r h M q why a sessions in_order e = (refl, verdict-exact b r h M q.session q a sessions in_order ∙ ap (λ o. option_or o (full_of_writes b q)) e)

pub buffer-exact : (b : Base) (r : Recorded) (h : Held) (M : Memory) (q : Request) → Agrees b r h M → SessionsAnswer b (trace_of r) M.sessions → IsInOrder q.ros (keys_of q.writes) → verdict M (epoch_of (state_of b r)) q.session q ≡ None → b.limit < bytes_of q
    → MarkIsExact b (trace_of r) (the.Refused q.session (Some q) (refused.Reason (reasons.Full b.limit)))
buffer-exact b r h M q a sessions in_order e over =
    (refl, verdict-exact b r h M q.session q a sessions in_order ∙ (ap (λ o. option_or o (full_of_writes b q)) e ∙ ap (λ y. cond y (Some (refused.Reason (reasons.Full b.limit))) None) (lt-ltb b.limit (bytes_of q) over)))

pub gone-exact : (b : Base) (r : Recorded) (h : Held) (M : Memory) (s : ℕ) → Agrees b r h M → SessionsAnswer b (trace_of r) M.sessions → is_live M.sessions s ≡ false → MarkIsExact b (trace_of r) (the.Refused s None (refused.Reason (reasons.Gone s)))
gone-exact b r h M s a sessions e = (refl, gone_none (session b (trace_of r) s) (sym (sessions.live s) ∙ e))

pub pages-exact : (b : Base) (r : Recorded) (h : Held) (M : Memory) (s : ℕ) → Agrees b r h M → SessionsAnswer b (trace_of r) M.sessions → is_live M.sessions s ≡ true → most_pages ≤ h.next_grant → MarkIsExact b (trace_of r) (the.Refused s None (refused.Reason (reasons.Full most_pages)))
pages-exact b r h M s a sessions live all = (refl, live-and b r h M s a sessions (λ v. most_pages ≤ next_page b (trace_of r)) live (λ v. subst (λ n. most_pages ≤ n) a.held.next all))

pub clock-exact : (b : Base) (r : Recorded) (h : Held) (M : Memory) (s now floor : ℕ) → Agrees b r h M → SessionsAnswer b (trace_of r) M.sessions → is_live M.sessions s ≡ true → 2 ^ 62 ≤ drawn_time now M.drawn floor → MarkIsExact b (trace_of r) (the.Refused s None (refused.Reason reasons.ClockEnd))
clock-exact b r h M s now floor a sessions live over =
    live-and b r h M s a sessions (λ v. (m : ℕ) × (f : ℕ) × (2 ^ 62 ≤ drawn_time m (last_drawn b (trace_of r)) f)) live
    (λ v. (now, floor, subst (λ n. 2 ^ 62 ≤ drawn_time now n floor) a.drawn over))

-- ---- entries

not_ended : (o : Option Session) → is_unended o ≡ true → IsSomeAnd o (λ v. session_ended v ≡ false)
not_ended None e = cc
not_ended (Some v) e = by v.stage refl e
  where
    by : (x : Stage) → v.stage ≡ x → not (is_ended x) ≡ true → is_ended v.stage ≡ false
    by Live k h = ap is_ended k
    by Retired k h = ap is_ended k
    by Ended k h = cc

-- ---- pages below a number

-- what some writes leave lies on pages below n, where they do and what stood there did
written_below : (n : ℕ) (ws : List (Oref × Obj)) (m : Map oref_cmp Obj) → ((y : Oref) → has m y ≡ true → y.page < n) → AllByRecursion (λ w. w.0.page < n) ws → (x : Oref) → has (overwrite m ws) x ≡ true → x.page < n
written_below n [] m old all x there = old x there
written_below n (w ∷ ws) m old all x there = written_below n ws (insert m w.0 w.1) added all.1 x there
  where
    by : (y : Oref) (t : Bool) → eq_by_cmp oref_cmp y w.0 ≡ t → is_some (cond t (Some w.1) (get m y)) ≡ true → y.page < n
    by y true same k = subst (λ (z : Oref). z.page < n) (sym (tells_apart oref_exact y w.0 same)) all.0
    by y false other k = old y k

    added : (y : Oref) → has (insert m w.0 w.1) y ≡ true → y.page < n
    added y h = by y (eq_by_cmp oref_cmp y w.0) refl (sym (ap is_some (get-insert oref_total m w.0 w.1 y)) ∙ h)

abbrev none_written : Map oref_cmp Obj
none_written = empty

none_there : (n : ℕ) (y : Oref) → has none_written y ≡ true → y.page < n
none_there n y e = let no : false ≡ true = e in cc

-- a request of a live session that is accepted by what is in memory
pub comes-exact : (b : Base) (r : Recorded) (h : Held) (M : Memory) (q : Request) → Agrees b r h M → SessionsAnswer b (trace_of r) M.sessions → IsAccepted b r h M q.session q → IsSomeAnd (session b (trace_of r) q.session) (λ v. v.client ≡ q.who.client) → q.upto ≤ length r.history
    → AllByRecursion (λ w. w.0.page < h.next_grant) q.writes → WritesOnPages b (trace_of r) q.session q → ComesFromSession b (trace_of r) q
comes-exact b r h M q a sessions accepted client upto granted paged = record {
  accepted = accepted-by-trace b r h M q.session q a sessions accepted;
  client = client;
  upto = subst (λ (H : List Entry). q.upto ≤ length H) (sym (entries-items r.history r.marks a.held.owed.trace)) upto;
  granted = λ x wrote. subst (λ (n : ℕ). x.page < n) a.held.next (written_below h.next_grant q.writes none_written (none_there h.next_grant) granted x wrote);
  paged = paged;
}

-- the decision on what a session has prepared that hasn't ended
pub decided-exact : (b : Base) (r : Recorded) (h : Held) (M : Memory) (t : Ts) (q : Request) (c : Bool) → Agrees b r h M → SessionsAnswer b (trace_of r) M.sessions → open_at h.table t ≡ Some q → has_session M.sessions q.session ≡ true → EntryIsExact b (trace_of r) (Decided t c)
decided-exact b r h M t q c a sessions there up =
    let p = undecided-some b (state_of b r) (known_in b (state_of b r) t) q (sym (a.held.table.undecided t) ∙ there) in
    let known : known_by b (entries (trace_of r)) t ≡ Some p.0 = ap (λ (H : List Entry). known_by b H t) (entries-items r.history r.marks a.held.owed.trace) ∙ p.1 in
    is_some_and (known_by b (entries (trace_of r)) t) (λ o. IsSomeAnd (session b (trace_of r) o.request.session) (λ v. session_ended v ≡ false)) p.0 known
    (not_ended (session b (trace_of r) p.0.request.session) (subst (λ (x : Request). is_unended (session b (trace_of r) x.session) ≡ true) (sym p.3) (sym (sessions.unended q.session) ∙ up)))
