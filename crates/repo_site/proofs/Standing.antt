-- How a repository of a run stands behind its events.
use Rattle.disk_trait.specs.Disks.{Disks}
use Rattle.law_repo_calls.proofs.Phases.{agreement}
use Rattle.law_repo_calls.proofs.Restarts.{stands_on}
use Rattle.law_repo_calls.specs.Seen.{StandsRight, phase_from, seen}
use Rattle.law_repo_calls.specs.Vouching.{WasKept}
use Rattle.law_repo_memory.specs.Agreeing.{HeldAgrees, trace_of}
use Rattle.law_repo_memory.specs.Running.{IsInAgreement, Repository}
use Rattle.law_repo_runs.specs.Standing.{MayBeNext, Stands}
use Rattle.log_entries.specs.declared.entry.Entry.{Entry}
use Rattle.repo_core.specs.Shown.{Shown}
use Rattle.repo_durable.specs.Saying.{ImagesSay}
use Rattle.repo_site.proofs.Writing.{first_so}
use Rattle.repo_site.specs.Run.{Run}
use Rattle.repo_site.specs.Sited.{Happens, IsLeftOf, IsRightTrace, StandsIn, recorded}
use Rattle.repo_trace.specs.Recorded.{Recorded}
use Rattle.repo_trace.specs.declared.trace.Trace.{Trace}
use Rattle.spec_history.specs.History.{Base, state}
use Rattle.spec_history.specs.Sound.{sound}
use Rattle.spec_trace.proofs.Traces.{entries-items}
use Rattle.spec_trace.specs.Calls.{is_forgotten}
use Rattle.spec_trace.specs.Exact.{exact}
use Rattle.spec_trace.specs.Trace.{entries, items}
use Rattle.spec_trace.specs.declared.kept_item.KeptItem.{KeptItem}
use Rattle.std.proofs.Common.{Bool, List, None, Option, arith, false, length, refl, subst, sym, true, ℕ, ◌+◌, ◌<◌, ◌∙◌, ◌≡◌, ◌≤◌}
use Rattle.std.specs.Option.{IfSome}
use Rattle.std.specs.Prelude.{not, ◌≢◌}
use Rattle.thor_value.specs.FiniteMap.{get, has}
use Rattle.thor_value.specs.declared.names.Ts.{Ts}
use Rattle.two_phase.specs.Contents.{keeps}

-- ---- behind an event

pub stays : (run : Run) (number repos : ℕ) (x y : Shown) → StandsIn run number repos x → Happens run (record { number = number; shown = x }) (record { number = number; shown = y }) → StandsIn run number repos y
stays run number repos x y k h = record { base = k.base; right = λ based. stands_on (run.base number) x y (k.right based) (h.does based) }

-- ---- what it says

pub is_sound : (run : Run) (number repos : ℕ) (x : Shown) → StandsIn run number repos x → run.based ≡ true → sound (run.base number) x.trace.history
is_sound run number repos x k based = (k.right based).right.recorded.sound

pub is_exact : (run : Run) (number repos : ℕ) (x : Shown) → StandsIn run number repos x → run.based ≡ true → exact (run.base number) (trace_of x.trace)
is_exact run number repos x k based = (k.right based).right.recorded.exact

pub has_begun : (run : Run) (number repos : ℕ) (x : Shown) → StandsIn run number repos x → run.based ≡ true → 0 < length x.trace.history
has_begun run number repos x k based = (k.right based).right.recorded.begun

-- what is left of it when it ends
pub closed : (run : Run) (number repos : ℕ) (x : Shown) (t : Trace) → StandsIn run number repos x → t.history ≡ x.trace.history → t.marks ≡ x.trace.marks → IsRightTrace run number t
closed run number repos x t k history marks = record {
  begun = λ based. subst (λ (H : List Entry). 0 < length H) (sym history) (has_begun run number repos x k based);
  sound = λ based. subst (λ (H : List Entry). sound (run.base number) H) (sym history) (is_sound run number repos x k based);
  exact = λ based.
      subst (λ (H : List Entry). exact (run.base number) (items H t.marks)) (sym history)
      (subst (λ (m : List KeptItem). exact (run.base number) (items x.trace.history m)) (sym marks) (is_exact run number repos x k based));
}

-- ---- and what its disks say then

-- whether it is up or down, what is held says what the history says, and what was being written may come next
may_come : (b : Base) (x : Repository) (up torn : Bool) (pending : Option Entry) → torn ≡ false → (up ≡ true → pending ≡ None) → Stands b x (phase_from up torn pending) → HeldAgrees b x.trace x.held x.memory.requested × IfSome pending (MayBeNext b x.trace x.held)
may_come b x true torn pending whole none stands = (stands.0.held, subst (λ (p : Option Entry). IfSome p (MayBeNext b x.trace x.held)) (sym (none refl)) tt)
may_come b x false false pending whole none stands = (stands.0, stands.2)
may_come b x false true pending whole none stands = absurd (let no : true ≡ false = whole in cc)

recorded_is : (r : Recorded) (t : Trace) → t.history ≡ r.history → t.marks ≡ r.marks → r ≡ recorded t
recorded_is r t history marks =
    subst (λ (H : List Entry). r ≡ record r { history = H; marks = t.marks }) (sym history)
    (subst (λ (m : List KeptItem). r ≡ record r { marks = m }) (sym marks) refl)

pub left : (run : Run) (number repos : ℕ) (x : Shown) (disks : Disks) (t : Trace) → StandsIn run number repos x → t.history ≡ x.trace.history → t.marks ≡ x.trace.marks
    → (x.is_torn ≡ false → ImagesSay disks x.held x.pending) → (x.is_up ≡ true → x.pending ≡ None) → x.is_torn ≡ false → IsLeftOf run number disks t
left run number repos x disks t k history marks says none whole = λ based.
    let b = run.base number in
    let stood = may_come b (seen x) x.is_up x.is_torn x.pending whole none (k.right based).right.stands in
    let same = recorded_is x.trace t history marks in
    record {
      held = x.held;
      pending = x.pending;
      requested = x.memory.requested;
      says = subst (λ (r : Recorded). HeldAgrees b r x.held x.memory.requested) same stood.0;
      next = subst (λ (r : Recorded). IfSome x.pending (MayBeNext b r x.held)) same stood.1;
      images = says whole;
    }

pub same_number : (b : Base) (x : Shown) → StandsRight b x → x.is_up ≡ true → x.held.repo ≡ b.repo
same_number b x k up = (agreement b x k up).held.repo

-- what another repository coordinates by its number it does by the base
pub elsewhere : (b : Base) (x : Shown) (t : Ts) → StandsRight b x → x.is_up ≡ true → t.repo ≢ x.held.repo → t.repo ≢ b.repo
elsewhere b x t k up other same = other (same ∙ sym (same_number b x k up))

behind_opening : (life opened t : ℕ) → opened ≡ life + 1 → opened ≤ t → life < t
behind_opening life opened t is l = omega (arith, is, l)

pub was_kept : (b : Base) (x : Shown) (t : Ts) → StandsRight b x → x.is_up ≡ true → keeps (get x.held.table.transactions t) ≡ true → x.opened_in ≤ t.life → WasKept b x t
was_kept b x t k up kept here =
    let a : IsInAgreement b (seen x) = agreement b x k up in
    subst (λ (H : List Entry). has (state b H).kept t ≡ true) (entries-items x.trace.history x.trace.marks a.held.owed.trace)
    (first_so (has (state b (entries (trace_of x.trace))).kept t) (not (is_forgotten (trace_of x.trace) t)) (sym (a.held.kept t (behind_opening b.life x.opened_in t.life k.opened here)) ∙ kept))
