-- That the sessions of a client's links stay quiet behind its steps, and that what is quiet and handed on is settled.
use Rattle.law_atomic_commit.specs.Several.{committed}
use Rattle.law_cache_coherence.proofs.Beginning.{doomed_uncommitted, joined_quiet}
use Rattle.law_cache_coherence.proofs.Leaving.{SeenRight, seen_right}
use Rattle.law_cache_coherence.proofs.Quiet.{grown_back, grown_client, stays_quiet}
use Rattle.law_cache_coherence.proofs.Uncommitted.{grown_on}
use Rattle.law_cache_coherence.specs.Doomed.{ActsWithin, IsDoomed, IsQuiet}
use Rattle.law_cache_coherence.specs.Steps.{AllSeenRight}
use Rattle.client_state.specs.Calling.{is_session_of}
use Rattle.client_state.specs.Moving.{Moves}
use Rattle.client_state.specs.declared.held.Held.{Held}
use Rattle.client_state.specs.declared.link.Link.{Link}
use Rattle.law_client_steps.proofs.Losing.{From, IsGiven, WasIts, steps}
use Rattle.law_client_steps.specs.Acting.{acts_of}
use Rattle.law_client_steps.specs.Owed.{SettledOwed}
use Rattle.law_client_steps.specs.Quiet.{AreQuiet, IsHandedOn}
use Rattle.spec_history.proofs.Listed.{recorded}
use Rattle.spec_history.specs.History.{Known, Open, known_by}
use Rattle.session_outbox.specs.declared.answers.Welcome.{Welcome}
use Rattle.client_port.specs.Growing.{Grew}
use Rattle.client_port.specs.Views.{Calm, Opened, View}
use Rattle.client_port.specs.Works.{ConnectWork, Does, is_prepared_by}
use Rattle.law_client_views.specs.Conditions.{seen_histories}
use Rattle.spec_trace.specs.Notices.{lives}
use Rattle.spec_trace.specs.Session.{session}
use Rattle.spec_trace.specs.Trace.{entries}
use Rattle.std.proofs.Common.{Bool, List, ap, arith, false, inl, inr, refl, subst, sym, true, ◌∙◌, ◌≡◌, ℕ}
use Rattle.std.proofs.lemmas.Bool.Decides.{nat_tests}
use Rattle.std.specs.List.{slice_get}
use Rattle.std.specs.Prelude.{Ok, Some, nat_eq, ◌&&◌, ◌<◌, ◌≤◌, ◌⊎◌}
use Rattle.thor_value.specs.declared.names.Ts.{Ts}

-- ---- what is running

-- an undecided transaction of the session is prepared by it
prepared_so : (s : ℕ) (o : Known) → o.fate ≡ Open → o.request.session ≡ s → is_prepared_by s (Some o) ≡ true
prepared_so s o open' mine = rw (mine, open') (itself s)
  where
    itself : (n : ℕ) → (nat_eq n n && true) ≡ true
    itself n = grind (arith, nat_tests)

-- what runs no more and is handed on needn't be counted
changes_running : (port : View) (r s : ℕ) (running next : Ts → Bool) → (port.unsettled r ≡ Calm → lives (session (port.opened.base r) (port.seen r) s) ≡ true → (t : Ts) → running t ≡ true → (next t ≡ true) ⊎ (is_prepared_by s (known_by (port.opened.base r) (entries (port.seen r)) t) ≡ false)) → IsQuiet port r s running → IsQuiet port r s next
changes_running port r s running next goes q = record {
  own = q.own;
  doomed = λ calm live t o there open' mine none. by calm live t o there open' mine none (running t) refl;
}
  where
    by : port.unsettled r ≡ Calm → lives (session (port.opened.base r) (port.seen r) s) ≡ true → (t : Ts) (o : Known) → known_by (port.opened.base r) (entries (port.seen r)) t ≡ Some o → o.fate ≡ Open → o.request.session ≡ s → next t ≡ false
        → (x : Bool) → running t ≡ x → IsDoomed port t
    by calm live t o there open' mine none false e = q.doomed calm live t o there open' mine e
    by calm live t o there open' mine none true e = elim (goes calm live t e) [
      | inl still ↦ let f : false ≡ true = sym none ∙ still in cc
      | inr handed ↦ let f : false ≡ true = sym handed ∙ ap (is_prepared_by s) there ∙ prepared_so s o open' mine in cc
    ]

pub changes_all : (port : View) (links : List Link) (running next : Ts → Bool)
    → ((r s : ℕ) → r < port.opened.repos → is_session_of s (slice_get links r) ≡ true → port.unsettled r ≡ Calm → lives (session (port.opened.base r) (port.seen r) s) ≡ true → (t : Ts) → running t ≡ true → (next t ≡ true) ⊎ (is_prepared_by s (known_by (port.opened.base r) (entries (port.seen r)) t) ≡ false))
    → AreQuiet port links running → AreQuiet port links next
changes_all port links running next goes q = record { each = λ r s within its. changes_running port r s running next (goes r s within its) (q.each r s within its) }

-- ---- a step

up : (n r k : ℕ) → n ≤ r → r < k → n < k
up n r k p q = omega arith

counts_more : (port : View) (r s : ℕ) (running : Ts → Bool) → IsQuiet port r s (λ t. false) → IsQuiet port r s running
counts_more port r s running q = record { own = q.own; doomed = λ calm live t o there open' mine none. q.doomed calm live t o there open' mine refl }

module _ (old new : View) (before after : Held) (running known : Ts → Bool) (moves : Moves old new before after) (within : ActsWithin old new (acts_of old new before after moves) running) (seen : AllSeenRight new known)
    (own : before.client ≡ old.opened.client) (same : new.opened ≡ old.opened) where
  now : (r : ℕ) → r < old.opened.repos → r < new.opened.repos
  now r inside = subst (λ (o : Opened). r < o.repos) (sym same) inside

  pub from_quiet : (r s : ℕ) → r < old.opened.repos → AreQuiet old before.links.items running → From s old new before r → IsQuiet new r s running
  from_quiet r s inside q (WasIts e) = stays_quiet old new r s running known (λ n low. seen.each n (up n r new.opened.repos low (now r inside))) (acts_of old new before after moves) within (q.each r s inside e)
  from_quiet r s inside q (IsGiven w d e) =
      counts_more new r s running (subst (λ (n : ℕ). IsQuiet new r n (λ t. false)) e (joined_quiet old new r w known (subst (λ (c : ℕ). Does {X = Welcome} old new r (Ok w) (ConnectWork c (Ok w))) own d) (seen.each r (now r inside))))

  pub stay_quiet : AreQuiet old before.links.items running → AreQuiet new after.links.items running
  stay_quiet q = record { each = λ r s inside its. from_quiet r s (subst (λ (o : Opened). r < o.repos) same inside) q (steps s old new before after r its moves) }

-- ---- what others do

module _ (old new : View) (known : Ts → Bool) (same : new.opened ≡ old.opened) (grew : (n : ℕ) → n < old.opened.repos → Grew (old.opened.base n) old.opened.client (old.unsettled n) (old.seen n) (new.unsettled n) (new.seen n)) (seen : AllSeenRight new known) where
  right : (n : ℕ) → n < old.opened.repos → SeenRight old new n
  right n inside = seen_right old new n known same (seen.each n (subst (λ (o : Opened). n < o.repos) (sym same) inside))

  -- the coordinator of what is known isn't above the repository
  coordinated : (r : ℕ) (inside : r < old.opened.repos) (t : Ts) (o : Known) → known_by (old.opened.base r) (entries (new.seen r)) t ≡ Some o → t.repo < old.opened.repos
  coordinated r inside t o there =
      let k = recorded (old.opened.base r) (entries (new.seen r)) (right r inside).owed t o there in
      up t.repo r old.opened.repos (subst (λ (n : ℕ). t.repo ≤ n) (right r inside).numbered (subst (λ (u : Ts). u.repo ≤ (old.opened.base r).repo) k.named k.judged.vouched.participants.least.0)) inside

  grown_quiet : (r s : ℕ) (running : Ts → Bool) → r < old.opened.repos → IsQuiet old r s running → IsQuiet new r s running
  grown_quiet r s running inside q = subst (λ (o : Opened). IsQuiet (record new { opened = o }) r s running) (sym same) (record {
    own = grown_client old.opened.client (old.opened.base r) s (old.seen r) (new.seen r) (old.unsettled r) (new.unsettled r) (grew r inside) (right r inside).kept q.own;
    doomed = λ calm live t o there open' mine none.
        let low : t.repo < old.opened.repos = coordinated r inside t o there in
        let was = grown_back old.opened.client (old.opened.base r) s (old.seen r) (new.seen r) (old.unsettled r) (new.unsettled r) t (grew r inside) (right r inside).kept (right r inside).owed q.own (calm, live, record { o = o; there = there; open' = open'; own = mine }) in
        grown_on old.opened.client (old.opened.base t.repo) (old.unsettled t.repo) (new.unsettled t.repo) (old.seen t.repo) (new.seen t.repo) t (grew t.repo low) (right t.repo low).kept (right t.repo low).owed (sym (right t.repo low).numbered)
        (q.doomed was.0 was.1 t was.2.o was.2.there was.2.open' was.2.own none);
  })

  pub waits_quiet : (links : List Link) (running : Ts → Bool) → AreQuiet old links running → AreQuiet new links running
  waits_quiet links running q = record { each = λ r s inside its. let was : r < old.opened.repos = subst (λ (o : Opened). r < o.repos) same inside in grown_quiet r s running was (q.each r s was its) }

-- ---- before a fetch

-- Where what is running is handed on, and only what is seen to have committed is told, nothing is left to finish.
pub settles : (port : View) (r s : ℕ) (running told : Ts → Bool) → IsQuiet port r s running → IsHandedOn (port.opened.base r) (entries (port.seen r)) s running → ((t : Ts) → told t ≡ true → committed (seen_histories port) t ≡ true) → SettledOwed port r (port.seen r) s told
settles port r s running told q handed seen inside calm live = λ t o there open' mine. by t o there open' mine (told t) refl
  where
    undecided : (t : Ts) (o : Known) → known_by (port.opened.base r) (entries (port.seen r)) t ≡ Some o → o.fate ≡ Open → o.request.session ≡ s → (x : Bool) → running t ≡ x → x ≡ false
    undecided t o there open' mine true e = let f : false ≡ true = sym (handed t e) ∙ ap (is_prepared_by s) there ∙ prepared_so s o open' mine in cc
    undecided t o there open' mine false e = refl

    by : (t : Ts) (o : Known) → known_by (port.opened.base r) (entries (port.seen r)) t ≡ Some o → o.fate ≡ Open → o.request.session ≡ s → (x : Bool) → told t ≡ x → x ≡ false
    by t o there open' mine false e = refl
    by t o there open' mine true e =
        let none : running t ≡ false = undecided t o there open' mine (running t) refl in
        let f : false ≡ true = sym (doomed_uncommitted port t (q.doomed calm live t o there open' mine none)) ∙ seen t e in cc
