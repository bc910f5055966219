-- In the history of a store's only repository nothing is ever prepared: all that stands there has committed.
use Rattle.law_atomic_commit.specs.Several.{is_committed_part}
use Rattle.law_cache_coherence.proofs.AtOnce.{commits_at_once}
use Rattle.law_cache_coherence.specs.Fitting.{AgreesStanding}
use Rattle.law_cache_coherence.specs.Seen.{IsSeenRight}
use Rattle.law_cache_coherence.specs.Steps.{AllSeenRight}
use Rattle.log_entries.specs.declared.entry.Entry.TheVariants.{Decided, Finished, Life, One, Prepared, Upgraded}
use Rattle.log_entries.specs.declared.entry.Entry.{Entry}
use Rattle.log_entries.specs.declared.request.Request.{Request}
use Rattle.law_client_steps.specs.OneRepository.{HasOneRepository, committed_there}
use Rattle.spec_history.proofs.Growth.{by_growth}
use Rattle.spec_history.proofs.Places.{came_end, stays}
use Rattle.spec_history.proofs.Steps.{FateMoves}
use Rattle.spec_history.specs.Checking.{is_committed}
use Rattle.spec_history.specs.History.{Aborted, Base, Committed, Fate, IsCommitted, Known, Lives, Open, State, commit_of, known_by, state}
use Rattle.spec_history.specs.Laws.{Asks, FateStays}
use Rattle.spec_history.specs.Participants.{HasParticipants}
use Rattle.spec_history.specs.Sound.{owes, sound}
use Rattle.client_port.specs.Views.{View}
use Rattle.spec_trace.specs.Trace.{entries}
use Rattle.std.proofs.Common.{List, [], ap, arith, inl, inr, refl, subst, sym, true, ◌++◌, ◌∙◌, ◌∷◌, ◌≡◌, ◌≢◌, ℕ}
use Rattle.std.specs.List.{AllByRecursion}
use Rattle.std.specs.Prelude.{None, Option, Some, length, ◌<◌}
use Rattle.thor_value.specs.declared.names.Ts.{Ts}

committed_so : (f : Fate) (n : ℕ) → f ≡ Committed n → IsCommitted f
committed_so f n e = subst IsCommitted (sym e) tt

committed_on : (cs : List (ℕ × Request)) (n : ℕ) (q : Request) (f g : Fate) → FateMoves cs n q f g → IsCommitted f → IsCommitted g
committed_on cs n q Open g m h = absurd h
committed_on cs n q (Committed a) Open m h = absurd m
committed_on cs n q (Committed a) (Committed at) m h = tt
committed_on cs n q (Committed a) Aborted m h = absurd m
committed_on cs n q Aborted g m h = absurd h

committed_later : (f g : Fate) → FateStays f g → IsCommitted f → IsCommitted g
committed_later Open g m h = absurd h
committed_later (Committed a) Open m h = absurd m
committed_later (Committed a) (Committed at) m h = tt
committed_later (Committed a) Aborted m h = absurd m
committed_later Aborted g m h = absurd h

lives : (f : Fate) → IsCommitted f → Lives f
lives Open h = absurd h
lives (Committed a) h = tt
lives Aborted h = absurd h

never_open : (f : Fate) → IsCommitted f → f ≡ Open → ⊥
never_open Open h e = h
never_open (Committed a) h e = cc
never_open Aborted h e = absurd h

tested : (f : Fate) → IsCommitted f → is_committed f ≡ true
tested Open h = absurd h
tested (Committed a) h = refl
tested Aborted h = absurd h

by_test : (f : Fate) → is_committed f ≡ true → IsCommitted f
by_test Open e = cc
by_test (Committed a) e = tt
by_test Aborted e = cc

by_part : (o : Option Known) → is_committed_part o ≡ true → (w : Known) × (o ≡ Some w) × IsCommitted w.fate
by_part None e = cc
by_part (Some w) e = (w, refl, by_test w.fate e)

-- what has committed still has where the history has grown
pub still_committed : (b : Base) (H more : List Entry) → sound b (H ++ more) → (t : Ts) → is_committed_part (known_by b H t) ≡ true → is_committed_part (known_by b (H ++ more) t) ≡ true
still_committed b H more s t e =
    let o = by_part (known_by b H t) e in
    let w = stays b H more s t o.0 o.1 in
    ap is_committed_part w.1 ∙ tested w.0.fate (committed_later o.0.fate w.0.fate w.2.fate o.2)

module _ (b : Base) (one : b.repos ≡ 1) (first : b.repo ≡ 0) where
  -- a request has no other participant
  pub alone : (q : Request) → HasParticipants b q → q.others ≡ []
  alone q h = by q.others h.others
    where
      none : (n : ℕ) → n < 1 → n ≡ 0
      none n l = omega arith

      by : (ns : List ℕ) → AllByRecursion (λ n. (n < b.repos) × (n ≢ b.repo)) ns → ns ≡ []
      by [] a = refl
      by (n ∷ ns) a = absurd (a.0.1 (none n (subst (λ (k : ℕ). n < k) one a.0.0) ∙ sym first))

  -- an entry that prepares a transaction isn't owed
  pub never_prepared : (S : State) (q : Request) → owes b S (Prepared q) → ⊥
  never_prepared S q o = o.1 (alone q o.0.vouched.participants)

  -- a request that commits at its own entry
  single : (H : List Entry) (e : Entry) (q : Request) → sound b H → commit_of b (state b H) e ≡ ((state b H).length, q) ∷ [] → (t : Ts) (w : Known) → known_by b (H ++ e ∷ []) t ≡ Some w → q ≡ w.request → w.request.tx ≡ t → IsCommitted w.fate
  single H e q s commits t w is same named = committed_so w.fate (state b H).length (commits_at_once b H e q s commits t w is (ap (λ (r : Request). r.tx) same ∙ named))

  entered : (H : List Entry) (e : Entry) → sound b H → owes b (state b H) e → (t : Ts) (w : Known) → known_by b (H ++ e ∷ []) t ≡ Some w → Asks e w.request → w.request.tx ≡ t → IsCommitted w.fate
  entered H (Life n) s ow t w is asks named = absurd asks
  entered H (One q) s ow t w is asks named = single H (One q) q s refl t w is asks named
  entered H (Prepared q) s ow t w is asks named = absurd (never_prepared (state b H) q ow)
  entered H (Decided u c) s ow t w is asks named = absurd asks
  entered H (Finished u c) s ow t w is asks named = absurd asks
  entered H (Upgraded q) s ow t w is asks named = single H (Upgraded q) q s refl t w is asks named

  -- all that stands has committed
  pub all_committed : (H : List Entry) → sound b H → (t : Ts) (o : Known) → known_by b H t ≡ Some o → IsCommitted o.fate
  all_committed = by_growth b (λ H. (t : Ts) (o : Known) → known_by b H t ≡ Some o → IsCommitted o.fate) (λ t o is. cc) (λ H e s before ow t w is. elim (came_end b H e s ow t w is) [
    | inl new ↦ entered H e s ow t w is new.1.0 new.1.1
    | inr old ↦ committed_on (commit_of b (state b H) e) (length H) old.0.request old.0.fate w.fate old.2.2 (before t old.0 old.1)
  ])

  -- nothing is undecided
  pub none_open : (H : List Entry) → sound b H → (t : Ts) (o : Known) → known_by b H t ≡ Some o → o.fate ≡ Open → ⊥
  none_open H s t o is e = never_open o.fate (all_committed H s t o is) e

-- ---- a port

module _ (port : View) (h : HasOneRepository port) where
  agrees : (s : ℕ) → AgreesStanding (port.opened.base 0) (port.unsettled 0) (port.seen 0) s (committed_there port)
  agrees s = record {
    kept = λ t w is done. lives w.fate (all_committed (port.opened.base 0) h.counted h.numbered (entries (port.seen 0)) h.owed t w is);
    led = λ calm live t o is own done. ap is_committed_part is ∙ tested o.fate done;
  }

  here : IsSeenRight port 0 (committed_there port)
  here = record { numbered = h.numbered; owed = h.owed; kept = h.kept; agrees = agrees }

  only : (r : ℕ) → r < port.opened.repos → r ≡ 0
  only r within = low r (subst (λ (n : ℕ). r < n) h.one within)
    where
      low : (n : ℕ) → n < 1 → n ≡ 0
      low n l = omega arith

  -- what is seen is right
  pub all_right : AllSeenRight port (committed_there port)
  all_right = record { each = λ r within. subst (λ (n : ℕ). IsSeenRight port n (committed_there port)) (sym (only r within)) here }

  -- what holds of the only repository holds of each
  pub of_each : (P : ℕ → Type 0) → P 0 → (r : ℕ) → r < port.opened.repos → P r
  of_each P p r within = subst P (sym (only r within)) p
