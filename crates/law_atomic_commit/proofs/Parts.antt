-- What holds of the parts of a transaction.
use Rattle.law_atomic_commit.specs.Several.{AllParts, AreSound, CoordinatorsAreLeast, HasCommitted, IsAtomic, Several, UpgradesAreEverywhere, committed, is_committed_part, part}
use Rattle.log_entries.specs.declared.entry.Entry.{Entry}
use Rattle.spec_trace.proofs.Outlived.{none-aborted-back}
use Rattle.spec_history.proofs.Prefixes.{fits, judged}
use Rattle.spec_history.proofs.Vouched.{upgrades}
use Rattle.spec_history.specs.Checking.{is_committed}
use Rattle.spec_trace.specs.Current.{NoneAborted}
use Rattle.spec_history.specs.History.{Aborted, Committed, Fate, IsCommitted, Lives, Open, Known, known_by}
use Rattle.spec_history.specs.Participants.{takes_part}
use Rattle.spec_history.specs.Sound.{sound}
use Rattle.std.proofs.Common.{Bool, List, [], ap, false, inl, inr, refl, subst, sym, true, ℕ, ◌++◌, ◌<◌, ◌≡◌, ◌≤◌, ◌∙◌, ◌∷◌}
use Rattle.std.proofs.lemmas.Bool.{eqb-true, cases_lt}
use Rattle.std.specs.List.{AllByRecursion, list_any}
use Rattle.std.specs.Prelude.{None, Option, Some, nat_eq, ◌||◌, ◌⊎◌}
use Rattle.thor_value.specs.declared.names.Ts.{Ts}

pub some-none : {A : Type 0} (x : Known) → ◌≡◌ {A = Option Known} None (Some x) → A
some-none x e = cc

lives_or : (f : Fate) → (f ≡ Aborted → ⊥) → Lives f
lives_or Open h = tt
lives_or (Committed at) h = tt
lives_or Aborted h = h refl

pub not_both : (f : Fate) → IsCommitted f → f ≡ Aborted → ⊥
not_both Open c e = c
not_both (Committed at) c e = cc
not_both Aborted c e = c

committed_is : (f : Fate) → is_committed f ≡ true → IsCommitted f
committed_is Open e = cc
committed_is (Committed at) e = tt
committed_is Aborted e = cc

pub is_committed-from : (f : Fate) → IsCommitted f → is_committed f ≡ true
is_committed-from Open c = absurd c
is_committed-from (Committed at) c = refl
is_committed-from Aborted c = absurd c

-- the test finds what has committed
pub has-committed : (S : Several) (t : Ts) → committed S t ≡ true → (w : Known) × HasCommitted S t w
has-committed S t e = by (part S t.repo t) refl e
  where
    by : (o : Option Known) → part S t.repo t ≡ o → is_committed_part o ≡ true → (w : Known) × HasCommitted S t w
    by None is k = cc
    by (Some w) is k = (w, record { there = is; commits = committed_is w.fate k })

pub committed-from : (S : Several) (t : Ts) (w : Known) → HasCommitted S t w → committed S t ≡ true
committed-from S t w h = ap is_committed_part h.there ∙ is_committed-from w.fate h.commits

module _ (S : Several) (at : IsAtomic S) where
  -- a part of what committed isn't aborted
  pub part_lives : (r : ℕ) (t : Ts) (w o : Known) → HasCommitted S t w → part S r t ≡ Some o → Lives o.fate
  part_lives r t w o h is = lives_or o.fate (λ e. not_both w.fate h.commits (at.given_up r t o w is e h.there))

  pub all_parts : AllParts S
  all_parts r t w h takes =
      let k = at.everywhere r t w h takes in
      (k.0, k.1, part_lives r t w k.0 h k.1)

  -- what has committed is aborted nowhere, at no prefix of any history
  pub none_aborted : (r : ℕ) → NoneAborted (S.base r) (S.history r) (committed S)
  none_aborted r t o is c = let h = has-committed S t c in part_lives r t h.0 o h.1 is

  pub none_aborted_before : AreSound S → (r : ℕ) (H more : List Entry) → S.history r ≡ H ++ more → NoneAborted (S.base r) H (committed S)
  none_aborted_before sd r H more is =
      none-aborted-back (S.base r) H more (committed S) (subst (sound (S.base r)) is (sd.each r)) (subst (λ (G : List Entry). NoneAborted (S.base r) G (committed S)) is (none_aborted r))

module _ (S : Several) (sd : AreSound S) where
  -- where something stands there is a repository
  pub there : (r : ℕ) (t : Ts) (o : Known) → part S r t ≡ Some o → r < S.repos
  there r t o is = elim (cases_lt r S.repos) [
    | inl l ↦ l
    | inr l ↦ some-none o (subst (λ (H : List Entry). known_by (S.base r) H t ≡ Some o) (sd.outside r l) is)
  ]

  any_at : (P : ℕ → Type 0) (ns : List ℕ) (n : ℕ) → AllByRecursion P ns → list_any (nat_eq n) ns ≡ true → P n
  any_at P [] n a h = cc
  any_at P (m ∷ ns) n a h = by (nat_eq n m) refl h (any_at P ns n a.1)
    where
      by : (x : Bool) → nat_eq n m ≡ x → (x || list_any (nat_eq n) ns) ≡ true → (list_any (nat_eq n) ns ≡ true → P n) → P n
      by true e k rest = subst P (sym (eqb-true n m e)) a.0
      by false e k rest = rest k

  pub coordinators_are_least : CoordinatorsAreLeast S
  coordinators_are_least t w is n takes =
      let v = (judged (S.base t.repo) (S.history t.repo) (sd.each t.repo) t w is).vouched in
      let own : (S.base t.repo).repo ≡ t.repo = sd.numbered t.repo (there t.repo t w is) in
      let named : w.request.tx ≡ t = (fits (S.base t.repo) (S.history t.repo) (sd.each t.repo) t w is).named in
      let low : w.request.tx.repo ≤ n = any_at (λ m. w.request.tx.repo ≤ m) ((S.base t.repo).repo ∷ w.request.others) n v.participants.least (subst (λ r. takes_part r w.request n ≡ true) (sym own) takes) in
      subst (λ (u : Ts). u.repo ≤ n) named low

  pub upgrades_are_everywhere : UpgradesAreEverywhere S
  upgrades_are_everywhere r t o is up n l =
      let k : r < S.repos = there r t o is in
      let own : (S.base r).repo ≡ r = sd.numbered r k in
      let many : (S.base r).repos ≡ S.repos = sd.counted r k in
      subst (λ m. takes_part m o.request n ≡ true) own ((upgrades (S.base r) (S.history r) (sd.each r)).wide t o n is up (subst (λ m. n < m) (sym many) l))
