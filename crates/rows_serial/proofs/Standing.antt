-- How the transactions of the run stand, and what holds of each of them.
use Rattle.law_atomic_commit.specs.Several.{Alike, AreAlike, AreSound, IsAtomic, part}
use Rattle.log_entries.specs.declared.request.Request.{Request}
use Rattle.spec_history.proofs.Decided.{decides_sound}
use Rattle.spec_history.specs.History.{Aborted, Base, Committed, IsCommitted, Known, State, or_lost, state}
use Rattle.spec_history.specs.Participants.{takes_part}
use Rattle.spec_history.specs.Sound.{sound}
use Rattle.rows_serial.specs.Rows.{added, added_there, asked, at, away, base_of, brought_there, home, installed, run}
use Rattle.std.proofs.Common.{Bool, List, [], arith, false, inl, inr, refl, subst, suc, sym, true, zero, ℕ, ◌≡◌, ◌≤◌, ◌∷◌}
use Rattle.std.proofs.lemmas.Bool.{eqb-true}
use Rattle.std.proofs.lemmas.Map.Views.{tells_apart}
use Rattle.std.proofs.lemmas.Option.{same_Some}
use Rattle.std.specs.BTreeMap.{is_at}
use Rattle.std.specs.List.{AllByRecursion, list_any}
use Rattle.std.specs.Map.{lookup}
use Rattle.std.specs.Option.{option_map}
use Rattle.std.specs.Prelude.{Some, cond, nat_eq, ◌||◌, ◌⊎◌}
use Rattle.thor_value.proofs.NameOrders.{ts_exact}
use Rattle.thor_value.specs.Names.{same_ts, ts_cmp}
use Rattle.thor_value.specs.declared.names.Ts.{Ts}

-- ---- who stands

abbrev stands : ℕ → Request → ℕ → Known
stands place request commit = record { place = place; request = request; fate = Committed commit }

abbrev pub added_known : Known
added_known = stands 1 added 2

abbrev pub installed_known : Known
installed_known = stands 3 (installed (1 ∷ [])) 4

abbrev pub brought_known : Known
brought_known = stands 5 brought_there 5

abbrev pub asked_known : Known
asked_known = stands 6 asked 6

abbrev pub added_away : Known
added_away = stands 1 added_there 2

abbrev pub installed_away : Known
installed_away = stands 3 (installed (0 ∷ [])) 4

found : (b : Base) (Z : State) (Q : Ts → Known → Type 0) (es : List (Ts × Known)) → AllByRecursion (λ e. Q e.0 (or_lost b Z e.0 e.1)) es
    → (t : Ts) (w : Known) → option_map (or_lost b Z t) (lookup (is_at (ts_cmp t)) es) ≡ Some w → Q t w
found b Z Q [] all t w h = cc
found b Z Q (e ∷ es) all t w h = by (same_ts t e.0) refl h (λ k. found b Z Q es all.1 t w k)
  where
    by : (k : Bool) → same_ts t e.0 ≡ k → option_map (or_lost b Z t) (cond k (Some e.1) (lookup (is_at (ts_cmp t)) es)) ≡ Some w
        → (option_map (or_lost b Z t) (lookup (is_at (ts_cmp t)) es) ≡ Some w → Q t w) → Q t w
    by true is g rest =
        let one : or_lost b Z t e.1 ≡ w = same_Some (or_lost b Z t e.1) w g in
        subst (Q t) one (subst (λ (u : Ts). Q u (or_lost b Z u e.1)) (sym (tells_apart ts_exact t e.0 is)) all.0)
    by false is g rest = rest g

-- what holds of each of the six requests holds of all that stand
pub each : (Q : ℕ → Ts → Known → Type 0) → Q 0 (at 1) added_known → Q 0 (at 2) installed_known → Q 0 (at 3) brought_known → Q 0 (at 4) asked_known
    → Q 1 (at 1) added_away → Q 1 (at 2) installed_away → (r : ℕ) (t : Ts) (w : Known) → part run r t ≡ Some w → Q r t w
each Q q1 q2 q3 q4 p1 p2 zero t w is = found (base_of 0) (state (base_of 0) home) (Q 0) (state (base_of 0) home).known.pairs (q1, (q2, (q3, (q4, tt)))) t w is
each Q q1 q2 q3 q4 p1 p2 (suc zero) t w is = found (base_of 1) (state (base_of 1) away) (Q 1) (state (base_of 1) away).known.pairs (p1, (p2, tt)) t w is
each Q q1 q2 q3 q4 p1 p2 (suc (suc n)) t w is = cc

-- ---- sound

pub are_sound : AreSound run
are_sound = record { each = sound_at; numbered = λ r l. refl; counted = λ r l. refl; outside = outside }
  where
    sound_at : (r : ℕ) → sound (run.base r) (run.history r)
    sound_at zero = (decides_sound (base_of 0) home).0 refl
    sound_at (suc zero) = (decides_sound (base_of 1) away).0 refl
    sound_at (suc (suc n)) = tt

    outside : (r : ℕ) → 2 ≤ r → run.history r ≡ []
    outside zero l = absurd (omega (arith, l))
    outside (suc zero) l = absurd (omega (arith, l))
    outside (suc (suc n)) l = refl

-- ---- atomic

of-two : (r : ℕ) → list_any (nat_eq r) (0 ∷ 1 ∷ []) ≡ true → (r ≡ 0) ⊎ (r ≡ 1)
of-two r h = by (nat_eq r 0) refl (nat_eq r 1) refl h
  where
    by : (x : Bool) → nat_eq r 0 ≡ x → (y : Bool) → nat_eq r 1 ≡ y → (x || (y || false)) ≡ true → (r ≡ 0) ⊎ (r ≡ 1)
    by true is y it k = inl (eqb-true r 0 is)
    by false is true it k = inr (eqb-true r 1 it)
    by false is false it k = cc

of-one : (r : ℕ) → list_any (nat_eq r) (0 ∷ []) ≡ true → r ≡ 0
of-one r h = by (nat_eq r 0) refl h
  where
    by : (x : Bool) → nat_eq r 0 ≡ x → (x || false) ≡ true → r ≡ 0
    by true is k = eqb-true r 0 is
    by false is k = cc

-- the coordinator's request is the one that stands there
one : (v w : Known) (P : Known → Type 0) → Some v ≡ Some w → P v → P w
one v w P is k = subst P (same_Some v w is) k

pub is_atomic : IsAtomic run
is_atomic = record {
  known = each (λ r t w. (v : Known) × (part run t.repo t ≡ Some v)) (added_known, refl) (installed_known, refl) (brought_known, refl) (asked_known, refl) (added_known, refl) (installed_known, refl);
  everywhere = λ r t w h takes. each (λ n u v. (n ≡ u.repo) → takes_part u.repo v.request r ≡ true → (k : Known) × (part run r u ≡ Some k))
      (λ same k. both_added r k) (λ same k. both_installed r k) (λ same k. alone_brought r k) (λ same k. alone_asked r k) (λ wrong. cc) (λ wrong. cc) t.repo t w h.there refl takes;
  agreed = λ r t w v is c it. each (λ n u x. IsCommitted x.fate → (y : Known) → part run u.repo u ≡ Some y → IsCommitted y.fate)
      (λ c y k. one added_known y (λ (z : Known). IsCommitted z.fate) k tt) (λ c y k. one installed_known y (λ (z : Known). IsCommitted z.fate) k tt)
      (λ c y k. one brought_known y (λ (z : Known). IsCommitted z.fate) k tt) (λ c y k. one asked_known y (λ (z : Known). IsCommitted z.fate) k tt)
      (λ c y k. one added_known y (λ (z : Known). IsCommitted z.fate) k tt) (λ c y k. one installed_known y (λ (z : Known). IsCommitted z.fate) k tt)
      r t w is c v it;
  given_up = λ r t w v is a it. absurd (each (λ n u x. x.fate ≡ Aborted → ⊥) (λ e. cc) (λ e. cc) (λ e. cc) (λ e. cc) (λ e. cc) (λ e. cc) r t w is a);
}
  where
    both_added : (r : ℕ) → takes_part 0 added r ≡ true → (k : Known) × (part run r (at 1) ≡ Some k)
    both_added r k = elim (of-two r k) [
      | inl e ↦ subst (λ n. (v : Known) × (part run n (at 1) ≡ Some v)) (sym e) (added_known, refl)
      | inr e ↦ subst (λ n. (v : Known) × (part run n (at 1) ≡ Some v)) (sym e) (added_away, refl)
    ]

    both_installed : (r : ℕ) → takes_part 0 (installed (1 ∷ [])) r ≡ true → (k : Known) × (part run r (at 2) ≡ Some k)
    both_installed r k = elim (of-two r k) [
      | inl e ↦ subst (λ n. (v : Known) × (part run n (at 2) ≡ Some v)) (sym e) (installed_known, refl)
      | inr e ↦ subst (λ n. (v : Known) × (part run n (at 2) ≡ Some v)) (sym e) (installed_away, refl)
    ]

    alone_brought : (r : ℕ) → takes_part 0 brought_there r ≡ true → (k : Known) × (part run r (at 3) ≡ Some k)
    alone_brought r k = subst (λ n. (v : Known) × (part run n (at 3) ≡ Some v)) (sym (of-one r k)) (brought_known, refl)

    alone_asked : (r : ℕ) → takes_part 0 asked r ≡ true → (k : Known) × (part run r (at 4) ≡ Some k)
    alone_asked r k = subst (λ n. (v : Known) × (part run n (at 4) ≡ Some v)) (sym (of-one r k)) (asked_known, refl)

-- ---- alike

itself : (r : ℕ) (q : Request) → AreAlike r q r q
itself r q = record { who = refl; kind = refl; fresh = refl; answer = refl; participants = λ m. refl }

turned : (q w : Request) → q.who ≡ w.who → q.kind ≡ w.kind → q.fresh ≡ w.fresh → q.answer ≡ w.answer → q.others ≡ 0 ∷ [] → w.others ≡ 1 ∷ [] → AreAlike 1 q 0 w
turned q w who kind fresh answer here there = record { who = who; kind = kind; fresh = fresh; answer = answer; participants = same }
  where
    swap : (x y : Bool) → (x || (y || false)) ≡ (y || (x || false))
    swap true true = refl
    swap true false = refl
    swap false true = refl
    swap false false = refl

    swapped : (m : ℕ) → list_any (nat_eq m) (1 ∷ 0 ∷ []) ≡ list_any (nat_eq m) (0 ∷ 1 ∷ [])
    swapped m = swap (nat_eq m 1) (nat_eq m 0)

    same : (m : ℕ) → takes_part 1 q m ≡ takes_part 0 w m
    same m = subst (λ ns. list_any (nat_eq m) (1 ∷ ns) ≡ takes_part 0 w m) (sym here)
        (subst (λ ns. list_any (nat_eq m) (1 ∷ 0 ∷ []) ≡ list_any (nat_eq m) (0 ∷ ns)) (sym there) (swapped m))

pub are_alike : Alike run
are_alike r t w v is it = each (λ n u x. (y : Known) → part run u.repo u ≡ Some y → AreAlike n x.request u.repo y.request)
    (λ y k. one added_known y (λ (z : Known). AreAlike 0 added 0 z.request) k (itself 0 added))
    (λ y k. one installed_known y (λ (z : Known). AreAlike 0 (installed (1 ∷ [])) 0 z.request) k (itself 0 (installed (1 ∷ []))))
    (λ y k. one brought_known y (λ (z : Known). AreAlike 0 brought_there 0 z.request) k (itself 0 brought_there))
    (λ y k. one asked_known y (λ (z : Known). AreAlike 0 asked 0 z.request) k (itself 0 asked))
    (λ y k. one added_known y (λ (z : Known). AreAlike 1 added_there 0 z.request) k (turned added_there added refl refl refl refl refl refl))
    (λ y k. one installed_known y (λ (z : Known). AreAlike 1 (installed (0 ∷ [])) 0 z.request) k (turned (installed (0 ∷ [])) (installed (1 ∷ [])) refl refl refl refl refl refl))
    r t w is v it
