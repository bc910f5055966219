-- What one entry does to one transaction that stands, and which entry ends it.
use Rattle.log_entries.specs.declared.entry.Entry.TheVariants.{Decided, Finished, Life, One, Prepared, Upgraded}
use Rattle.log_entries.specs.declared.entry.Entry.{Entry}
use Rattle.log_entries.specs.declared.request.Request.{Request}
use Rattle.spec_history.proofs.Growth.{state-end}
use Rattle.spec_history.proofs.Places.{goes, placed}
use Rattle.spec_history.proofs.Steps.{FateMoves, LifeBegan, by_settling}
use Rattle.spec_history.specs.History.{Aborted, Base, Committed, Fate, IsCommitted, Open, Known, State, lapse, or_lost, put, settle, settle_by, known_in, known_by, state}
use Rattle.spec_history.specs.Outcomes.{Causes, Ended, MaySettle}
use Rattle.spec_history.specs.Sound.{owes, sound}
use Rattle.std.proofs.Common.{Bool, List, [], ap, arith, cond, false, inl, inr, refl, subst, sym, true, ℕ, ◌++◌, ◌≡◌, ◌≢◌, ◌∙◌, ◌∷◌}
use Rattle.std.proofs.lemmas.Bool.Decides.{eqb_tells, nat_tests}
use Rattle.std.proofs.lemmas.Cmp.{tied_itself}
use Rattle.std.proofs.lemmas.Map.Views.{tells_apart}
use Rattle.std.proofs.lemmas.Option.{same_Some}
use Rattle.std.specs.Option.{option_map}
use Rattle.std.specs.Ordering.{eq_by_cmp, is_eq}
use Rattle.std.specs.Prelude.{None, Option, Some, nat_eq, nat_lt, ◌&&◌, ◌⊎◌}
use Rattle.thor_value.proofs.FiniteMap.{get-insert}
use Rattle.thor_value.proofs.NameOrders.{ts_exact, ts_total}
use Rattle.thor_value.specs.FiniteMap.{get, insert}
use Rattle.thor_value.specs.Names.{ts_cmp}
use Rattle.thor_value.specs.declared.names.Ts.{Ts}

-- ---- an entry that can't settle a transaction

other-key : (t u : Ts) → ¬ (t ≡ u) → eq_by_cmp ts_cmp t u ≡ false
other-key t u h = by (eq_by_cmp ts_cmp t u) refl
  where
    by : (same : Bool) → eq_by_cmp ts_cmp t u ≡ same → eq_by_cmp ts_cmp t u ≡ false
    by true e = absurd (h (tells_apart ts_exact t u e))
    by false e = e

other-number : (m n : ℕ) → ¬ (m ≡ n) → nat_eq m n ≡ false
other-number m n h = by (nat_eq m n) refl
  where
    same : nat_eq m n ≡ true → m ≡ n
    same e = grind (arith, nat_tests)

    by : (t : Bool) → nat_eq m n ≡ t → nat_eq m n ≡ false
    by true e = absurd (h (same e))
    by false e = e

neither : (a x y : Bool) → a ≡ false → (a && x) ≡ (a && y)
neither true x y e = cc
neither false x y e = refl

pub same-ts : (t u : Ts) → (t ≡ u) ⊎ (t ≢ u)
same-ts t u = by (eq_by_cmp ts_cmp t u) refl
  where
    by : (k : Bool) → eq_by_cmp ts_cmp t u ≡ k → (t ≡ u) ⊎ (t ≢ u)
    by true h = inl (tells_apart ts_exact t u h)
    by false h = inr (λ e. let k : eq_by_cmp ts_cmp t u ≡ true = subst (λ (v : Ts). eq_by_cmp ts_cmp t v ≡ true) e (ap is_eq (tied_itself ts_total t)) in cc)

module _ (b : Base) where
  elsewhere : (S : State) (u t : Ts) (p : Known) → ¬ (t ≡ u) → option_map (or_lost b S t) (get (insert S.known u p) t) ≡ known_in b S t
  elsewhere S u t p h = ap (option_map (or_lost b S t)) (get-insert ts_total S.known u p t ∙ ap (λ (same : Bool). cond same (Some p) (get S.known t)) (other-key t u h))

  new-apart : (S : State) (u t : Ts) (p : Known) → known_in b S u ≡ None → known_in b S t ≡ Some p → ¬ (t ≡ u)
  new-apart S u t p none is e = let f : Some p ≡ None = sym is ∙ ap (known_in b S) e ∙ none in cc

  settled-other : (S : State) (u t : Ts) (c : Bool) → ¬ (t ≡ u) → known_in b (settle S u c (known_in b S u)) t ≡ known_in b S t
  settled-other S u t c h =
      by_settling b (λ Z. known_in b Z t ≡ known_in b S t) S u c (known_in b S u) refl
      (λ p is at_first k. elsewhere S u t (record { place = p.place; request = p.request; fate = Committed S.length }) h)
      (λ p is at_first. elsewhere S u t (record p { fate = Aborted }) h)

  life-other : (S : State) (n : ℕ) (t : Ts) → ¬ (t.repo ≡ b.repo) → known_in b (put b S (Life n)) t ≡ known_in b S t
  life-other S n t h = by (get S.known t)
    where
      by : (k : Option Known) → option_map (or_lost b (put b S (Life n)) t) k ≡ option_map (or_lost b S t) k
      by None = refl
      by (Some p) = ap (λ (l : Bool). Some (record p { fate = lapse p.fate l })) (neither (nat_eq t.repo b.repo) (nat_lt p.place S.length) (nat_lt p.place S.last_life) (other-number t.repo b.repo h))

  -- it leaves the transaction as it stands
  pub stands-still : (S : State) (e : Entry) (t : Ts) (p : Known) → owes b S e → ¬ MaySettle b t e → known_in b S t ≡ Some p → known_in b (put b S e) t ≡ Some p
  stands-still S (Life n) t p o h is = life-other S n t h ∙ is
  stands-still S (One q) t p o h is = elsewhere S q.tx t (record { place = S.length; request = q; fate = Committed S.length }) (new-apart S q.tx t p o.0.vouched.once is) ∙ is
  stands-still S (Prepared q) t p o h is = elsewhere S q.tx t (record { place = S.length; request = q; fate = Open }) (new-apart S q.tx t p o.0.vouched.once is) ∙ is
  stands-still S (Upgraded q) t p o h is = elsewhere S q.tx t (record { place = S.length; request = q; fate = Committed S.length }) (new-apart S q.tx t p o.0.vouched.once is) ∙ is
  stands-still S (Decided u c) t p o h is = settled-other S u t c (λ e. h (sym e)) ∙ is
  stands-still S (Finished u c) t p o h is = settled-other S u t c (λ e. h (sym e)) ∙ is

  pub at-key : (S : State) (u : Ts) (p : Known) → option_map (or_lost b S u) (get (insert S.known u p) u) ≡ Some (or_lost b S u p)
  at-key S u p = ap (option_map (or_lost b S u)) (get-insert ts_total S.known u p u ∙ ap (λ o. cond (is_eq o) (Some p) (get S.known u)) (tied_itself ts_total u))

  same-fate : (p : Option Known) (o w : Known) → p ≡ Some o → p ≡ Some w → w.fate ≡ o.fate
  same-fate p o w is it = ap (λ (v : Known). v.fate) (same_Some w o (sym it ∙ is))

  -- the transaction that is settled
  pub settled-self : (S : State) (u : Ts) (c : Bool) (o w : Known) → known_in b S u ≡ Some o → known_in b (settle S u c (Some o)) u ≡ Some w → (w.fate ≡ o.fate) ⊎ Ended c w.fate
  settled-self S u c o w is it = by o.fate refl c it
    where
      by : (f : Fate) → o.fate ≡ f → (d : Bool) → known_in b (settle_by S u d o f) u ≡ Some w → (w.fate ≡ o.fate) ⊎ Ended d w.fate
      by Open e true k =
          let new : Known = record { place = o.place; request = o.request; fate = Committed S.length } in
          inr (subst (λ (v : Known). IsCommitted v.fate) (same_Some new w (sym (at-key S u new) ∙ k)) tt)
      by Open e false k =
          let new : Known = record o { fate = Aborted } in
          inr (sym (ap (λ (v : Known). v.fate) (same_Some new w (sym (at-key S u new) ∙ k))))
      by (Committed at) e d k = inl (same-fate (known_in b S u) o w is k)
      by Aborted e d k = inl (same-fate (known_in b S u) o w is k)

  by-life : (S : State) (n : ℕ) (q : Request) (t : Ts) (f g : Fate) → FateMoves [] S.length q f g → t.repo ≡ b.repo → (g ≡ f) ⊎ ((t.repo ≡ b.repo) × (g ≡ Aborted))
  by-life S n q t Open Open m h = inl refl
  by-life S n q t Open (Committed at) m h = let e : ◌≡◌ {A = List (ℕ × Request)} [] ((S.length, q) ∷ []) = m.1 in cc
  by-life S n q t Open Aborted m h = inr (h, refl)
  by-life S n q t (Committed a) Open m h = absurd m
  by-life S n q t (Committed a) (Committed at) m h = inl (ap Committed m)
  by-life S n q t (Committed a) Aborted m h = absurd m
  by-life S n q t Aborted g m h = by g m
    where
      by : (k : Fate) → FateMoves [] S.length q Aborted k → (k ≡ Aborted) ⊎ ((t.repo ≡ b.repo) × (k ≡ Aborted))
      by Open x = absurd x
      by (Committed at) x = absurd x
      by Aborted x = inl refl

  -- behind an entry a transaction stands as it did, or the entry ended it
  caused : (S : State) (e : Entry) (t : Ts) (o w : Known) → LifeBegan b S → owes b S e → known_in b S t ≡ Some o → known_in b (put b S e) t ≡ Some w → (w.fate ≡ o.fate) ⊎ Causes b e t w.fate
  caused S (Life n) t o w l ow is it = elim (eqb_tells t.repo b.repo) [
    | inl same ↦
        let g = goes b S (Life n) l ow t o is in
        let one : g.0 ≡ w = same_Some g.0 w (sym g.1 ∙ it) in
        by-life S n o.request t o.fate w.fate (subst (λ (v : Known). FateMoves [] S.length o.request o.fate v.fate) one g.2.2) same.1
    | inr apart ↦ inl (same-fate (known_in b (put b S (Life n)) t) o w (stands-still S (Life n) t o ow apart.1 is) it)
  ]
  caused S (One q) t o w l ow is it = inl (same-fate (known_in b (put b S (One q)) t) o w (stands-still S (One q) t o ow (λ h. h) is) it)
  caused S (Prepared q) t o w l ow is it = inl (same-fate (known_in b (put b S (Prepared q)) t) o w (stands-still S (Prepared q) t o ow (λ h. h) is) it)
  caused S (Upgraded q) t o w l ow is it = inl (same-fate (known_in b (put b S (Upgraded q)) t) o w (stands-still S (Upgraded q) t o ow (λ h. h) is) it)
  caused S (Decided u c) t o w l ow is it = elim (same-ts u t) [
    | inl same ↦
        let is' : known_in b S u ≡ Some o = subst (λ (v : Ts). known_in b S v ≡ Some o) (sym same) is in
        let it' : known_in b (settle S u c (known_in b S u)) u ≡ Some w = subst (λ (v : Ts). known_in b (settle S u c (known_in b S u)) v ≡ Some w) (sym same) it in
        elim (settled-self S u c o w is' (subst (λ (k : Option Known). known_in b (settle S u c k) u ≡ Some w) is' it')) [
          | inl k ↦ inl k
          | inr k ↦ inr (same, k)
        ]
    | inr apart ↦ inl (same-fate (known_in b (put b S (Decided u c)) t) o w (stands-still S (Decided u c) t o ow apart is) it)
  ]
  caused S (Finished u c) t o w l ow is it = elim (same-ts u t) [
    | inl same ↦
        let is' : known_in b S u ≡ Some o = subst (λ (v : Ts). known_in b S v ≡ Some o) (sym same) is in
        let it' : known_in b (settle S u c (known_in b S u)) u ≡ Some w = subst (λ (v : Ts). known_in b (settle S u c (known_in b S u)) v ≡ Some w) (sym same) it in
        elim (settled-self S u c o w is' (subst (λ (k : Option Known). known_in b (settle S u c k) u ≡ Some w) is' it')) [
          | inl k ↦ inl k
          | inr k ↦ inr (same, k)
        ]
    | inr apart ↦ inl (same-fate (known_in b (put b S (Finished u c)) t) o w (stands-still S (Finished u c) t o ow apart is) it)
  ]

  -- the same of a history
  pub caused-end : (H : List Entry) (e : Entry) → sound b H → owes b (state b H) e → (t : Ts) (o w : Known) → known_by b H t ≡ Some o → known_by b (H ++ e ∷ []) t ≡ Some w → (w.fate ≡ o.fate) ⊎ Causes b e t w.fate
  caused-end H e sd ow t o w is it = caused (state b H) e t o w (placed b H sd).began ow is (subst (λ (S : State). known_in b S t ≡ Some w) (state-end b H e) it)
