-- What a history comes to, told by its entries: the kept decisions and the last single commits.
use Rattle.log_entries.specs.declared.entry.Entry.TheVariants.{Decided, Finished, Life, One, Prepared, Upgraded}
use Rattle.log_entries.specs.declared.entry.Entry.{Entry}
use Rattle.spec_history.proofs.Decided.{sorted_state}
use Rattle.spec_history.proofs.Growth.{by_growth, state-end}
use Rattle.spec_history.proofs.Listed.{end_cases, get_before, get_end}
use Rattle.spec_history.proofs.Steps.{by_settling}
use Rattle.spec_history.specs.History.{Base, State, put, settle, known_in, state}
use Rattle.spec_history.specs.Outcomes.{EntriesMake, alone_at, last_alone}
use Rattle.spec_history.specs.Sound.{owes, sound}
use Rattle.std.proofs.Common.{Bool, List, [], ap, eq-eqb, false, inl, inr, length, refl, subst, sym, true, ℕ, ◌++◌, ◌≡◌, ◌↔◌, ◌∙◌, ◌∷◌}
use Rattle.std.proofs.lemmas.Bool.{eqb-true}
use Rattle.std.proofs.lemmas.Cmp.{tied_itself}
use Rattle.std.proofs.lemmas.List.Sums.{fold-append}
use Rattle.std.proofs.lemmas.Map.Lookups.{exact_unsigned}
use Rattle.std.proofs.lemmas.Map.Views.{tells_apart}
use Rattle.std.proofs.lemmas.Option.{slice_get_within}
use Rattle.std.specs.Cmp.{nat_cmp_total}
use Rattle.std.specs.List.{slice_get}
use Rattle.std.specs.Option.{IsSome, option_or}
use Rattle.std.specs.Ordering.{eq_by_cmp, is_eq, nat_cmp}
use Rattle.std.specs.Prelude.{None, Option, Some, cond, is_some, nat_eq, ◌&&◌, ◌⊎◌}
use Rattle.thor_value.proofs.FiniteMap.{get-insert}
use Rattle.thor_value.proofs.NameOrders.{ts_exact, ts_total}
use Rattle.thor_value.specs.FiniteMap.{Map, Set, add, get, insert}
use Rattle.thor_value.specs.Names.{ts_cmp}
use Rattle.thor_value.specs.declared.names.Ts.{Ts}

-- ---- the decisions to commit

-- the entry is the decision to commit t
IsKeeping : Entry → Ts → Type 0
IsKeeping e t = e ≡ Decided t true

in-set : (m : Set ts_cmp) (u t : Ts) → IsSome (get (add m u) t) ↔ (IsSome (get m t) ⊎ (u ≡ t))
in-set m u t = by (eq_by_cmp ts_cmp t u) refl
  where
    at : (s : Bool) → eq_by_cmp ts_cmp t u ≡ s → get (add m u) t ≡ cond s (Some tt) (get m t)
    at s e = get-insert ts_total m u tt t ∙ ap (λ k. cond k (Some tt) (get m t)) e

    by : (s : Bool) → eq_by_cmp ts_cmp t u ≡ s → IsSome (get (add m u) t) ↔ (IsSome (get m t) ⊎ (u ≡ t))
    by true e = ((λ h. inr (sym (tells_apart ts_exact t u e))), (λ h. ap is_some (at true e)))
    by false e = (
      (λ h. inl (subst (λ o. IsSome o) (at false e) h)),
      (λ h. elim h [
        | inl old ↦ subst (λ o. IsSome o) (sym (at false e)) old
        | inr same ↦ let k : eq_by_cmp ts_cmp t u ≡ true = subst (λ v. eq_by_cmp ts_cmp t v ≡ true) (sym same) (ap is_eq (tied_itself ts_total t)) in cc
      ]),
    )

module _ (b : Base) where
  kept-settle : (S : State) (t : Ts) (c : Bool) → (settle S t c (known_in b S t)).kept ≡ S.kept
  kept-settle S t c = by_settling b (λ T. T.kept ≡ S.kept) S t c (known_in b S t) refl (λ p is o k. refl) (λ p is o. refl)

  -- one entry adds the decision that it is
  kept-put : (S : State) (e : Entry) (t : Ts) → owes b S e → IsSome (get (put b S e).kept t) ↔ (IsSome (get S.kept t) ⊎ IsKeeping e t)
  unfolding IsKeeping
  kept-put S (Life n) t ow = (inl, (λ h. elim h [ inl k ↦ k | inr e ↦ cc ]))
  kept-put S (One q) t ow = (inl, (λ h. elim h [ inl k ↦ k | inr e ↦ cc ]))
  kept-put S (Prepared q) t ow = (inl, (λ h. elim h [ inl k ↦ k | inr e ↦ cc ]))
  kept-put S (Upgraded q) t ow = (inl, (λ h. elim h [ inl k ↦ k | inr e ↦ cc ]))
  kept-put S (Finished u c) t ow = subst (λ m. IsSome (get m t) ↔ (IsSome (get S.kept t) ⊎ (Finished u c ≡ Decided t true))) (sym (kept-settle S u c)) (inl, (λ h. elim h [ inl k ↦ k | inr e ↦ cc ]))
  kept-put S (Decided u true) t ow =
      let is : (put b S (Decided u true)).kept ≡ add S.kept u = ap (λ k. cond (true && k) (add S.kept u) S.kept) ow.0 in
      let both = in-set S.kept u t in
      subst (λ m. IsSome (get m t) ↔ (IsSome (get S.kept t) ⊎ (Decided u true ≡ Decided t true))) (sym is) (
        (λ h. elim (both.0 h) [ inl old ↦ inl old | inr same ↦ inr (ap (λ v. Decided v true) same) ]),
        (λ h. elim h [ inl old ↦ both.1 (inl old) | inr same ↦ both.1 (inr (cc)) ]),
      )
  kept-put S (Decided u false) t ow = (inl, (λ h. elim h [ inl k ↦ k | inr e ↦ cc ]))

  abbrev IsKept : List Entry → Ts → Type 0
  IsKept H t = (m : ℕ) × (slice_get H m ≡ Some (Decided t true))

  kept : (H : List Entry) → sound b H → (t : Ts) → IsSome (get (state b H).kept t) ↔ IsKept H t
  unfolding IsKeeping
  kept = by_growth b (λ H. (t : Ts) → IsSome (get (state b H).kept t) ↔ IsKept H t) (λ t. ((λ h. cc), (λ h. cc)))
      (λ H e sd ih ow t.
      let one = kept-put (state b H) e t ow in
      subst (λ S. IsSome (get S.kept t) ↔ IsKept (H ++ e ∷ []) t) (sym (state-end b H e)) (
        (λ h. elim (one.0 h) [
          | inl old ↦
              let y = (ih t).0 old in
              (y.0, get_before H (e ∷ []) y.0 (slice_get_within H y.0 (Decided t true) y.1) ∙ y.1)
          | inr new ↦ (length H, get_end H e ∙ ap Some new)
        ]),
        (λ h. elim (end_cases H e (Decided t true) h.0 h.1) [
          | inl k ↦ one.1 (inl ((ih t).1 (h.0, k.1)))
          | inr k ↦ one.1 (inr (sym k.1))
        ]),
      ))

  -- ---- the last single commits

  alone-settle : (S : State) (t : Ts) (c : Bool) → (settle S t c (known_in b S t)).alone ≡ S.alone
  alone-settle S t c = by_settling b (λ T. T.alone ≡ S.alone) S t c (known_in b S t) refl (λ p is o k. refl) (λ p is o. refl)

  new-alone : (m : Map nat_cmp Ts) (d c : ℕ) (t : Ts) → get (insert m d t) c ≡ option_or (cond (nat_eq d c) (Some t) None) (get m c)
  new-alone m d c t = get-insert nat_cmp_total m d t c ∙ by (eq_by_cmp nat_cmp c d) refl (nat_eq d c) refl
    where
      by : (x : Bool) → eq_by_cmp nat_cmp c d ≡ x → (y : Bool) → nat_eq d c ≡ y → cond x (Some t) (get m c) ≡ option_or (cond y (Some t) None) (get m c)
      by true h true k = refl
      by false h false k = refl
      by true h false k = let e : nat_eq d c ≡ true = eq-eqb d c (sym (tells_apart exact_unsigned c d h)) in cc
      by false h true k = let e : eq_by_cmp nat_cmp c d ≡ true = subst (λ n. eq_by_cmp nat_cmp c n ≡ true) (sym (eqb-true d c k)) (ap is_eq (tied_itself nat_cmp_total c)) in cc

  pub alone-put : (S : State) (e : Entry) (c : ℕ) → get (put b S e).alone c ≡ option_or (alone_at c e) (get S.alone c)
  alone-put S (Life n) c = refl
  alone-put S (One q) c = new-alone S.alone q.who.client c q.tx
  alone-put S (Prepared q) c = refl
  alone-put S (Decided t k) c = ap (λ m. get m c) (alone-settle S t k)
  alone-put S (Finished t k) c = ap (λ m. get m c) (alone-settle S t k)
  alone-put S (Upgraded q) c = new-alone S.alone q.who.client c q.tx

  or-or : {X : Type 0} (p q r : Option X) → option_or p (option_or q r) ≡ option_or (option_or p q) r
  or-or None q r = refl
  or-or (Some x) q r = refl

  alone : (H : List Entry) → sound b H → (c : ℕ) → get (state b H).alone c ≡ option_or (last_alone c H) (get b.alone c)
  alone = by_growth b (λ H. (c : ℕ) → get (state b H).alone c ≡ option_or (last_alone c H) (get b.alone c)) (λ c. refl)
      (λ H e sd ih ow c.
      ap (λ (S : State). get S.alone c) (state-end b H e)
      ∙ alone-put (state b H) e c
      ∙ ap (option_or (alone_at c e)) (ih c)
      ∙ or-or (alone_at c e) (last_alone c H) (get b.alone c)
      ∙ ap (λ o. option_or o (get b.alone c)) (sym (fold-append (λ last d. option_or (alone_at c d) last) None H (e ∷ []))))

  pub make : (H : List Entry) → sound b H → EntriesMake b H
  make H sd = record { sorted = sorted_state b H; kept = kept H sd; alone = alone H sd }
