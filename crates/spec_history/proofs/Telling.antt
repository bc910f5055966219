-- What entries say of the transactions that stand.
use Rattle.log_entries.specs.declared.entry.Entry.TheVariants.{Decided, Finished, Life, One, Prepared, Upgraded}
use Rattle.log_entries.specs.declared.entry.Entry.{Entry}
use Rattle.log_entries.specs.declared.request.Request.{Request}
use Rattle.spec_history.proofs.Growth.{by_growth, length-state, sound-end, state-end}
use Rattle.spec_history.proofs.Listed.{end_cases, get_before, get_end, is_some_and, some_and}
use Rattle.spec_history.proofs.Places.{Placed, came_end, placed, stays}
use Rattle.spec_history.proofs.Prefixes.{fits, judged}
use Rattle.spec_history.proofs.Settling.{at-key, caused-end}
use Rattle.spec_history.proofs.Steps.{FateBegun, by_settling}
use Rattle.spec_history.specs.History.{Aborted, Base, Committed, Fate, LeftOver, Open, Known, State, is_open, is_undecided, put, settle, settle_by, known_in, known_by, state}
use Rattle.spec_history.specs.Laws.{Asks, FateStays, Stays}
use Rattle.spec_history.specs.Outcomes.{Causes, EntriesTell, IsSettled, SettledAt, Settles}
use Rattle.spec_history.specs.Sound.{owes, sound}
use Rattle.std.proofs.Common.{Bool, List, [], ap, arith, false, inl, inr, length, refl, subst, suc, sym, true, zero, ℕ, ◌++◌, ◌<◌, ◌≡◌, ◌∙◌, ◌∷◌}
use Rattle.std.proofs.lemmas.Cmp.{tied_itself}
use Rattle.std.specs.List.{slice_get}
use Rattle.std.specs.Option.{IsSome, IsSomeAnd}
use Rattle.std.specs.Ordering.{is_eq}
use Rattle.std.specs.Prelude.{None, Option, Some, cond, is_some, not, ◌⊎◌}
use Rattle.thor_value.proofs.FiniteMap.{get-keep}
use Rattle.thor_value.proofs.NameOrders.{ts_exact, ts_total}
use Rattle.thor_value.specs.FiniteMap.{get}
use Rattle.thor_value.specs.Names.{same_ts, ts_cmp}
use Rattle.thor_value.specs.declared.names.Ts.{Ts}

settled_stays : (m : ℕ) (c : Bool) (f g : Fate) → SettledAt m c f → FateStays f g → SettledAt m c g
settled_stays m true Open g s x = cc
settled_stays m true (Committed a) Open s x = absurd x
settled_stays m true (Committed a) (Committed at) s x = ap Committed x ∙ s
settled_stays m true (Committed a) Aborted s x = absurd x
settled_stays m true Aborted g s x = cc
settled_stays m false Open g s x = cc
settled_stays m false (Committed a) g s x = cc
settled_stays m false Aborted Open s x = absurd x
settled_stays m false Aborted (Committed at) s x = absurd x
settled_stays m false Aborted Aborted s x = refl

not_open : (m : ℕ) (c : Bool) (f : Fate) → SettledAt m c f → is_open f ≡ false
not_open m true f s = ap is_open s
not_open m false f s = ap is_open s

begun_lives : (n : ℕ) (q : Request) (cs : List (ℕ × Request)) (f : Fate) → FateBegun cs n q f → f ≡ Aborted → ⊥
begun_lives n q cs Open h e = cc
begun_lives n q cs (Committed at) h e = cc
begun_lives n q cs Aborted h e = h

none_some : {X : Type 0} {A : Type 0} (o : Option X) → o ≡ None → IsSome o → A
none_some None e h = let k : false ≡ true = h in cc
none_some (Some x) e h = cc

module _ (b : Base) where
  -- ---- what earlier runs left

  less : (S : State) (t : Ts) (c : Bool) → (settle S t c (known_in b S t)).left ≡ S.left
  less S t c = by_settling b (λ T. T.left ≡ S.left) S t c (known_in b S t) refl (λ p is o k. refl) (λ p is o. refl)

  -- what is still to be settled was so before
  left-put : (S : State) (e : Entry) (t : Ts) (l : LeftOver) → get (put b S e).left t ≡ Some l → get S.left t ≡ Some l
  left-put S (Life n) t l h = h
  left-put S (One q) t l h = h
  left-put S (Prepared q) t l h = h
  left-put S (Upgraded q) t l h = h
  left-put S (Decided u c) t l h = subst (λ m. get m t ≡ Some l) (less S u c) h
  left-put S (Finished u c) t l h = kept (not (same_ts t u)) (get S.left t) l (sym (get-keep ts_cmp ts_exact S.left (λ v. not (same_ts v u)) t) ∙ h)
    where
      kept : (x : Bool) (o : Option LeftOver) (k : LeftOver) → cond x o None ≡ Some k → o ≡ Some k
      kept true o k e = e
      kept false o k e = cc

  -- what has been finished is left no more
  left-finished : (S : State) (t : Ts) (c : Bool) → get (put b S (Finished t c)).left t ≡ None
  left-finished S t c = get-keep ts_cmp ts_exact S.left (λ v. not (same_ts v t)) t ∙ ap (λ o. cond (not (is_eq o)) (get S.left t) None) (tied_itself ts_total t)

  left-from : (H : List Entry) → sound b H → (t : Ts) (l : LeftOver) → get (state b H).left t ≡ Some l → get b.left t ≡ Some l
  left-from = by_growth b (λ H. (t : Ts) (l : LeftOver) → get (state b H).left t ≡ Some l → get b.left t ≡ Some l) (λ t l h. h)
      (λ H e sd ih ow t l h. ih t l (left-put (state b H) e t l (subst (λ S. get S.left t ≡ Some l) (state-end b H e) h)))

  pub known-unleft : (H : List Entry) → sound b H → (t : Ts) (o : Known) → known_by b H t ≡ Some o → get b.left t ≡ None
  known-unleft H sd t o is = subst (λ u. get b.left u ≡ None) (fits b H sd t o is).named (judged b H sd t o is).vouched.unleft

  left-unknown : (H : List Entry) → sound b H → (t : Ts) → IsSome (get b.left t) → known_by b H t ≡ None
  left-unknown H sd t left = by (known_by b H t) refl
    where
      by : (o : Option Known) → known_by b H t ≡ o → known_by b H t ≡ None
      by None e = e
      by (Some o) e = none_some (get b.left t) (known-unleft H sd t o e) left

  -- ---- requests

  AskedAt : List Entry → ℕ → Request → Type 0
  AskedAt H m q = IsSomeAnd (known_by b H q.tx) (λ o. (o.place ≡ m) × (o.request ≡ q))

  asked-new : (S : State) (e : Entry) (q : Request) → Asks e q → IsSomeAnd (known_in b (put b S e) q.tx) (λ o. (o.place ≡ S.length) × (o.request ≡ q))
  asked-new S (Life n) q x = absurd x
  asked-new S (One r) q x = subst (λ p. IsSomeAnd (known_in b (put b S (One r)) p.tx) (λ o. (o.place ≡ S.length) × (o.request ≡ p))) x
      (is_some_and _ (λ o. (o.place ≡ S.length) × (o.request ≡ r)) _ (at-key b S r.tx (record { place = S.length; request = r; fate = Committed S.length })) (refl, refl))
  asked-new S (Prepared r) q x = subst (λ p. IsSomeAnd (known_in b (put b S (Prepared r)) p.tx) (λ o. (o.place ≡ S.length) × (o.request ≡ p))) x
      (is_some_and _ (λ o. (o.place ≡ S.length) × (o.request ≡ r)) _ (at-key b S r.tx (record { place = S.length; request = r; fate = Open })) (refl, refl))
  asked-new S (Decided t c) q x = absurd x
  asked-new S (Finished t c) q x = absurd x
  asked-new S (Upgraded r) q x = subst (λ p. IsSomeAnd (known_in b (put b S (Upgraded r)) p.tx) (λ o. (o.place ≡ S.length) × (o.request ≡ p))) x
      (is_some_and _ (λ o. (o.place ≡ S.length) × (o.request ≡ r)) _ (at-key b S r.tx (record { place = S.length; request = r; fate = Committed S.length })) (refl, refl))

  asked : (H : List Entry) → sound b H → (m : ℕ) (e : Entry) (q : Request) → slice_get H m ≡ Some e → Asks e q → AskedAt H m q
  unfolding AskedAt
  asked = by_growth b (λ H. (m : ℕ) (e : Entry) (q : Request) → slice_get H m ≡ Some e → Asks e q → AskedAt H m q) (λ m e q is x. cc)
      (λ H f sd ih ow m e q is x. elim (end_cases H f e m is) [
        | inl k ↦
            let y = some_and (known_by b H q.tx) (λ o. (o.place ≡ m) × (o.request ≡ q)) (ih m e q k.1 x) in
            let z = stays b H (f ∷ []) (sound-end b H f sd ow) q.tx y.0 y.1 in
            let st : Stays y.0 z.0 = z.2 in
            is_some_and (known_by b (H ++ f ∷ []) q.tx) (λ o. (o.place ≡ m) × (o.request ≡ q)) z.0 z.1 (st.place ∙ y.2.0, st.request ∙ y.2.1)
        | inr k ↦
            let here : IsSomeAnd (known_in b (put b (state b H) f) q.tx) (λ o. (o.place ≡ (state b H).length) × (o.request ≡ q)) = asked-new (state b H) f q (subst (λ g. Asks g q) k.1 x) in
            let there : IsSomeAnd (known_by b (H ++ f ∷ []) q.tx) (λ o. (o.place ≡ (state b H).length) × (o.request ≡ q)) = subst (λ S. IsSomeAnd (known_in b S q.tx) (λ o. (o.place ≡ (state b H).length) × (o.request ≡ q))) (sym (state-end b H f)) here in
            subst (λ n. IsSomeAnd (known_by b (H ++ f ∷ []) q.tx) (λ o. (o.place ≡ n) × (o.request ≡ q))) (length-state b H ∙ sym k.0) there
      ])

  -- ---- decisions

  -- an undecided transaction that is settled so
  settled-so : (S : State) (t : Ts) (c : Bool) (o : Known) → known_in b S t ≡ Some o → o.fate ≡ Open → IsSomeAnd (known_in b (settle S t c (Some o)) t) (λ w. (w.place ≡ o.place) × SettledAt S.length c w.fate)
  settled-so S t c o is undecided = by o.fate undecided c
    where
      by : (f : Fate) → f ≡ Open → (d : Bool) → IsSomeAnd (known_in b (settle_by S t d o f) t) (λ w. (w.place ≡ o.place) × SettledAt S.length d w.fate)
      by Open e true = is_some_and _ (λ w. (w.place ≡ o.place) × SettledAt S.length true w.fate) _ (at-key b S t (record { place = o.place; request = o.request; fate = Committed S.length })) (refl, refl)
      by Open e false = is_some_and _ (λ w. (w.place ≡ o.place) × SettledAt S.length false w.fate) _ (at-key b S t (record o { fate = Aborted })) (refl, refl)
      by (Committed a) e d = cc
      by Aborted e d = cc

  undecided-there : (k : Option Known) → is_undecided k ≡ true → (o : Known) × (k ≡ Some o) × (o.fate ≡ Open)
  undecided-there None h = cc
  undecided-there (Some o) h = (o, refl, by o.fate h)
    where
      by : (f : Fate) → is_open f ≡ true → f ≡ Open
      by Open e = refl
      by (Committed a) e = cc
      by Aborted e = cc

  pub settled-new : (S : State) (t : Ts) (c : Bool) → Placed b S → is_undecided (known_in b S t) ≡ true → IsSomeAnd (known_in b (settle S t c (known_in b S t)) t) (λ w. (w.place < S.length) × SettledAt S.length c w.fate)
  settled-new S t c h u =
      let y = undecided-there (known_in b S t) u in
      let low : y.0.place < S.length = (h.fits t y.0 y.1).below in
      let o : Known = y.0 in
      let z = some_and (known_in b (settle S t c (Some o)) t) (λ w. (w.place ≡ o.place) × SettledAt S.length c w.fate) (settled-so S t c o y.1 y.2) in
      let w : Known = z.0 in
      let at : w.place ≡ o.place = z.2.0 in
      subst (λ k. IsSomeAnd (known_in b (settle S t c k) t) (λ v. (v.place < S.length) × SettledAt S.length c v.fate)) (sym y.1)
      (is_some_and _ (λ v. (v.place < S.length) × SettledAt S.length c v.fate) w z.1 (omega arith, z.2.1))

  SettledNew : State → Entry → Ts → Bool → Type 0
  SettledNew S e t c = IsSomeAnd (known_in b (put b S e) t) (λ o. (o.place < S.length) × SettledAt S.length c o.fate) ⊎ IsSome (get b.left t)

  settles-new : (S : State) (e : Entry) (t : Ts) (c : Bool) → Placed b S → owes b S e → ((l : LeftOver) → get S.left t ≡ Some l → get b.left t ≡ Some l) → Settles e t c → SettledNew S e t c
  unfolding SettledNew
  settles-new S (Life n) t c h ow from x = absurd x
  settles-new S (One q) t c h ow from x = absurd x
  settles-new S (Prepared q) t c h ow from x = absurd x
  settles-new S (Upgraded q) t c h ow from x = absurd x
  settles-new S (Decided u d) t c h ow from x =
      inl (subst (λ v. IsSomeAnd (known_in b (put b S (Decided u d)) v) (λ o. (o.place < S.length) × SettledAt S.length c o.fate)) x.0
      (subst (λ k. IsSomeAnd (known_in b (put b S (Decided u d)) u) (λ o. (o.place < S.length) × SettledAt S.length k o.fate)) x.1 (settled-new S u d h ow.0)))
  settles-new S (Finished u d) t c h (inl ow) from x =
      inl (subst (λ v. IsSomeAnd (known_in b (put b S (Finished u d)) v) (λ o. (o.place < S.length) × SettledAt S.length c o.fate)) x.0
      (subst (λ k. IsSomeAnd (known_in b (put b S (Finished u d)) u) (λ o. (o.place < S.length) × SettledAt S.length k o.fate)) x.1 (settled-new S u d h ow.0)))
  settles-new S (Finished u d) t c h (inr ow) from x =
      let y = some_and (get S.left u) (λ l. l.commits ≡ d) ow.1 in
      inr (ap is_some (from y.0 (subst (λ v. get S.left v ≡ Some y.0) x.0 y.1)))

  settled : (H : List Entry) → sound b H → (m : ℕ) (e : Entry) (t : Ts) (c : Bool) → slice_get H m ≡ Some e → Settles e t c → IsSettled b H t m c
  unfolding SettledNew
  settled = by_growth b (λ H. (m : ℕ) (e : Entry) (t : Ts) (c : Bool) → slice_get H m ≡ Some e → Settles e t c → IsSettled b H t m c) (λ m e t c is x. cc)
      (λ H f sd ih ow m e t c is x.
      let sd' = sound-end b H f sd ow in
      elim (end_cases H f e m is) [
        | inl k ↦ elim (ih m e t c k.1 x) [
          | inl stood ↦
              let y = some_and (known_by b H t) (λ o. (o.place < m) × SettledAt m c o.fate) stood in
              let z = stays b H (f ∷ []) sd' t y.0 y.1 in
              let st : Stays y.0 z.0 = z.2 in
              let low : y.0.place < m = y.2.0 in
              let at : z.0.place ≡ y.0.place = st.place in
              inl (is_some_and (known_by b (H ++ f ∷ []) t) (λ o. (o.place < m) × SettledAt m c o.fate) z.0 z.1 (omega arith, settled_stays m c y.0.fate z.0.fate y.2.1 st.fate))
          | inr left ↦ inr (left.0, left-unknown (H ++ f ∷ []) sd' t left.0)
        ]
        | inr k ↦ at_end H f sd ow sd' m t c k.0 (subst (λ g. Settles g t c) k.1 x)
      ])
    where
      at_end : (H : List Entry) (f : Entry) → sound b H → owes b (state b H) f → sound b (H ++ f ∷ []) → (m : ℕ) (t : Ts) (c : Bool) → m ≡ length H → Settles f t c → IsSettled b (H ++ f ∷ []) t m c
      at_end H f sd ow sd' m t c at x = elim (settles-new (state b H) f t c (placed b H sd) ow (left-from H sd t) x) [
        | inl new ↦
            let there : IsSomeAnd (known_by b (H ++ f ∷ []) t) (λ o. (o.place < (state b H).length) × SettledAt (state b H).length c o.fate) = subst (λ S. IsSomeAnd (known_in b S t) (λ o. (o.place < (state b H).length) × SettledAt (state b H).length c o.fate)) (sym (state-end b H f)) new in
            inl (subst (λ n. IsSomeAnd (known_by b (H ++ f ∷ []) t) (λ o. (o.place < n) × SettledAt n c o.fate)) (length-state b H ∙ sym at) there)
        | inr left ↦ inr (left, left-unknown (H ++ f ∷ []) sd' t left)
      ]

  -- ---- once

  -- what is settled isn't undecided
  decided : (H : List Entry) (t : Ts) (m : ℕ) (c : Bool) → IsSettled b H t m c → is_undecided (known_by b H t) ≡ false
  decided H t m c (inl stood) =
      let y = some_and (known_by b H t) (λ o. (o.place < m) × SettledAt m c o.fate) stood in
      ap is_undecided y.1 ∙ not_open m c y.0.fate y.2.1
  decided H t m c (inr left) = ap is_undecided left.1

  -- nor is it left
  over : (H : List Entry) → sound b H → (m : ℕ) (e : Entry) (t : Ts) (c : Bool) → slice_get H m ≡ Some e → Settles e t c → get (state b H).left t ≡ None
  over = by_growth b (λ H. (m : ℕ) (e : Entry) (t : Ts) (c : Bool) → slice_get H m ≡ Some e → Settles e t c → get (state b H).left t ≡ None) (λ m e t c is x. cc)
      (λ H f sd ih ow m e t c is x.
      subst (λ S. get S.left t ≡ None) (sym (state-end b H f)) (elim (end_cases H f e m is) [
        | inl k ↦ still (state b H) f t (ih m e t c k.1 x)
        | inr k ↦ ended H f sd ow t c (subst (λ g. Settles g t c) k.1 x)
      ]))
    where
      still : (S : State) (f : Entry) (t : Ts) → get S.left t ≡ None → get (put b S f).left t ≡ None
      still S f t h = by (get (put b S f).left t) refl
        where
          by : (o : Option LeftOver) → get (put b S f).left t ≡ o → get (put b S f).left t ≡ None
          by None e = e
          by (Some l) e = let k = left-put S f t l e in cc

      unleft : (H : List Entry) → sound b H → (t : Ts) → is_undecided (known_by b H t) ≡ true → get (state b H).left t ≡ None
      unleft H sd t u = by (get (state b H).left t) refl
        where
          y : (o : Known) × (known_by b H t ≡ Some o) × (o.fate ≡ Open)
          y = undecided-there (known_by b H t) u

          by : (o : Option LeftOver) → get (state b H).left t ≡ o → get (state b H).left t ≡ None
          by None e = e
          by (Some l) e = let k = left-from H sd t l e in let n = known-unleft H sd t y.0 y.1 in cc

      ended : (H : List Entry) (f : Entry) → sound b H → owes b (state b H) f → (t : Ts) (c : Bool) → Settles f t c → get (put b (state b H) f).left t ≡ None
      ended H (Life n) sd ow t c x = absurd x
      ended H (One q) sd ow t c x = absurd x
      ended H (Prepared q) sd ow t c x = absurd x
      ended H (Upgraded q) sd ow t c x = absurd x
      ended H (Decided u d) sd ow t c x = subst (λ v. get (put b (state b H) (Decided u d)).left v ≡ None) x.0 (still (state b H) (Decided u d) u (unleft H sd u ow.0))
      ended H (Finished u d) sd ow t c x = subst (λ v. get (put b (state b H) (Finished u d)).left v ≡ None) x.0 (left-finished (state b H) u d)

  -- an entry that settles t comes where t is undecided or left
  waits : (S : State) (e : Entry) (t : Ts) (c : Bool) → owes b S e → Settles e t c → (is_undecided (known_in b S t) ≡ true) ⊎ IsSome (get S.left t)
  waits S (Life n) t c ow x = absurd x
  waits S (One q) t c ow x = absurd x
  waits S (Prepared q) t c ow x = absurd x
  waits S (Upgraded q) t c ow x = absurd x
  waits S (Decided u d) t c ow x = inl (subst (λ v. is_undecided (known_in b S v) ≡ true) x.0 ow.0)
  waits S (Finished u d) t c (inl ow) x = inl (subst (λ v. is_undecided (known_in b S v) ≡ true) x.0 ow.0)
  waits S (Finished u d) t c (inr ow) x = inr (subst (λ v. IsSome (get S.left v)) x.0 (let y = some_and (get S.left u) (λ l. l.commits ≡ d) ow.1 in ap is_some y.1))

  no_more : {A : Type 0} (H : List Entry) (f : Entry) → sound b H → owes b (state b H) f → (m : ℕ) (e : Entry) (t : Ts) (c k : Bool) → slice_get H m ≡ Some e → Settles e t c → Settles f t k → A
  no_more H f sd ow m e t c k is x y = elim (waits (state b H) f t k ow y) [
    | inl undecided ↦ let no = decided H t m c (settled H sd m e t c is x) in let yes : is_undecided (known_by b H t) ≡ true = undecided in cc
    | inr left ↦ none_some (get (state b H).left t) (over H sd m e t c is x) left
  ]

  once : (H : List Entry) → sound b H → (m n : ℕ) (e d : Entry) (t : Ts) (c k : Bool) → slice_get H m ≡ Some e → Settles e t c → slice_get H n ≡ Some d → Settles d t k → m ≡ n
  once = by_growth b (λ H. (m n : ℕ) (e d : Entry) (t : Ts) (c k : Bool) → slice_get H m ≡ Some e → Settles e t c → slice_get H n ≡ Some d → Settles d t k → m ≡ n) (λ m n e d t c k is x it y. cc)
      (λ H f sd ih ow m n e d t c k is x it y. elim (end_cases H f e m is) [
        | inl i ↦ elim (end_cases H f d n it) [
          | inl j ↦ ih m n e d t c k i.1 x j.1 y
          | inr j ↦ no_more H f sd ow m e t c k i.1 x (subst (λ g. Settles g t k) j.1 y)
        ]
        | inr i ↦ elim (end_cases H f d n it) [
          | inl j ↦ no_more H f sd ow n d t k c j.1 y (subst (λ g. Settles g t c) i.1 x)
          | inr j ↦ i.0 ∙ sym j.0
        ]
      ])

  -- ---- who was aborted

  aborted : (H : List Entry) → sound b H → (t : Ts) (o : Known) → known_by b H t ≡ Some o → o.fate ≡ Aborted → (m : ℕ) × (o.place < m) × IsSomeAnd (slice_get H m) (λ e. Causes b e t Aborted)
  aborted = by_growth b (λ H. (t : Ts) (o : Known) → known_by b H t ≡ Some o → o.fate ≡ Aborted → (m : ℕ) × (o.place < m) × IsSomeAnd (slice_get H m) (λ e. Causes b e t Aborted)) (λ t o is x. cc)
      (λ H f sd ih ow t o is x. elim (came_end b H f sd ow t o is) [
        | inl new ↦ absurd (begun_lives (length H) o.request _ o.fate new.1.3 x)
        | inr old ↦
            let v : Known = old.0 in
            let at : o.place ≡ v.place = old.2.0 in
            let low : v.place < length H = (fits b H sd t v old.1).below in
            elim (caused-end b H f sd ow t v o old.1 is) [
              | inl same ↦
                  let y = ih t v old.1 (sym same ∙ x) in
                  let m : ℕ = y.0 in
                  let above : v.place < m = y.1 in
                  (m, omega arith, before H f m (λ e. Causes b e t Aborted) y.2)
              | inr cause ↦ (length H, omega arith, is_some_and (slice_get (H ++ f ∷ []) (length H)) (λ e. Causes b e t Aborted) f (get_end H f) (subst (Causes b f t) x cause))
            ]
      ])
    where
      within : (H : List Entry) (m : ℕ) (e : Entry) → slice_get H m ≡ Some e → m < length H
      within [] m e h = cc
      within (d ∷ H) zero e h = omega arith
      within (d ∷ H) (suc m) e h = let l = within H m e h in omega arith

      before : (H : List Entry) (f : Entry) (m : ℕ) (P : Entry → Type 0) → IsSomeAnd (slice_get H m) P → IsSomeAnd (slice_get (H ++ f ∷ []) m) P
      before H f m P h =
          let y = some_and (slice_get H m) P h in
          is_some_and (slice_get (H ++ f ∷ []) m) P y.0 (get_before H (f ∷ []) m (within H m y.0 y.1) ∙ y.1) y.2

  pub tell : (H : List Entry) → sound b H → EntriesTell b H
  unfolding AskedAt
  tell H sd = record { asked = asked H sd; settled = settled H sd; once = once H sd; aborted = aborted H sd; left = left-unknown H sd }
