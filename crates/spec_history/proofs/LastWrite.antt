-- Which commit a sound history's object comes from, and what a request reads.
use Rattle.log_entries.specs.declared.entry.Entry.TheVariants.{Life, One, Prepared, Decided, Finished, Upgraded}
use Rattle.log_entries.specs.declared.entry.Entry.{Entry}
use Rattle.log_entries.specs.declared.request.Request.{Request}
use Rattle.spec_history.proofs.Commits.{get-overwrite, objects-put}
use Rattle.spec_history.proofs.Growth.{by_growth, length-state, sound-end, state-end}
use Rattle.spec_history.proofs.Meeting.{in_order}
use Rattle.spec_history.proofs.Places.{FateFits, Fits, Placed, came_end, placed, sound_take, stays}
use Rattle.spec_history.proofs.Prefixes.{fits, le_cases}
use Rattle.spec_history.proofs.Serial.{below_place, committed_at, committed_lives, order, writers_rise}
use Rattle.spec_history.proofs.Steps.{FateBegun, FateMoves}
use Rattle.spec_history.specs.History.{Aborted, Base, Committed, CommittedBelow, Fate, Open, Known, State, commit, commit_by, commit_of, is_open, or_lost, put, settle, settle_by, known_in, known_by, state}
use Rattle.spec_history.specs.Laws.{BothWrote, ComesFrom, FateStays, ReadsLast, Stays, with_writes}
use Rattle.spec_history.specs.Requests.{has_written, written}
use Rattle.spec_history.specs.Sound.{owes, sound}
use Rattle.std.proofs.Common.{◌≡◌, ◌≤◌, ◌<◌, ℕ, List, [], ◌∷◌, ◌++◌, length, take, drop, refl, ap, sym, ◌∙◌, subst, arith, inl, inr}
use Rattle.std.proofs.Math.Seq.{take-length}
use Rattle.std.proofs.lemmas.Cmp.{tied_itself}
use Rattle.std.proofs.lemmas.List.{length-append, length-take-le, take-append-drop, take-append-le}
use Rattle.std.proofs.lemmas.Option.{same_Some}
use Rattle.std.specs.Option.{option_map, option_or}
use Rattle.std.specs.Ordering.{is_eq}
use Rattle.std.specs.Prelude.{Bool, IsTrue, None, Option, Some, cond, false, is_some, true, ◌&&◌, ◌⊎◌}
use Rattle.thor_value.proofs.FiniteMap.{get-insert}
use Rattle.thor_value.proofs.NameOrders.{ts_total}
use Rattle.thor_value.specs.FiniteMap.{Map, get, insert}
use Rattle.thor_value.specs.Names.{oref_cmp}
use Rattle.thor_value.specs.declared.names.Oref.{Oref}
use Rattle.thor_value.specs.declared.names.Ts.{Ts}
use Rattle.thor_value.specs.declared.values.Obj.{Obj}

first_request : Request → List (ℕ × Request) → Request
first_request d [] = d
first_request d (c ∷ cs) = c.1

pub one_commit : (n : ℕ) (q r : Request) → ◌≡◌ {A = List (ℕ × Request)} ((n, q) ∷ []) ((n, r) ∷ []) → q ≡ r
unfolding first_request
one_commit n q r e = ap (first_request q) e

pub no_commit : {A : Type 0} (cs : List (ℕ × Request)) (c : ℕ × Request) → cs ≡ [] → cs ≡ c ∷ [] → A
no_commit cs c e f = let g : [] ≡ c ∷ [] = sym e ∙ f in cc

begun_committed : (cs : List (ℕ × Request)) (n m : ℕ) (q : Request) (f : Fate) → FateBegun cs n q f → f ≡ Committed m → (m ≡ n) × (cs ≡ (n, q) ∷ [])
begun_committed cs n m q Open h e = cc
begun_committed cs n m q (Committed a) h e = let same : a ≡ m = cc in let at : a ≡ n = h.0 in (sym same ∙ at, h.1)
begun_committed cs n m q Aborted h e = absurd h

moved_committed : (cs : List (ℕ × Request)) (n m : ℕ) (q : Request) (f g : Fate) → FateMoves cs n q f g → g ≡ Committed m → (f ≡ Committed m) ⊎ ((m ≡ n) × (cs ≡ (n, q) ∷ []))
moved_committed cs n m q Open Open h e = cc
moved_committed cs n m q Open (Committed a) h e = let same : a ≡ m = cc in let at : a ≡ n = h.0 in inr (sym same ∙ at, h.1)
moved_committed cs n m q Open Aborted h e = cc
moved_committed cs n m q (Committed a) Open h e = absurd h
moved_committed cs n m q (Committed a) (Committed at) h e = inl (ap Committed (sym h) ∙ e)
moved_committed cs n m q (Committed a) Aborted h e = absurd h
moved_committed cs n m q Aborted Open h e = absurd h
moved_committed cs n m q Aborted (Committed at) h e = absurd h
moved_committed cs n m q Aborted Aborted h e = cc

pub stays_committed : (m : ℕ) (f g : Fate) → f ≡ Committed m → FateStays f g → g ≡ Committed m
stays_committed m Open g e s = cc
stays_committed m (Committed a) Open e s = absurd s
stays_committed m (Committed a) (Committed at) e s = ap Committed s ∙ e
stays_committed m (Committed a) Aborted e s = absurd s
stays_committed m Aborted g e s = cc

pub a_place : (n : ℕ) (f : Fate) → CommittedBelow n f → (m : ℕ) × (f ≡ Committed m) × (m < n)
a_place n Open c = absurd c
a_place n (Committed a) c = (a, refl, c)
a_place n Aborted c = absurd c

pub committed_at_place : (n m : ℕ) (f : Fate) → f ≡ Committed m → m < n → CommittedBelow n f
committed_at_place n m Open e l = cc
committed_at_place n m (Committed a) e l = let same : a ≡ m = cc in omega arith
committed_at_place n m Aborted e l = cc

pub fits_at : (p n m : ℕ) (f : Fate) → f ≡ Committed m → FateFits p n f → (p ≤ m) × (m < n)
fits_at p n m Open e h = cc
fits_at p n m (Committed a) e h = let same : a ≡ m = cc in let h0 : p ≤ a = h.0 in let h1 : a < n = h.1 in (omega arith, omega arith)
fits_at p n m Aborted e h = cc

or_old : (g d : Option Obj) → is_some g ≡ false → option_or g d ≡ d
or_old None d h = refl
or_old (Some v) d h = cc

or_new : (g d : Option Obj) → is_some g ≡ true → option_or g d ≡ g
or_new None d h = cc
or_new (Some v) d h = refl

abbrev pub one_if : Bool → ℕ → Request → List (ℕ × Request)
one_if x n q = cond x ((n, q) ∷ []) []

module _ (b : Base) where
  by_test : (S : State) (x : Bool) (q : Request) → (one_if x S.length q ≡ []) ⊎ ((r : Request) × (one_if x S.length q ≡ (S.length, r) ∷ []))
  by_test S true q = inr (q, refl)
  by_test S false q = inl refl

  by_standing : (S : State) (c : Bool) (o : Option Known) → (commit_by S c o ≡ []) ⊎ ((q : Request) × (commit_by S c o ≡ (S.length, q) ∷ []))
  by_standing S c None = inl refl
  by_standing S c (Some p) = by_test S (c && is_open p.fate) p.request

  -- an entry is no commit or one
  pub commit_shape : (S : State) (e : Entry) → (commit_of b S e ≡ []) ⊎ ((q : Request) × (commit_of b S e ≡ (S.length, q) ∷ []))
  commit_shape S (Life n) = inl refl
  commit_shape S (One q) = inr (q, refl)
  commit_shape S (Prepared q) = inl refl
  commit_shape S (Upgraded q) = inr (q, refl)
  commit_shape S (Decided t c) = by_standing S c (known_in b S t)
  commit_shape S (Finished t c) = by_standing S c (known_in b S t)

  -- u stands in S with the request q, committed at n
  abbrev pub CommittedHere : State → Ts → Request → ℕ → Type 0
  CommittedHere S u q n = (w : Known) × (known_in b S u ≡ Some w) × (w.request ≡ q) × (w.fate ≡ Committed n)

  at_key : (S : State) (u : Ts) (p : Known) → option_map (or_lost b S u) (get (insert S.known u p) u) ≡ Some (or_lost b S u p)
  at_key S u p = ap (option_map (or_lost b S u)) (get-insert ts_total S.known u p u ∙ ap (λ o. cond (is_eq o) (Some p) (get S.known u)) (tied_itself ts_total u))

  settled_here : (S : State) (t : Ts) (c : Bool) (o : Option Known) (q : Request) → commit_by S c o ≡ (S.length, q) ∷ [] → ((p : Known) → o ≡ Some p → p.request.tx ≡ t) → CommittedHere (settle S t c o) q.tx q S.length
  settled_here S t c None q h named = cc
  settled_here S t c (Some p) q h named = by_fate p.fate c h
    where
      by_fate : (f : Fate) (d : Bool) → one_if (d && is_open f) S.length p.request ≡ (S.length, q) ∷ [] → CommittedHere (settle_by S t d p f) q.tx q S.length
      by_fate Open true k =
          let same : p.request ≡ q = one_commit S.length p.request q k in
          let tx : t ≡ q.tx = sym (named p refl) ∙ ap (λ (r : Request). r.tx) same in
          subst (λ u. CommittedHere (commit S t p.place p.request) u q S.length) tx (record { place = p.place; request = p.request; fate = Committed S.length }, at_key S t (record { place = p.place; request = p.request; fate = Committed S.length }), same, refl)
      by_fate Open false k = cc
      by_fate (Committed a) true k = cc
      by_fate (Committed a) false k = cc
      by_fate Aborted true k = cc
      by_fate Aborted false k = cc

  -- the transaction that an entry commits stands committed behind it
  pub commit_here : (S : State) (e : Entry) (q : Request) → Placed b S → commit_of b S e ≡ (S.length, q) ∷ [] → CommittedHere (put b S e) q.tx q S.length
  commit_here S (Life n) q h k = cc
  commit_here S (One r) q h k =
      let same = one_commit S.length r q k in
      let new : Known = record { place = S.length; request = r; fate = Committed S.length } in
      subst (λ u. CommittedHere (put b S (One r)) u q S.length) (ap (λ (s : Request). s.tx) same) (new, at_key S r.tx new, same, refl)
  commit_here S (Prepared r) q h k = cc
  commit_here S (Upgraded r) q h k =
      let same = one_commit S.length r q k in
      let new : Known = record { place = S.length; request = r; fate = Committed S.length } in
      subst (λ u. CommittedHere (put b S (Upgraded r)) u q S.length) (ap (λ (s : Request). s.tx) same) (new, at_key S r.tx new, same, refl)
  commit_here S (Decided t c) q h k = settled_here S t c (known_in b S t) q k (λ p is. (h.fits t p is).named)
  commit_here S (Finished t c) q h k = settled_here S t c (known_in b S t) q k (λ p is. (h.fits t p is).named)

  -- a commit behind an entry is of before, or is this entry
  pub committed_end : (H : List Entry) (e : Entry) → sound b H → owes b (state b H) e → (s : Ts) (w : Known) (m : ℕ) → known_by b (H ++ e ∷ []) s ≡ Some w → w.fate ≡ Committed m
      → ((o : Known) × (known_by b H s ≡ Some o) × (o.fate ≡ Committed m) × (w.request ≡ o.request)) ⊎ ((m ≡ length H) × (commit_of b (state b H) e ≡ (length H, w.request) ∷ []))
  committed_end H e sd ow s w m is f = elim (came_end b H e sd ow s w is) [
    | inl x ↦ inr (begun_committed (commit_of b (state b H) e) (length H) m w.request w.fate x.1.3 f)
    | inr x ↦ elim (moved_committed (commit_of b (state b H) e) (length H) m x.0.request x.0.fate w.fate x.2.2 f) [
      | inl old ↦ inl (x.0, x.1, old, x.2.1)
      | inr new ↦ inr (new.0, subst (λ q. commit_of b (state b H) e ≡ (length H, q) ∷ []) (sym x.2.1) new.1)
    ]
  ]

  -- a transaction that committed below the place n had committed in the history below n
  stood_committed : (H : List Entry) → sound b H → (n : ℕ) → n ≤ length H → (s : Ts) (w : Known) (m : ℕ) → known_by b H s ≡ Some w → w.fate ≡ Committed m → m < n
      → (o : Known) × (known_by b (take n H) s ≡ Some o) × (o.fate ≡ Committed m) × (w.request ≡ o.request)
  stood_committed =
      by_growth b (λ H. (n : ℕ) → n ≤ length H → (s : Ts) (w : Known) (m : ℕ) → known_by b H s ≡ Some w → w.fate ≡ Committed m → m < n → (o : Known) × (known_by b (take n H) s ≡ Some o) × (o.fate ≡ Committed m) × (w.request ≡ o.request))
      (λ n h s w m is f l. cc)
      (λ H e sd ih ow n h s w m is f l.
      let goal = λ (G : List Entry). (o : Known) × (known_by b G s ≡ Some o) × (o.fate ≡ Committed m) × (w.request ≡ o.request) in
      elim (le_cases n (length H) (subst (λ k. n ≤ k) (length-append H (e ∷ [])) h)) [
        | inl k ↦ subst goal (sym (take-append-le n H (e ∷ []) k)) (elim (committed_end H e sd ow s w m is f) [
          | inl x ↦ let y = ih n k s x.0 m x.1 x.2 l in (y.0, y.1, y.2, x.3 ∙ y.3)
          | inr x ↦ let at : m ≡ length H = x.0 in absurd (omega arith)
        ])
        | inr k ↦
            let whole : take n (H ++ e ∷ []) ≡ H ++ e ∷ [] = ap (λ j. take j (H ++ e ∷ [])) (k ∙ sym (length-append H (e ∷ []))) ∙ take-length (H ++ e ∷ []) in
            subst goal (sym whole) (w, is, f, refl)
      ])

  -- ---- the commit that an object comes from

  object_end : (H : List Entry) (e : Entry) (x : Oref) → get (state b (H ++ e ∷ [])).objects x ≡ get (with_writes (state b H).objects (commit_of b (state b H) e)) x
  object_end H e x = ap (λ (S : State). get S.objects x) (state-end b H e) ∙ ap (λ (m : Map oref_cmp Obj). get m x) (objects-put b (state b H) e)

  -- an entry that doesn't write x leaves where it comes from
  carried : (H : List Entry) (e : Entry) (x : Oref) → sound b H → owes b (state b H) e → ((q : Request) → commit_of b (state b H) e ≡ (length H, q) ∷ [] → has_written q x ≡ false)
      → get (state b (H ++ e ∷ [])).objects x ≡ get (state b H).objects x → ComesFrom b H x → ComesFrom b (H ++ e ∷ []) x
  carried H e x sd ow quiet same (inl u) = inl (record {
    none = λ s w m is f wrote. elim (committed_end H e sd ow s w m is f) [
      | inl y ↦ u.none s y.0 m y.1 y.2 (subst (λ q. IsTrue (has_written q x)) y.3 wrote)
      | inr y ↦ let n = quiet w.request y.1 in cc
    ];
    value = same ∙ u.value;
  })
  carried H e x sd ow quiet same (inr (s, w, at, from)) =
      let y = stays b H (e ∷ []) (sound-end b H e sd ow) s w from.there in
      let st : Stays w y.0 = y.2 in
      inr (
        s,
        y.0,
        at,
        record {
          there = y.1;
          fate = stays_committed at w.fate y.0.fate from.fate st.fate;
          wrote = subst (λ q. IsTrue (has_written q x)) (sym st.request) from.wrote;
          value = same ∙ from.value ∙ ap (λ q. get (written q) x) (sym st.request);
          last = λ r v m is f wrote. elim (committed_end H e sd ow r v m is f) [
            | inl z ↦ from.last r z.0 m z.1 z.2 (subst (λ q. IsTrue (has_written q x)) z.3 wrote)
            | inr z ↦ let n = quiet v.request z.1 in absurd (cc)
          ];
        },
      )

  -- an entry that commits a write of x is where it comes from
  taken_over : (H : List Entry) (e : Entry) (x : Oref) (q : Request) → sound b H → owes b (state b H) e → commit_of b (state b H) e ≡ (length H, q) ∷ [] → has_written q x ≡ true → ComesFrom b (H ++ e ∷ []) x
  taken_over H e x q sd ow is wrote =
      let n = length-state b H in
      let here = commit_here (state b H) e q (placed b H sd) (subst (λ k. commit_of b (state b H) e ≡ (k, q) ∷ []) (sym n) is) in
      let here' : CommittedHere (state b (H ++ e ∷ [])) q.tx q (length H) = subst (λ S. CommittedHere S q.tx q (length H)) (sym (state-end b H e)) (subst (CommittedHere (put b (state b H) e) q.tx q) n here) in
      inr (
        q.tx,
        here'.0,
        length H,
        record {
          there = here'.1;
          fate = here'.3;
          wrote = subst (λ r. IsTrue (has_written r x)) (sym here'.2) wrote;
          value =
              object_end H e x
              ∙ ap (λ cs. get (with_writes (state b H).objects cs) x) is
              ∙ get-overwrite x (state b H).objects q
              ∙ or_new (get (written q) x) _ wrote
              ∙ ap (λ r. get (written r) x) (sym here'.2);
          last = λ r v m it f w. elim (committed_end H e sd ow r v m it f) [
            | inl y ↦ let l : m < length H = (fits_at y.0.place (length H) m y.0.fate y.2 (fits b H sd r y.0 y.1).fate).1 in omega arith
            | inr y ↦ let at : m ≡ length H = y.0 in omega arith
          ];
        },
      )

  by_write : (H : List Entry) (e : Entry) (x : Oref) (q : Request) → sound b H → owes b (state b H) e → commit_of b (state b H) e ≡ (length H, q) ∷ [] → ComesFrom b H x → (y : Bool) → has_written q x ≡ y → ComesFrom b (H ++ e ∷ []) x
  by_write H e x q sd ow is old true w = taken_over H e x q sd ow is w
  by_write H e x q sd ow is old false w =
      carried H e x sd ow
      (λ r k. subst (λ s. has_written s x ≡ false) (one_commit (length H) q r (sym is ∙ k)) w)
      (object_end H e x ∙ ap (λ cs. get (with_writes (state b H).objects cs) x) is ∙ get-overwrite x (state b H).objects q ∙ or_old (get (written q) x) _ w)
      old

  pub source : (x : Oref) (H : List Entry) → sound b H → ComesFrom b H x
  source x =
      by_growth b (λ H. ComesFrom b H x) (inl (record { none = λ s w m is f wrote. cc; value = refl }))
      (λ H e sd ih ow. elim (commit_shape (state b H) e) [
        | inl none ↦ carried H e x sd ow (λ q k. no_commit (commit_of b (state b H) e) (length H, q) none k) (object_end H e x ∙ ap (λ cs. get (with_writes (state b H).objects cs) x) none) ih
        | inr one ↦ by_write H e x one.0 sd ow (subst (λ k. commit_of b (state b H) e ≡ (k, one.0) ∷ []) (length-state b H) one.1) ih (has_written one.0 x) refl
      ])

  -- ---- what a request reads

  whole_again : (H : List Entry) → sound b H → (n : ℕ) (s : Ts) (o : Known) → known_by b (take n H) s ≡ Some o → (w : Known) × (known_by b H s ≡ Some w) × Stays o w
  whole_again H sd n s o is =
      let again = take-append-drop n H in
      subst (λ G. (w : Known) × (known_by b G s ≡ Some w) × Stays o w) again (stays b (take n H) (drop n H) (subst (sound b) (sym again) sd) s o is)

  pub reads_last : (H : List Entry) → sound b H → ReadsLast b H
  reads_last H sd = record {
    same = λ t s o w x r v. (
      (λ c.
          let l = below_place w.place o.place (length H) w.fate (fits b H sd s w v.there).fate c in
          let lives = committed_lives o.place w.fate c in
          (lives, (order b H sd).rises t s o w x (record { reader = r.there; writer = v.there; other = v.other; reader_lives = r.lives; writer_lives = lives; read = r.read; wrote = v.wrote }) l)),
      (λ h. (order b H sd).settled t s o w x (record { reader = r.there; writer = v.there; other = v.other; reader_lives = r.lives; writer_lives = h.0; read = r.read; wrote = v.wrote }) h.1),
    );
    value = λ t o x r.
        let n : ℕ = o.place in
        let in_h : n < length H = (fits b H sd t o r.there).below in
        let n_le : n ≤ length H = omega arith in
        elim (source x (take n H) (sound_take b n H sd)) [
          | inl u ↦ inl (record {
            none = λ s w v c.
                let p = a_place n w.fate c in
                let y = stood_committed H sd n n_le s w p.0 v.there p.1 p.2 in
                u.none s y.0 p.0 y.1 y.2 (subst (λ q. IsTrue (has_written q x)) y.3 v.wrote);
            value = u.value;
          })
          | inr f ↦
              let s : Ts = f.0 in
              let w : Known = f.1 in
              let at : ℕ = f.2 in
              let from = f.3 in
              let prefix_fits : Fits (length (take n H)) s w = fits b (take n H) (sound_take b n H sd) s w from.there in
              let at_below : at < length (take n H) = (fits_at w.place (length (take n H)) at w.fate from.fate prefix_fits.fate).1 in
              let short : length (take n H) ≡ n = length-take-le n H n_le in
              let y = whole_again H sd n s w from.there in
              let w' : Known = y.0 in
              let there : known_by b H s ≡ Some w' = y.1 in
              let st : Stays w w' = y.2 in
              let fate : w'.fate ≡ Committed at = stays_committed at w.fate w'.fate from.fate st.fate in
              let wrote : IsTrue (has_written w'.request x) = subst (λ q. IsTrue (has_written q x)) (sym st.request) from.wrote in
              let w_below : w.place < length (take n H) = prefix_fits.below in
              let moved : w'.place ≡ w.place = st.place in
              let committed : CommittedBelow n w'.fate = committed_at_place n at w'.fate fate (omega arith) in
              inr (
                s,
                w',
                record {
                  writes = record {
                    there = there;
                    other = λ e.
                        let one : Some w' ≡ Some o = sym there ∙ subst (λ u. known_by b H u ≡ Some o) (sym e) r.there in
                        let place : w'.place ≡ n = ap (λ (u : Known). u.place) (same_Some w' o one) in
                        omega arith;
                    wrote = wrote;
                  };
                  committed = committed;
                  last = λ u v z c other.
                      let p = a_place n v.fate c in
                      let m : ℕ = p.0 in
                      let old = stood_committed H sd n n_le u v m z.there p.1 p.2 in
                      let m_le : m ≤ at = from.last u old.0 m old.1 old.2 (subst (λ q. IsTrue (has_written q x)) old.3 z.wrote) in
                      let v_le : v.place ≤ m = (fits_at v.place (length H) m v.fate p.1 (fits b H sd u v z.there).fate).0 in
                      elim (in_order u s) [
                        | inl e ↦ e
                        | inr h ↦ elim h [
                          | inl same ↦ absurd (other same)
                          | inr e ↦
                              let both : BothWrote b H s u w' v x = record { first = there; second = z.there; first_lives = committed_lives n w'.fate committed; second_lives = committed_lives n v.fate c; first_wrote = wrote; second_wrote = z.wrote } in
                              let l : at < v.place = committed_at v.place at w'.fate fate ((writers_rise b H sd).settled s u w' v x both e) in
                              absurd (omega arith)
                        ]
                      ];
                  value = from.value ∙ ap (λ q. get (written q) x) (sym st.request);
                },
              )
        ];
  }
