-- What growth and calls leave of a transaction that won't commit any more.
use Rattle.log_entries.specs.declared.entry.Entry.TheVariants.{Decided, Finished, Life, One, Prepared, Upgraded}
use Rattle.log_entries.specs.declared.entry.Entry.{Entry}
use Rattle.log_entries.specs.declared.request.Request.{Request}
use Rattle.law_cache_coherence.proofs.Passing.{after_entry}
use Rattle.law_cache_coherence.proofs.Telling.{client_stays, decided_by, left_from, no_commit, not_left, one_request}
use Rattle.law_cache_coherence.proofs.Leaving.{is_such}
use Rattle.law_cache_coherence.specs.Doomed.{DoomedAt, NoneComes, decides}
use Rattle.spec_history.proofs.Growth.{owed-end, sound-beginning, state-end}
use Rattle.spec_history.proofs.Places.{goes, placed}
use Rattle.spec_history.proofs.Steps as steps
use Rattle.spec_history.proofs.Telling.{known-unleft}
use Rattle.spec_history.specs.History.{Aborted, Base, Committed, Fate, IsCommitted, Known, Open, State, commit_by, commit_of, known_by, known_in, state}
use Rattle.spec_history.specs.Sound.{owes, sound}
use Rattle.client_port.specs.Growing.{ComesDown, Gains, GainsAll, Grew, MayHalt}
use Rattle.client_port.specs.Views.{Calm, Halted, MayCome, Unsettled}
use Rattle.spec_trace.proofs.Exactness.{exact-beginning, exact-owed}
use Rattle.spec_trace.proofs.Taken.{after-mark}
use Rattle.spec_trace.proofs.Traces.{entries-append}
use Rattle.spec_trace.specs.Exact.{ItemIsExact, exact}
use Rattle.spec_trace.specs.Gaps.{client_in, maker}
use Rattle.spec_trace.specs.Trace.{E, Item, M, entries}
use Rattle.std.proofs.Common.{Bool, List, [], ap, append_assoc, false, inl, inr, is_eq, refl, subst, sym, true, ◌++◌, ◌∙◌, ◌∷◌, ◌≡◌, ◌≢◌, ℕ}
use Rattle.std.proofs.lemmas.List.{append-nil}
use Rattle.std.proofs.lemmas.Map.Views.{tells_apart}
use Rattle.std.specs.Option.{option_and_then}
use Rattle.std.specs.Prelude.{None, Option, Some, ◌&&◌}
use Rattle.std.proofs.lemmas.Cmp.{tied_itself}
use Rattle.thor_value.proofs.NameOrders.{ts_exact, ts_total}
use Rattle.thor_value.specs.FiniteMap.{get}
use Rattle.thor_value.specs.Names.{same_ts}
use Rattle.thor_value.specs.declared.names.Ts.{Ts}

true_right : (x y : Bool) → (x && y) ≡ true → y ≡ true
true_right true y e = e
true_right false y e = cc

-- ---- a decision to commit

commits_only_so : (S : State) (k : Bool) (o : Option Known) (n : ℕ) (q : Request) → commit_by S k o ≡ (n, q) ∷ [] → k ≡ true
commits_only_so S true o n q e = refl
commits_only_so S false None n q e = cc
commits_only_so S false (Some p) n q e = cc

is_decided : (t u : Ts) (k : Bool) → k ≡ true → u ≡ t → decides t (Decided u k) ≡ true
is_decided t u k on same = ap (λ (x : Bool). x && same_ts u t) on ∙ ap (λ (v : Ts). same_ts v t) same ∙ ap is_eq (tied_itself ts_total t)

module _ (c : ℕ) (b : Base) where
  module _ (T : List Item) (t : Ts) (o : Known) (home : t.repo ≡ b.repo) (is : known_by b (entries T) t ≡ Some o) (sd : sound b (entries T)) where
    named : o.request.tx ≡ t
    named = ((placed b (entries T) sd).fits t o is).named

    once : (q : Request) → known_by b (entries T) q.tx ≡ None → q ≡ o.request → ⊥
    once q none same = let f : None ≡ Some o = sym none ∙ ap (λ (r : Request). known_by b (entries T) r.tx) same ∙ ap (known_by b (entries T)) named ∙ is in cc

    -- what commits it at its coordinator is a decision
    commits_by_decision : (e : Entry) → owes b (state b (entries T)) e → (n : ℕ) → commit_of b (state b (entries T)) e ≡ (n, o.request) ∷ [] → decides t e ≡ true
    commits_by_decision (Life k) ow n e = absurd (no_commit c b n o.request e)
    commits_by_decision (Prepared q) ow n e = absurd (no_commit c b n o.request e)
    commits_by_decision (One q) ow n e = absurd (once q ow.0.vouched.once (one_request c b (state b (entries T)).length n q o.request e))
    commits_by_decision (Upgraded q) ow n e = absurd (once q ow.0.vouched.once (one_request c b (state b (entries T)).length n q o.request e))
    commits_by_decision (Decided u k) ow n e =
        let y = decided_by c b (state b (entries T)) k (known_by b (entries T) u) n o.request e in
        let same : u ≡ t = sym (((placed b (entries T) sd).fits u y.0 y.1).named) ∙ ap (λ (r : Request). r.tx) y.2 ∙ named in
        is_decided t u k (commits_only_so (state b (entries T)) k (known_by b (entries T) u) n o.request e) same
    commits_by_decision (Finished u k) ow n e =
        let y = decided_by c b (state b (entries T)) k (known_by b (entries T) u) n o.request e in
        let same : u ≡ t = sym (((placed b (entries T) sd).fits u y.0 y.1).named) ∙ ap (λ (r : Request). r.tx) y.2 ∙ named in
        absurd (elim ow [
          | inl x ↦ x.1 (ap (λ (z : Ts). z.repo) same ∙ home)
          | inr left ↦ not_left c b (get (state b (entries T)).left u) (λ l. l.commits ≡ k) (λ l at. let f : None ≡ Some l = sym (known-unleft b (entries T) sd u y.0 y.1) ∙ left_from c b (entries T) sd u l at in cc) left.1
        ])

    -- behind an entry that doesn't decide so it hasn't committed either
    entry_on : (e : Entry) → decides t e ≡ false → owes b (state b (entries T)) e → ¬ IsCommitted o.fate → (w : Known) × (known_by b (entries T ++ e ∷ []) t ≡ Some w) × (w.request ≡ o.request) × ¬ IsCommitted w.fate
    entry_on e other ow not =
        let y = goes b (state b (entries T)) e (placed b (entries T) sd).began ow t o is in
        (y.0, ap (λ (S : State). known_in b S t) (state-end b (entries T) e) ∙ y.1, y.2.1, fate o.fate y.0.fate (commit_of b (state b (entries T)) e) refl y.2.2 not)
      where
        fate : (f g : Fate) (cs : List (ℕ × Request)) → commit_of b (state b (entries T)) e ≡ cs → steps.FateMoves cs (state b (entries T)).length o.request f g → ¬ IsCommitted f → ¬ IsCommitted g
        fate Open Open cs z m n done = done
        fate Open (Committed at) cs z m n done = let f : false ≡ true = sym other ∙ commits_by_decision e ow (state b (entries T)).length (z ∙ m.1) in cc
        fate Open Aborted cs z m n done = done
        fate (Committed a) g cs z m n done = n tt
        fate Aborted Open cs z m n done = done
        fate Aborted (Committed at) cs z m n done = m
        fate Aborted Aborted cs z m n done = done

    -- another client's item doesn't decide so
    others_none : client_in b T o.request.session ≡ Some c → (i : Item) → maker b T i ≢ Some c → is_such (decides t) i ≡ false
    others_none own (M m) other = refl
    others_none own (E (Life n)) other = refl
    others_none own (E (One q)) other = refl
    others_none own (E (Prepared q)) other = refl
    others_none own (E (Upgraded q)) other = refl
    others_none own (E (Finished u k)) other = refl
    others_none own (E (Decided u k)) other = by (k && same_ts u t) refl
      where
        by : (x : Bool) → (k && same_ts u t) ≡ x → (k && same_ts u t) ≡ false
        by false e = e
        by true e = absurd (other (ap (option_and_then (λ p. client_in b T p.request.session)) (ap (known_by b (entries T)) (tells_apart ts_exact u t (true_right k (same_ts u t) e)) ∙ is) ∙ own))

  -- ---- one item

  pub item_on : (T : List Item) (i : Item) (u w : Unsettled) (t : Ts) → t.repo ≡ b.repo → is_such (decides t) i ≡ false → ItemIsExact b T i → sound b (entries (T ++ i ∷ [])) → NoneComes (decides t) w → DoomedAt c b u T t → DoomedAt c b w (T ++ i ∷ []) t
  item_on T (M m) u w t home other k sd coming d = record {
    o = d.o;
    there = ap (λ (H : List Entry). known_by b H t) (after-mark b T m) ∙ d.there;
    own = client_stays c b T (M m) d.o.request.session k d.own;
    uncommitted = d.uncommitted;
    coming = coming;
  }
  item_on T (E e) u w t home other k sd coming d =
      let split : sound b (entries T ++ e ∷ []) = subst (sound b) (after_entry b T e) sd in
      let y = entry_on T t d.o home d.there (sound-beginning b (entries T) (e ∷ []) split) e other (owed-end b (entries T) e split) d.uncommitted in
      record {
        o = y.0;
        there = ap (λ (H : List Entry). known_by b H t) (after_entry b T e) ∙ y.1;
        own = client_stays c b T (E e) y.0.request.session k (ap (λ (r : Request). client_in b T r.session) y.2 ∙ d.own);
        uncommitted = y.3;
        coming = coming;
      }

  -- ---- growth

  -- what is on its way behind an entry that comes while the client's own e may come
  comes_none : (e d : Entry) (T : List Item) (t : Ts) (w : Unsettled) → ComesDown b c e T d w → decides t e ≡ false → NoneComes (decides t) w
  comes_none e d T t w h coming = elim h [
    | inl own ↦ subst (NoneComes (decides t)) (sym own.1) tt
    | inr other ↦ subst (NoneComes (decides t)) (sym other.1) coming
  ]

  gains_none : (T : List Item) (t : Ts) (u w : Unsettled) (i : Item) → Gains b c u T i w → sound b (entries T) → t.repo ≡ b.repo → DoomedAt c b u T t → (is_such (decides t) i ≡ false) × NoneComes (decides t) w
  gains_none T t Calm w i g sd home d = (others_none T t d.o home d.there sd d.own i g.0, subst (NoneComes (decides t)) (sym g.1) tt)
  gains_none T t (MayCome e) w (M m) g sd home d = (refl, subst (NoneComes (decides t)) (sym g.1) d.coming)
  gains_none T t (MayCome e) w (E (Life n)) g sd home d = (refl, subst (NoneComes (decides t)) (sym g) tt)
  gains_none T t (MayCome e) w (E (One q)) g sd home d = (refl, comes_none e (One q) T t w g d.coming)
  gains_none T t (MayCome e) w (E (Prepared q)) g sd home d = (refl, comes_none e (Prepared q) T t w g d.coming)
  gains_none T t (MayCome e) w (E (Decided v k)) g sd home d = (
    elim g [
      | inl own ↦ ap (decides t) own.0 ∙ d.coming
      | inr other ↦ others_none T t d.o home d.there sd d.own (E (Decided v k)) other.0
    ],
    comes_none e (Decided v k) T t w g d.coming,
  )
  gains_none T t (MayCome e) w (E (Finished v k)) g sd home d = (refl, comes_none e (Finished v k) T t w g d.coming)
  gains_none T t (MayCome e) w (E (Upgraded q)) g sd home d = (refl, comes_none e (Upgraded q) T t w g d.coming)
  gains_none T t Halted w (M m) g sd home d = (refl, subst (NoneComes (decides t)) (sym g.1) tt)
  gains_none T t Halted w (E (Life n)) g sd home d = (refl, subst (NoneComes (decides t)) (sym g) tt)
  gains_none T t Halted w (E (One q)) g sd home d = (refl, subst (NoneComes (decides t)) (sym g.1) tt)
  gains_none T t Halted w (E (Prepared q)) g sd home d = (refl, subst (NoneComes (decides t)) (sym g.1) tt)
  gains_none T t Halted w (E (Decided v k)) g sd home d = (others_none T t d.o home d.there sd d.own (E (Decided v k)) g.0, subst (NoneComes (decides t)) (sym g.1) tt)
  gains_none T t Halted w (E (Finished v k)) g sd home d = (refl, subst (NoneComes (decides t)) (sym g.1) tt)
  gains_none T t Halted w (E (Upgraded q)) g sd home d = (refl, subst (NoneComes (decides t)) (sym g.1) tt)

  halts_none : (t : Ts) (u w : Unsettled) → MayHalt u w → NoneComes (decides t) u → NoneComes (decides t) w
  halts_none t Calm Calm m d = tt
  halts_none t Calm Halted m d = tt
  halts_none t Calm (MayCome e) m d = absurd m
  halts_none t (MayCome e) Calm m d = tt
  halts_none t (MayCome e) (MayCome f) m d = subst (λ (x : Entry). decides t x ≡ false) (sym m) d
  halts_none t (MayCome e) Halted m d = tt
  halts_none t Halted Calm m d = tt
  halts_none t Halted (MayCome e) m d = absurd m
  halts_none t Halted Halted m d = tt

  all_on : (T is : List Item) (u w : Unsettled) (t : Ts) → GainsAll b c u T is w → exact b (T ++ is) → sound b (entries (T ++ is)) → t.repo ≡ b.repo → DoomedAt c b u T t → DoomedAt c b w (T ++ is) t
  all_on T [] u w t g k sd home d = subst (λ (S : List Item). DoomedAt c b w S t) (sym (append-nil T)) (record { o = d.o; there = d.there; own = d.own; uncommitted = d.uncommitted; coming = halts_none t u w g d.coming })
  all_on T (i ∷ is) u w t g k sd home d =
      let U : List Item = T ++ i ∷ [] in
      let again : U ++ is ≡ T ++ (i ∷ is) = append_assoc T (i ∷ []) is in
      let k' : exact b (U ++ is) = subst (exact b) (sym again) k in
      let sd' : sound b (entries (U ++ is)) = subst (λ (S : List Item). sound b (entries S)) (sym again) sd in
      let here : sound b (entries U) = sound-beginning b (entries U) (entries is) (subst (sound b) (entries-append U is) sd') in
      let before : sound b (entries T) = sound-beginning b (entries T) (entries (i ∷ [])) (subst (sound b) (entries-append T (i ∷ [])) here) in
      let n = gains_none T t u g.0 i g.1 before home d in
      subst (λ (S : List Item). DoomedAt c b w S t) again (all_on U is g.0 w t g.2 k' sd' home (item_on T i u g.0 t home n.0 (exact-owed b T i (exact-beginning b U is k')) here n.1 d))

  pub grown_on : (u w : Unsettled) (T S : List Item) (t : Ts) → Grew b c u T w S → exact b S → sound b (entries S) → t.repo ≡ b.repo → DoomedAt c b u T t → DoomedAt c b w S t
  grown_on u w T S t g k sd home d =
      subst (λ (Z : List Item). DoomedAt c b w Z t) (sym g.ends)
      (all_on T g.gap u w t g.gains (subst (exact b) g.ends k) (subst (λ (Z : List Item). sound b (entries Z)) g.ends sd) home d)

  -- ---- others decide nothing

  pub decide_nothing : (T S : List Item) → Grew b c Calm T Calm S → exact b S → sound b (entries S) → (t : Ts) (o w : Known) → t.repo ≡ b.repo → known_by b (entries T) t ≡ Some o → client_in b T o.request.session ≡ Some c
      → known_by b (entries S) t ≡ Some w → IsCommitted w.fate → IsCommitted o.fate
  decide_nothing T S g k sd t o w home there own then' done = by o.fate refl
    where
      not_so : ¬ IsCommitted o.fate → ⊥
      not_so not =
          let d : DoomedAt c b Calm S t = grown_on Calm Calm T S t g k sd home (record { o = o; there = there; own = own; uncommitted = not; coming = tt }) in
          let both : Some d.o ≡ Some w = sym d.there ∙ then' in
          let same : d.o ≡ w = cc in
          d.uncommitted (subst (λ (z : Known). IsCommitted z.fate) (sym same) done)

      by : (f : Fate) → o.fate ≡ f → IsCommitted o.fate
      by Open e = absurd (not_so (λ h. subst IsCommitted e h))
      by (Committed at) e = subst IsCommitted (sym e) tt
      by Aborted e = absurd (not_so (λ h. subst IsCommitted e h))
