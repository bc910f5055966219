-- What is known belongs together after each step.
use Rattle.std.proofs.Common.{◌≡◌, ℕ, List, [], ◌∷◌, ◌++◌, take, length, Some, ap, sym, ◌∙◌, subst, ⊎_elim, arith}
use Rattle.std.specs.Prelude.{slice_get}
use Rattle.std.proofs.lemmas.List.{take-append-le, take_all, map-append}
use Rattle.std.proofs.lemmas.Option.{slice_get_within}
use mathlib.Core.Logic.{dite}
use mathlib.Core.List.{IsPrefix}
use native.Mathlib.Decide.{ℕ_discrete}
use Rattle.seen_board.specs.declared.knowledge.Knowledge.{Knowledge}
use Rattle.seen_board.specs.declared.knowledge.Made.{Made}
use Rattle.seen_board.specs.declared.knowledge.Maker.TheVariants.{Call}
use Rattle.seen_board.specs.Clauses.{StillMay}
use Rattle.seen_board.specs.Knowledge.{Coherent, Covered, Follows, InOrder, MayAdd, all_unowned, at, both, histories, items_of, longer_by, nothing, together, with_call, with_item}
use Rattle.seen_board.specs.Meaning.{Lasts, Meaning, stays_at}
use Rattle.seen_board.proofs.Prefixes.{get_push}
use Rattle.seen_board.proofs.Owned.{grown_else, grown_here, prefix_longer_by, prefix_together, together_either}

pub same_client : (k i l j : ℕ) → Call k i ≡ Call l j → k ≡ l
same_client k i l j e = cc e

pub same_place : (k i l j : ℕ) → Call k i ≡ Call l j → i ≡ j
same_place k i l j e = cc e

module _ {I C : Type 0} (w : Meaning I C) where
  items_prefix : (xs ys : List (Made I)) → IsPrefix xs ys → IsPrefix (items_of xs) (items_of ys)
  items_prefix xs ys p = (items_of p.0, sym (map-append (λ (m : Made I). m.item) xs p.0) ∙ ap items_of p.1)

  -- a covered item stays covered where more calls are known
  covered_more : (g h : Knowledge I C) (r : ℕ) (before : List (Made I)) (m : Made I) → ((k : ℕ) → IsPrefix (at g.calls k) (at h.calls k)) → Covered w g r before m → Covered w h r before m
  covered_more g h r before m pre cov = (cov.0, λ k i e. let c = cov.1 k i e in (c.0, stays_at _ _ i c.0 (pre k) c.1, c.2))

  -- what might stand next in a history still may, where the history is the same and more calls are known
  pub still_may : (g h : Knowledge I C) (r : ℕ) → at h.items r ≡ at g.items r → ((k : ℕ) → IsPrefix (at g.calls k) (at h.calls k)) → StillMay w r g h
  still_may g h r same pre m may = subst (λ (l : List (Made I)). Covered w h r l m × Follows w l m) (sym same) (covered_more g h r (at g.items r) m pre may.0, may.1)

  pub nothing_coheres : (repos clients : List ℕ) → Coherent w (nothing repos clients)
  nothing_coheres repos clients = record { covered = λ r p m e. absurd (cc e); justified = λ k i c e. absurd (cc e); ordered = λ r. record { by_whom = λ p m k e. absurd (cc e); rises = λ p q m n k i j lt e. absurd (cc e) } }

  pub unowned_coheres : (h : Knowledge I C) → Coherent w h → Coherent w (all_unowned h)
  unowned_coheres h s = record { covered = s.covered; justified = s.justified; ordered = s.ordered }

  -- of two that begin the same lists
  pub both_cohere : Lasts w → (logs : ℕ → List (Made I)) (calls : ℕ → List C) (g h : Knowledge I C)
      → ((r : ℕ) → IsPrefix (at g.items r) (logs r)) → ((r : ℕ) → IsPrefix (at h.items r) (logs r)) → ((k : ℕ) → IsPrefix (at g.calls k) (calls k)) → ((k : ℕ) → IsPrefix (at h.calls k) (calls k))
      → Coherent w g → Coherent w h → Coherent w (both g h)
  both_cohere lasts logs calls g h gi hi gc hc s t =
      let items = prefix_together logs g.items h.items gi hi in
      let sent = prefix_together calls g.calls h.calls gc hc in record {
        covered = λ r p m. ⊎_elim
            (λ (is : at (together g.items h.items) r ≡ at g.items r). subst (λ (l : List (Made I)). slice_get l p ≡ Some m → Covered w (both g h) r (take p l) m) (sym is) (λ e. covered_more g (both g h) r _ m sent.0 (s.covered r p m e)))
            (λ (is : at (together g.items h.items) r ≡ at h.items r). subst (λ (l : List (Made I)). slice_get l p ≡ Some m → Covered w (both g h) r (take p l) m) (sym is) (λ e. covered_more h (both g h) r _ m sent.1 (t.covered r p m e)))
            (together_either g.items h.items r);
        justified = λ k i c e. ⊎_elim
            (λ (is : at (together g.calls h.calls) k ≡ at g.calls k). lasts (histories g) (histories (both g h)) c (λ r. items_prefix _ _ (items.0 r)) (s.justified k i c (subst (λ (l : List C). slice_get l i ≡ Some c) is e)))
            (λ (is : at (together g.calls h.calls) k ≡ at h.calls k). lasts (histories h) (histories (both g h)) c (λ r. items_prefix _ _ (items.1 r)) (t.justified k i c (subst (λ (l : List C). slice_get l i ≡ Some c) is e)))
            (together_either g.calls h.calls k);
        ordered = λ r. ⊎_elim
            (λ (is : at (together g.items h.items) r ≡ at g.items r). subst (InOrder w) (sym is) (s.ordered r))
            (λ (is : at (together g.items h.items) r ≡ at h.items r). subst (InOrder w) (sym is) (t.ordered r))
            (together_either g.items h.items r);
      }

  -- an item that follows keeps the order
  in_order_more : (l : List (Made I)) (m : Made I) → InOrder w l → Follows w l m → InOrder w (l ++ m ∷ [])
  in_order_more l m o f = record {
    by_whom = λ p n k e shown. ⊎_elim
        (λ (was : slice_get l p ≡ Some n). o.by_whom p n k was (shown_before p k n was shown))
        (λ (z : (p ≡ length l) × (m ≡ n)). let t = f k (shown_last p k n z.0 z.1 shown) in (t.0, sym (ap (λ (u : Made I). u.by) z.1) ∙ t.1))
        (get_push l m n p e);
    rises = λ p q n u k i j lt ep eq sp sq bp bq. ⊎_elim
        (λ (was : slice_get l q ≡ Some u).
        let short = slice_get_within l q u was in
        ⊎_elim
        (λ (earlier : slice_get l p ≡ Some n). o.rises p q n u k i j lt earlier was (shown_before p k n earlier sp) (shown_before q k u was sq) bp bq)
        (λ (z : (p ≡ length l) × (m ≡ n)). absurd (omega (arith, z.0, short, lt)))
        (get_push l m n p ep))
        (λ (z : (q ≡ length l) × (m ≡ u)).
        let t = f k (shown_last q k u z.0 z.1 sq) in
        let by_last : Call k t.0 ≡ Call k j = sym t.1 ∙ (ap (λ (v : Made I). v.by) z.1 ∙ bq) in
        let last : t.0 ≡ j = same_place k t.0 k j by_last in
        ⊎_elim
        (λ (earlier : slice_get l p ≡ Some n). let less = t.2 p n i earlier (shown_before p k n earlier sp) bp in omega (arith, less, last))
        (λ (y : (p ≡ length l) × (m ≡ n)). absurd (omega (arith, y.0, z.0, lt)))
        (get_push l m n p ep))
        (get_push l m u q eq);
  }
    where
      shown_before : (p k : ℕ) (n : Made I) → slice_get l p ≡ Some n → w.shows (items_of (take p (l ++ m ∷ []))) n.item ≡ Some k → w.shows (items_of (take p l)) n.item ≡ Some k
      shown_before p k n e = let lt = slice_get_within l p n e in subst (λ (x : List (Made I)). w.shows (items_of x) n.item ≡ Some k) (take-append-le p l (m ∷ []) (omega (arith, lt)))

      shown_last : (p k : ℕ) (n : Made I) → p ≡ length l → m ≡ n → w.shows (items_of (take p (l ++ m ∷ []))) n.item ≡ Some k → w.shows (items_of l) m.item ≡ Some k
      shown_last p k n at_end is shown =
          subst (λ (x : Made I). w.shows (items_of l) x.item ≡ Some k) (sym is)
          (subst (λ (x : List (Made I)). w.shows (items_of x) n.item ≡ Some k) (take-append-le p l (m ∷ []) (omega (arith, at_end)) ∙ take_all p l (omega (arith, at_end))) shown)

  -- one item more
  pub grown_coheres : Lasts w → (h : Knowledge I C) (r : ℕ) (m : Made I) → MayAdd w h r m → Coherent w h → Coherent w (with_item h r m)
  grown_coheres lasts h r m may s = record {
    covered = λ q p n. dite (ℕ_discrete q r)
        (λ e. subst (λ (k : ℕ). slice_get (at (longer_by h.items r m) k) p ≡ Some n → Covered w h k (take p (at (longer_by h.items r m) k)) n) (sym e) (here p n))
        (λ no. subst (λ (l : List (Made I)). slice_get l p ≡ Some n → Covered w h q (take p l) n) (sym (grown_else h.items r q m no)) (s.covered q p n));
    justified = λ k i c e. lasts (histories h) _ c (λ q. items_prefix _ _ (prefix_longer_by h.items r m q)) (s.justified k i c e);
    ordered = λ q. dite (ℕ_discrete q r)
        (λ e. subst (λ (k : ℕ). InOrder w (at (longer_by h.items r m) k)) (sym e) (subst (InOrder w) (sym (grown_here h.items r m)) (in_order_more (at h.items r) m (s.ordered r) may.1)))
        (λ no. subst (InOrder w) (sym (grown_else h.items r q m no)) (s.ordered q));
  }
    where
      old : List (Made I)
      old = at h.items r

      both_ends : (p : ℕ) (n : Made I) → slice_get (old ++ m ∷ []) p ≡ Some n → Covered w h r (take p (old ++ m ∷ [])) n
      both_ends p n e = ⊎_elim
          (λ (was : slice_get old p ≡ Some n). let lt = slice_get_within old p n was in subst (λ (l : List (Made I)). Covered w h r l n) (sym (take-append-le p old (m ∷ []) (omega (arith, lt)))) (s.covered r p n was))
          (λ (x : (p ≡ length old) × (m ≡ n)). subst (λ (l : List (Made I)). Covered w h r l n) (sym (take-append-le p old (m ∷ []) (omega (arith, x.0)) ∙ take_all p old (omega (arith, x.0)))) (subst (Covered w h r old) x.1 may.0))
          (get_push old m n p e)

      here : (p : ℕ) (n : Made I) → slice_get (at (longer_by h.items r m) r) p ≡ Some n → Covered w h r (take p (at (longer_by h.items r m) r)) n
      here p n = subst (λ (l : List (Made I)). slice_get l p ≡ Some n → Covered w h r (take p l) n) (sym (grown_here h.items r m)) (both_ends p n)

  -- one call more
  pub sent_coheres : (h : Knowledge I C) (k : ℕ) (c : C) → w.justified (histories h) c → Coherent w h → Coherent w (with_call h k c)
  sent_coheres h k c just s = record {
    covered = λ r p m e. covered_more h (with_call h k c) r _ m (prefix_longer_by h.calls k c) (s.covered r p m e);
    justified = λ q i d. dite (ℕ_discrete q k)
        (λ e. subst (λ (j : ℕ). slice_get (at (longer_by h.calls k c) j) i ≡ Some d → w.justified (histories h) d) (sym e) (subst (λ (l : List C). slice_get l i ≡ Some d → w.justified (histories h) d) (sym (grown_here h.calls k c)) (last i d)))
        (λ no. subst (λ (l : List C). slice_get l i ≡ Some d → w.justified (histories h) d) (sym (grown_else h.calls k q c no)) (s.justified q i d));
    ordered = s.ordered;
  }
    where
      last : (i : ℕ) (d : C) → slice_get (at h.calls k ++ c ∷ []) i ≡ Some d → w.justified (histories h) d
      last i d e = ⊎_elim (λ was. s.justified k i d was) (λ (x : (i ≡ length (at h.calls k)) × (c ≡ d)). subst (w.justified (histories h)) x.1 just) (get_push (at h.calls k) c d i e)
