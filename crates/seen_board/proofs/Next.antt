-- The call that was sent last may make the next item.
use Rattle.std.proofs.Common.{◌≡◌, ℕ, ◌<◌, List, [], ◌∷◌, ◌++◌, take, length, Some, ap, sym, ◌∙◌, subst, ⊎_elim, arith, length-take}
use Rattle.std.specs.Prelude.{slice_get}
use Rattle.std.proofs.lemmas.Option.{slice_get_within}
use Rattle.seen_board.specs.declared.knowledge.Knowledge.{Knowledge}
use Rattle.seen_board.specs.declared.knowledge.Made.{Made}
use Rattle.seen_board.specs.declared.knowledge.Maker.TheVariants.{Call}
use Rattle.seen_board.specs.Clauses.{MakesNext}
use Rattle.seen_board.specs.Knowledge.{Coherent, Covered, Follows, MayAdd, at, made_by}
use Rattle.seen_board.specs.Meaning.{Meaning}
use Rattle.seen_board.proofs.Coherence.{same_client, same_place}
use Rattle.seen_board.proofs.Prefixes.{get_here, get_push}

module _ {I C : Type 0} (w : Meaning I C) (h : Knowledge I C) (s : Coherent w h) (c : C) (k r : ℕ) (x : I) (old : List C) (sent : at h.calls k ≡ old ++ c ∷ []) (next : MakesNext w c k r (at h.items r) x) where
  abbrev log : List (Made I)
  log = at h.items r

  abbrev new : Made I
  new = made_by k (length old) x

  covers : Covered w h r log new
  covers = (
    (λ none. absurd (cc none)),
    λ j i e. (
      c,
      subst (λ (l : ℕ). slice_get (at h.calls l) i ≡ Some c) (same_client k (length old) j i e)
          (subst (λ (n : ℕ). slice_get (at h.calls k) n ≡ Some c) (same_place k (length old) j i e) (ap (λ l. slice_get l (length old)) sent ∙ get_here old c)),
      next.makes,
    ),
  )

  -- an earlier item was made by an earlier call
  earlier : (p i : ℕ) (m : Made I) → slice_get log p ≡ Some m → m.by ≡ Call k i → i < length old
  earlier p i m e by =
      let lt = slice_get_within log p m e in
      let made = (s.covered r p m e).1 k i by in
      ⊎_elim
      (λ (was : slice_get old i ≡ Some made.0). slice_get_within old i made.0 was)
      (λ (z : (i ≡ length old) × (c ≡ made.0)).
      let at_p : length (take p log) ≡ p = length-take p log ∙ omega (arith, lt) in
      absurd (next.first p m.item lt (subst (λ (n : ℕ). w.makes c r n m.item) at_p (subst (λ (d : C). w.makes d r (length (take p log)) m.item) (sym z.1) made.2))))
      (get_push old c made.0 i (ap (λ l. slice_get l i) (sym sent) ∙ made.1))

  follows : Follows w log new
  follows j shown =
      let mine : k ≡ j = next.shows j shown in
      (length old, ap (λ (n : ℕ). Call n (length old)) mine, λ p n a e sn by. earlier p a n e (by ∙ ap (λ (l : ℕ). Call l a) (sym mine)))

  pub may_add : MayAdd w h r (made_by k (length old) x)
  may_add = (covers, follows)
