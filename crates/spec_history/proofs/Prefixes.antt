-- What a sound history was at the place of a request, and how it stood there.
use Rattle.log_entries.specs.declared.entry.Entry.{Entry}
use Rattle.log_entries.specs.declared.request.Request.{Request}
use Rattle.spec_history.proofs.Growth.{by_growth, length-state}
use Rattle.spec_history.proofs.Places.{Fits, admitted, came_end, one_request, placed, stays_kept, stays_same, stays_then}
use Rattle.spec_history.specs.History.{Base, Known, commit_of, known_by, state}
use Rattle.spec_history.specs.Laws.{Stays}
use Rattle.spec_history.specs.Sound.{Admits, sound}
use Rattle.std.proofs.Common.{◌≡◌, ◌≤◌, ◌<◌, ℕ, ◌+◌, List, [], ◌∷◌, ◌++◌, length, take, ap, sym, ◌∙◌, subst, arith, inl, inr}
use Rattle.std.proofs.Math.Seq.{take-append_seam, take-length}
use Rattle.std.proofs.lemmas.List.{length-append, take-append-le}
use Rattle.std.specs.Prelude.{◌⊎◌, Some}
use Rattle.thor_value.specs.Names.{Before}
use Rattle.thor_value.specs.declared.names.Ts.{Ts}

pub le_cases : (m n : ℕ) → m ≤ n + 1 → (m ≤ n) ⊎ (m ≡ n + 1)
le_cases m n h = grind arith

module _ (b : Base) where
  -- a transaction stands at a place of the history, under its own name, and commits behind it
  pub fits : (H : List Entry) → sound b H → (t : Ts) (o : Known) → known_by b H t ≡ Some o → Fits (length H) t o
  fits H s t o is = subst (λ n. Fits n t o) (length-state b H) ((placed b H s).fits t o is)

  -- two transactions don't stand at one place
  pub one_at_a_place : (H : List Entry) → sound b H → (s t : Ts) (o w : Known) → known_by b H s ≡ Some o → known_by b H t ≡ Some w → o.place ≡ w.place → s ≡ t
  one_at_a_place =
      by_growth b (λ H. (s t : Ts) (o w : Known) → known_by b H s ≡ Some o → known_by b H t ≡ Some w → o.place ≡ w.place → s ≡ t)
      (λ s t o w is it same. cc)
      (λ H e sd ih ow s t o w is it same.
      elim (came_end b H e sd ow s o is) [
        | inl x ↦ elim (came_end b H e sd ow t w it) [
          | inl y ↦ sym x.1.1 ∙ ap (λ (q : Request). q.tx) (one_request e o.request w.request x.1.0 y.1.0) ∙ y.1.1
          | inr y ↦ apart H sd t y.0 y.1 w y.2.0 o x.1.2 same
        ]
        | inr x ↦ elim (came_end b H e sd ow t w it) [
          | inl y ↦ apart H sd s x.0 x.1 o x.2.0 w y.1.2 (sym same)
          | inr y ↦ ih s t x.0 y.0 x.1 y.1 (sym x.2.0 ∙ same ∙ y.2.0)
        ]
      ])
    where
      apart : {A : Type 0} (H : List Entry) (sd : sound b H) (t : Ts) (o : Known) (is : known_by b H t ≡ Some o) (w : Known) (k : w.place ≡ o.place) (v : Known) → v.place ≡ length H → v.place ≡ w.place → A
      apart H sd t o is w k v at same = let l : o.place < length H = (fits H sd t o is).below in absurd (omega arith)

  -- the request of a transaction owed what it owed to the history below it
  pub judged : (H : List Entry) → sound b H → (t : Ts) (o : Known) → known_by b H t ≡ Some o → Admits b (state b (take o.place H)) o.request
  judged =
      by_growth b (λ H. (t : Ts) (o : Known) → known_by b H t ≡ Some o → Admits b (state b (take o.place H)) o.request)
      (λ t o is. cc)
      (λ H e sd ih ow t o is.
      elim (came_end b H e sd ow t o is) [
        | inl x ↦
            let here : take o.place (H ++ e ∷ []) ≡ H = ap (λ n. take n (H ++ e ∷ [])) x.1.2 ∙ take-append_seam H (e ∷ []) in
            subst (λ G. Admits b (state b G) o.request) (sym here) (admitted b (state b H) e o.request x.1.0 ow)
        | inr x ↦
            let l : x.0.place < length H = (fits H sd t x.0 x.1).below in
            let at : o.place ≡ x.0.place = x.2.0 in
            let l' : o.place ≤ length H = omega arith in
            let old : Admits b (state b (take o.place H)) o.request = subst (λ n. Admits b (state b (take n H)) o.request) (sym at) (subst (Admits b (state b (take x.0.place H))) (sym x.2.1) (ih t x.0 x.1)) in
            subst (λ G. Admits b (state b G) o.request) (sym (take-append-le o.place H (e ∷ []) l')) old
      ])

  -- a transaction is above all that committed in earlier runs
  pub above_base : (H : List Entry) → sound b H → (t : Ts) (o : Known) → known_by b H t ≡ Some o → Before b.top t
  above_base H sd t o is = subst (Before b.top) (fits H sd t o is).named (judged H sd t o is).above

  -- a transaction that stands below the place n stood in the history below n
  pub stood : (H : List Entry) → sound b H → (n : ℕ) → n ≤ length H → (t : Ts) (w : Known) → known_by b H t ≡ Some w → w.place < n
      → (o : Known) × (known_by b (take n H) t ≡ Some o) × Stays o w
  stood =
      by_growth b (λ H. (n : ℕ) → n ≤ length H → (t : Ts) (w : Known) → known_by b H t ≡ Some w → w.place < n → (o : Known) × (known_by b (take n H) t ≡ Some o) × Stays o w)
      (λ n h t w is l. cc)
      (λ H e sd ih ow n h t w is l.
      elim (le_cases n (length H) (subst (λ m. n ≤ m) (length-append H (e ∷ [])) h)) [
        | inl m ↦
            let goal = λ (G : List Entry). (o : Known) × (known_by b G t ≡ Some o) × Stays o w in
            subst goal (sym (take-append-le n H (e ∷ []) m)) (elim (came_end b H e sd ow t w is) [
              | inl x ↦ let at : w.place ≡ length H = x.1.2 in absurd (omega arith)
              | inr x ↦
                  let at : w.place ≡ x.0.place = x.2.0 in
                  let y = ih n m t x.0 x.1 (omega arith) in
                  (y.0, y.1, stays_then y.0 x.0 w y.2 (stays_kept (commit_of b (state b H) e) (length H) x.0 w x.2))
            ])
        | inr m ↦
            let whole : take n (H ++ e ∷ []) ≡ H ++ e ∷ [] = ap (λ k. take k (H ++ e ∷ [])) (m ∙ sym (length-append H (e ∷ []))) ∙ take-length (H ++ e ∷ []) in
            (w, subst (λ G. known_by b G t ≡ Some w) (sym whole) is, stays_same w)
      ])
