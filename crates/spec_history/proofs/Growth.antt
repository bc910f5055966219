-- A history grows at its end: one step of the fold, the same prefixes, and induction over sound
-- histories by their growth.
use Rattle.log_entries.specs.declared.entry.Entry.{Entry}
use Rattle.spec_history.specs.History.{Base, State, put, start, state, objects_at}
use Rattle.spec_history.specs.Sound.{kept_by, owes, sound}
use Rattle.std.proofs.Common.{◌≡◌, ◌≤◌, ℕ, ◌+◌, List, [], ◌∷◌, ◌++◌, length, ap, sym, ◌∙◌, subst, append_assoc, arith, suc}
use Rattle.std.proofs.lemmas.List.Sums.{fold-append}
use Rattle.std.proofs.lemmas.List.{append-nil, take-append-le}
use Rattle.std.specs.List.{fold}

module _ (b : Base) where
  -- more entries: the fold goes on
  pub state-append : (H more : List Entry) → state b (H ++ more) ≡ fold (put b) (state b H) more
  state-append H more = fold-append (put b) (start b) H more

  -- one more entry: one step
  pub state-end : (H : List Entry) (e : Entry) → state b (H ++ e ∷ []) ≡ put b (state b H) e
  state-end H e = state-append H (e ∷ [])

  counted : (S : State) (H : List Entry) → (fold (put b) S H).length ≡ S.length + length H
  counted S [] = omega arith
  counted S (e ∷ H) = let h : (fold (put b) (put b S e) H).length ≡ (S.length + 1) + length H = counted (put b S e) H in h ∙ one_more S.length (length H)
    where
      one_more : (m n : ℕ) → (m + 1) + n ≡ m + suc n
      one_more m n = omega arith

  -- the state knows how many entries there are
  pub length-state : (H : List Entry) → (state b H).length ≡ length H
  length-state H = let h : (state b H).length ≡ 0 + length H = counted (start b) H in omega arith

  pub objects_at-append : (n : ℕ) (H more : List Entry) → n ≤ length H → objects_at b (H ++ more) n ≡ objects_at b H n
  objects_at-append n H more h = ap (λ (G : List Entry). (state b G).objects) (take-append-le n H more h)

  pub kept_by-append : (S : State) (H more : List Entry) → kept_by b S H → kept_by b (fold (put b) S H) more → kept_by b S (H ++ more)
  kept_by-append S [] more k l = l
  kept_by-append S (e ∷ H) more k l = (k.0, kept_by-append (put b S e) H more k.1 l)

  pub kept_by-parts : (S : State) (H more : List Entry) → kept_by b S (H ++ more) → kept_by b S H × kept_by b (fold (put b) S H) more
  kept_by-parts S [] more k = (tt, k)
  kept_by-parts S (e ∷ H) more k = let p = kept_by-parts (put b S e) H more k.1 in ((k.0, p.0), p.1)

  -- a beginning of a sound history is sound
  pub sound-beginning : (H more : List Entry) → sound b (H ++ more) → sound b H
  sound-beginning H more s = (kept_by-parts (start b) H more s).0

  -- a sound history with one more entry is sound where the entry owes what it owes
  pub sound-end : (H : List Entry) (e : Entry) → sound b H → owes b (state b H) e → sound b (H ++ e ∷ [])
  sound-end H e s o = kept_by-append (start b) H (e ∷ []) s (o, tt)

  pub owed-end : (H : List Entry) (e : Entry) → sound b (H ++ e ∷ []) → owes b (state b H) e
  owed-end H e s = (kept_by-parts (start b) H (e ∷ []) s).1.0

  module _ (P : List Entry → Type 0) (begins : P []) (grows : (H : List Entry) (e : Entry) → sound b H → P H → owes b (state b H) e → P (H ++ e ∷ [])) where
    onward : (H more : List Entry) → sound b H → P H → kept_by b (state b H) more → P (H ++ more)
    onward H [] s p k = subst P (sym (append-nil H)) p
    onward H (e ∷ more) s p k =
        let k' : kept_by b (state b (H ++ e ∷ [])) more = subst (λ S. kept_by b S more) (sym (state-end H e)) k.1 in
        subst P (append_assoc H (e ∷ []) more) (onward (H ++ e ∷ []) more (sound-end H e s k.0) (grows H e s p k.0) k')

    -- what holds of the empty history and stays at each growth holds of each sound history
    pub by_growth : (H : List Entry) → sound b H → P H
    by_growth H s = onward [] H tt begins s
