-- The lives of a repository follow one another.
use Rattle.log_entries.specs.declared.entry.Entry.TheVariants.{Decided, Finished, Life, One, Prepared, Upgraded}
use Rattle.log_entries.specs.declared.entry.Entry.{Entry}
use Rattle.spec_history.proofs.Growth.{by_growth, state-end}
use Rattle.spec_history.proofs.Listed.{end_cases}
use Rattle.spec_history.proofs.Steps.{by_settling}
use Rattle.spec_history.specs.History.{Base, State, is_life, put, settle, known_in, start, state}
use Rattle.spec_history.specs.Laws.{LivesFollow}
use Rattle.spec_history.specs.Sound.{owes, sound}
use Rattle.std.proofs.Common.{List, [], ap, arith, cond, inl, inr, length, refl, subst, sym, take, ℕ, ◌+◌, ◌++◌, ◌<◌, ◌≡◌, ◌≤◌, ◌∙◌, ◌∷◌}
use Rattle.std.proofs.Math.Seq.{take-append_seam}
use Rattle.std.proofs.lemmas.List.Elements.{filter-append}
use Rattle.std.proofs.lemmas.List.{length-append, take-append-le}
use Rattle.std.specs.List.{filter, slice_get}
use Rattle.std.specs.Prelude.{Bool, Some, false, true}
use Rattle.thor_value.specs.declared.names.Ts.{Ts}

-- a Life is the only entry that changes the life
life-settle : (b : Base) (S : State) (t : Ts) (c : Bool) → (settle S t c (known_in b S t)).life ≡ S.life
life-settle b S t c = by_settling b (λ T. T.life ≡ S.life) S t c (known_in b S t) refl (λ p is o k. refl) (λ p is o. refl)

pub life-put : (b : Base) (S : State) (e : Entry) → owes b S e → (put b S e).life ≡ S.life + cond (is_life e) 1 0
life-put b S (Life n) o = o
life-put b S (One q) o = omega arith
life-put b S (Prepared q) o = omega arith
life-put b S (Decided t c) o = let e = life-settle b S t c in omega arith
life-put b S (Finished t c) o = let e = life-settle b S t c in omega arith
life-put b S (Upgraded q) o = omega arith

-- an entry at the first place is a Life
first-is : (b : Base) (e : Entry) → owes b (start b) e → e ≡ Life (b.life + 1)
first-is b (Life n) o = ap Life o
first-is b (One q) o = absurd (let l : 0 < 0 = o.0.vouched.begun in omega arith)
first-is b (Prepared q) o = absurd (let l : 0 < 0 = o.0.vouched.begun in omega arith)
first-is b (Upgraded q) o = absurd (let l : 0 < 0 = o.0.vouched.begun in omega arith)
first-is b (Decided t c) o = let e : false ≡ true = o.0 in cc
first-is b (Finished t c) (inl o) = let e : false ≡ true = o.0 in cc
first-is b (Finished t c) (inr o) = absurd (let l : 0 < 0 = o.0 in omega arith)

count-end : (H : List Entry) (e : Entry) → length (filter is_life (H ++ e ∷ [])) ≡ length (filter is_life H) + cond (is_life e) 1 0
count-end H e = ap length (filter-append is_life H (e ∷ [])) ∙ length-append (filter is_life H) (filter is_life (e ∷ [])) ∙ ap (λ n. length (filter is_life H) + n) (one (is_life e))
  where
    one : (x : Bool) → length (cond x (e ∷ []) []) ≡ cond x 1 0
    one true = refl
    one false = refl

module _ (b : Base) where
  begins : LivesFollow b []
  begins = record { first = λ e h. cc; count = omega arith; each = λ i n h. cc }

  -- at a place of H, the longer history was what H was
  at_place : (H : List Entry) (e : Entry) (i : ℕ) → i ≤ length H → state b (take i (H ++ e ∷ [])) ≡ state b (take i H)
  at_place H e i h = ap (λ (G : List Entry). state b G) (take-append-le i H (e ∷ []) h)

  grows : (H : List Entry) (e : Entry) → sound b H → LivesFollow b H → owes b (state b H) e → LivesFollow b (H ++ e ∷ [])
  grows H e sd h ow = record {
    first = first;
    count = ap (λ (S : State). S.life) (state-end b H e) ∙ counted _ _ _ _ _ _ (life-put b (state b H) e ow) h.count (count-end H e);
    each = λ i n is. elim (end_cases H e (Life n) i is) [
      | inl k ↦ let l : i < length H = k.0 in h.each i n k.1 ∙ ap (λ (S : State). S.life + 1) (sym (at_place H e i (omega arith)))
      | inr k ↦ let l : i ≡ length H = k.0 in
          let own : owes b (state b H) (Life n) = subst (owes b (state b H)) (sym k.1) ow in
          let whole : take i (H ++ e ∷ []) ≡ H = ap (λ j. take j (H ++ e ∷ [])) l ∙ take-append_seam H (e ∷ []) in
          own ∙ ap (λ (G : List Entry). (state b G).life + 1) (sym whole)
    ];
  }
    where
      counted : (x y s m n c : ℕ) → x ≡ s + c → s ≡ y + m → n ≡ m + c → x ≡ y + n
      counted x y s m n c p q r = omega arith

      first : (d : Entry) → slice_get (H ++ e ∷ []) 0 ≡ Some d → d ≡ Life (b.life + 1)
      first d is = elim (end_cases H e d 0 is) [
        | inl k ↦ h.first d k.1
        | inr k ↦ k.1 ∙ first-is b e (subst (λ (G : List Entry). owes b (state b G) e) (none H k.0) ow)
      ]
        where
          none : (G : List Entry) → 0 ≡ length G → G ≡ []
          none [] l = refl
          none (c ∷ G) l = absurd (omega arith)

  pub lives : (H : List Entry) → sound b H → LivesFollow b H
  lives = by_growth b (λ H. LivesFollow b H) begins grows
