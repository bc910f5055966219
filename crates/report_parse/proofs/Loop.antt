-- Reading parts one behind the other, as a loop does.
use Rattle.std.proofs.Common.{◌≡◌, ℕ, zero, suc, ◌-◌, ◌+◌, ◌≤◌, ◌<◌, List, [], ◌∷◌, ◌++◌, Option, Some, None, append-nil, append_assoc, refl, sym, ap, ◌∙◌, arith}
use Rattle.report_parse.specs.Reading.{Reading, gathered, many}

module _ {X : Type 0} (read : Reading X) where
  -- what was read before, and what is still read
  abbrev pub with_front : List X → List X × List ℕ → List X × List ℕ
  with_front front others = (front ++ others.0, others.1)

  nothing_more : (front : List X) (rest : List ℕ) → with_front front ([], rest) ≡ (front, rest)
  nothing_more front rest = ap (λ (xs : List X). (xs, rest)) (append-nil front)

  one_more : (front : List X) (n : ℕ) (bytes : List ℕ) (x : X × List ℕ) → read bytes ≡ Some x → with_front front (many read (suc n) bytes) ≡ with_front (front ++ x.0 ∷ []) (many read n x.1)
  unfolding many
  one_more front n bytes x e =
      let others = many read n x.1 in
      ap (λ (o : Option (X × List ℕ)). with_front front (gathered bytes o (many read n))) e
      ∙ ap (λ (xs : List X). (xs, others.1)) (sym (append_assoc front (x.0 ∷ []) others.0))

  no_more : (n : ℕ) (rest : List ℕ) → read rest ≡ None → many read n rest ≡ ([], rest)
  unfolding many
  no_more zero rest e = refl
  no_more (suc n) rest e = ap (λ (o : Option (X × List ℕ)). gathered rest o (many read n)) e

  no_turns : (rest : List ℕ) → many read 0 rest ≡ ([], rest)
  unfolding many
  no_turns rest = refl

  pub goes_on : (front : List X) (count i : ℕ) (bytes : List ℕ) (v : X) (after : List ℕ) (total : List X × List ℕ) → i < count → read bytes ≡ Some (v, after)
      → with_front front (many read (count - i) bytes) ≡ total → with_front (front ++ v ∷ []) (many read (count - (i + 1)) after) ≡ total
  goes_on front count i bytes v after total lt e so_far =
      let k : count - i ≡ suc (count - (i + 1)) = omega arith in
      sym (ap (λ (n : ℕ). with_front front (many read n bytes)) k ∙ one_more front (count - (i + 1)) bytes (v, after) e) ∙ so_far

  pub ends : (front : List X) (n : ℕ) (rest : List ℕ) (total : List X × List ℕ) → read rest ≡ None → with_front front (many read n rest) ≡ total → total ≡ (front, rest)
  ends front n rest total e so_far = sym so_far ∙ ap (with_front front) (no_more n rest e) ∙ nothing_more front rest

  pub is_done : (front : List X) (count i : ℕ) (rest : List ℕ) (total : List X × List ℕ) → count ≤ i → with_front front (many read (count - i) rest) ≡ total → total ≡ (front, rest)
  is_done front count i rest total le so_far =
      let k : count - i ≡ 0 = omega arith in
      sym so_far ∙ ap (λ (n : ℕ). with_front front (many read n rest)) k ∙ ap (with_front front) (no_turns rest) ∙ nothing_more front rest
