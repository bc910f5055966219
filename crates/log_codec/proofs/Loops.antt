-- Reading values one after the other, as a loop does.
use Rattle.std.proofs.Common.{◌≡◌, ℕ, suc, ◌-◌, ◌+◌, ◌≤◌, ◌<◌, List, [], ◌∷◌, ◌++◌, Option, Some, None, refl, sym, ap, ◌∙◌, append_assoc, arith}
use Rattle.std.proofs.lemmas.List.{append-nil}
use Rattle.log_codec.specs.Format.{◌>>=◌, several, Fails}
use Rattle.log_codec.specs.declared.fault.BodyFault.{BodyFault}
use Rattle.log_codec.specs.declared.fault.BodyFault.TheVariants.{NotOne, NoMemory}

module _ {V : Type 0} (reading : List ℕ → Option (V × List ℕ)) where
  -- what was read before, and what is still read
  abbrev pub with_front : List V → Option (List V × List ℕ) → Option (List V × List ℕ)
  with_front front read = read >>= λ x. Some (front ++ x.0, x.1)

  regroup : (front : List V) (v : V) (read : Option (List V × List ℕ)) → with_front front (read >>= λ x. Some (v ∷ x.0, x.1)) ≡ with_front (front ++ v ∷ []) read
  regroup front v (Some x) = ap (λ (vs : List V). Some (vs, x.1)) (simp append_assoc)
  regroup front v None = refl

  pub goes_on : (front : List V) (count i : ℕ) (bytes : List ℕ) (v : V) (after : List ℕ) (total : Option (List V × List ℕ)) → i < count → reading bytes ≡ Some (v, after)
      → with_front front (several reading (count - i) bytes) ≡ total → with_front (front ++ v ∷ []) (several reading (count - (i + 1)) after) ≡ total
  unfolding several
  goes_on front count i bytes v after total lt h so_far =
      let k : count - i ≡ suc (count - (i + 1)) = omega arith in
      let one : with_front front (several reading (count - i) bytes) ≡ with_front (front ++ v ∷ []) (several reading (count - (i + 1)) after) = rw (k, h) (regroup front v (several reading (count - (i + 1)) after)) in
      sym one ∙ so_far

  none_on : (front : List V) (n : ℕ) (bytes : List ℕ) → reading bytes ≡ None → with_front front (several reading (suc n) bytes) ≡ None
  unfolding several
  none_on front n bytes h = rw h refl

  -- a fault of a part is one of the whole
  pub ends : (e : BodyFault) (front : List V) (count i : ℕ) (bytes : List ℕ) (total : Option (List V × List ℕ)) → i < count → Fails e (reading bytes)
      → with_front front (several reading (count - i) bytes) ≡ total → Fails e total
  ends NoMemory front count i bytes total lt h so_far = tt
  ends NotOne front count i bytes total lt h so_far =
      let k : count - i ≡ suc (count - (i + 1)) = omega arith in
      sym so_far ∙ ap (λ (n : ℕ). with_front front (several reading n bytes)) k ∙ none_on front (count - (i + 1)) bytes h

  pub is_done : (front : List V) (count i : ℕ) (bytes : List ℕ) (total : Option (List V × List ℕ)) → count ≤ i → with_front front (several reading (count - i) bytes) ≡ total → total ≡ Some (front, bytes)
  unfolding several
  is_done front count i bytes total le so_far =
      let k : count - i ≡ 0 = omega arith in
      let one : with_front front (several reading (count - i) bytes) ≡ Some (front, bytes) = rw k (ap (λ (vs : List V). Some (vs, bytes)) (append-nil front)) in
      sym so_far ∙ one
