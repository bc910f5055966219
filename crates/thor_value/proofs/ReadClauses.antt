-- What the public readers of names, timestamps and values say, for every exact reader with their faults.
use Rattle.std.proofs.Common.{◌≡◌, ℕ, List, ◌++◌, length, drop, Result, Ok, Err, refl, ap}
use Rattle.std.specs.Prelude.{IfOk, IsErrOf, ◌↔◌}
use Rattle.thor_value.specs.Formats.{BeginsOne, BeginsWithOne, IsAtFront, Counts}
use Rattle.thor_value.specs.declared.bytes.ReadFault.{ReadFault}
use Rattle.thor_value.specs.declared.bytes.ReadFault.TheVariants.{Short, BadTag}
use Rattle.thor_value.proofs.Exactness.{IsBytes, IsExact, at_front, reads_it, no_fault, nothing_read, no_other_fault}

bad_is_other : BadTag ≡ Short → ⊥
bad_is_other e = cc

module _ {V : Type 0} (Has : V → Type 0) (spelling : V → List ℕ) (read : List ℕ → Result (V × List ℕ) ReadFault) (ok : IsExact Has spelling Short read) (bytes : List ℕ) (b : IsBytes bytes) where
  pub is_found : (r : Result (V × ℕ) ReadFault) → Counts bytes r (read bytes) → IfOk r (λ x. IsAtFront Has spelling bytes x.0 x.1)
  is_found (Ok x) c = at_front Has spelling Short read ok bytes x b c.0 c.1
  is_found (Err e) c = tt

  pub is_only : (r : Result (V × ℕ) ReadFault) → Counts bytes r (read bytes) → (v : V) (rest : List ℕ) → Has v → bytes ≡ spelling v ++ rest → r ≡ Ok (v, length (spelling v))
  is_only (Ok x) c v rest h e = ap (λ (y : V × ℕ). Ok y) (reads_it Has spelling Short read ok bytes v rest x h e c.0 c.1)
  is_only (Err d) c v rest h e = absurd (no_fault Has spelling Short read ok bytes d (v, rest, h, e) c)

  begins_is_short : (r : Result (V × ℕ) ReadFault) → Counts bytes r (read bytes) → BeginsOne Has spelling bytes → IsErrOf r Short
  begins_is_short (Ok x) c s = absurd (nothing_read Has spelling Short read ok bytes (x.0, drop x.1 bytes) b s c.0)
  begins_is_short (Err Short) c s = refl
  begins_is_short (Err BadTag) c s = absurd (no_other_fault Has spelling Short read ok bytes BadTag b s c bad_is_other)

  short_begins : (r : Result (V × ℕ) ReadFault) → Counts bytes r (read bytes) → IsErrOf r Short → BeginsOne Has spelling bytes
  short_begins (Ok x) c e = absurd cc
  short_begins (Err Short) c e = ok.begins bytes b c
  short_begins (Err BadTag) c e = absurd cc

  pub is_short : (r : Result (V × ℕ) ReadFault) → Counts bytes r (read bytes) → IsErrOf r Short ↔ BeginsOne Has spelling bytes
  is_short r c = (short_begins r c, begins_is_short r c)

  bad_is_neither : (r : Result (V × ℕ) ReadFault) → Counts bytes r (read bytes) → IsErrOf r BadTag → (¬ BeginsWithOne Has spelling bytes) × (¬ BeginsOne Has spelling bytes)
  bad_is_neither (Ok x) c e = absurd cc
  bad_is_neither (Err Short) c e = absurd cc
  bad_is_neither (Err BadTag) c e = (λ w. no_fault Has spelling Short read ok bytes BadTag w c, λ s. no_other_fault Has spelling Short read ok bytes BadTag b s c bad_is_other)

  neither_is_bad : (r : Result (V × ℕ) ReadFault) → Counts bytes r (read bytes) → (¬ BeginsWithOne Has spelling bytes) × (¬ BeginsOne Has spelling bytes) → IsErrOf r BadTag
  neither_is_bad (Ok x) c n =
      let f = ok.found bytes (x.0, drop x.1 bytes) b c.0 in
      absurd (n.0 (x.0, drop x.1 bytes, f.0, f.1))
  neither_is_bad (Err Short) c n = absurd (n.1 (ok.begins bytes b c))
  neither_is_bad (Err BadTag) c n = refl

  pub is_bad : (r : Result (V × ℕ) ReadFault) → Counts bytes r (read bytes) → IsErrOf r BadTag ↔ ((¬ BeginsWithOne Has spelling bytes) × (¬ BeginsOne Has spelling bytes))
  is_bad r c = (bad_is_neither r c, neither_is_bad r c)
