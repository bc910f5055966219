-- Reading fields one after the other, as a loop does.
use Rattle.std.proofs.Common.{◌≡◌, ℕ, suc, ◌-◌, ◌+◌, ◌≤◌, ◌<◌, List, [], ◌∷◌, ◌++◌, Result, Ok, Err, refl, sym, ap, ◌∙◌, append_assoc, arith}
use Rattle.std.proofs.lemmas.List.{append-nil}
use Rattle.thor_value.specs.Formats.{◌>>=◌}
use Rattle.thor_value.specs.Reading.{value_at}
use Rattle.thor_value.specs.declared.values.Value.{Value}
use Rattle.object_codec.specs.declared.fault.ObjFault.{ObjFault}
use Rattle.object_codec.specs.declared.fault.ObjFault.TheVariants.{Short, BadTag, TooLarge, NoMemory}
use Rattle.object_codec.specs.Reading.{Fails, lifted, fields_at}

-- what was read before, and what is still read
abbrev pub with_front : List Value → Result (List Value × List ℕ) ObjFault → Result (List Value × List ℕ) ObjFault
with_front front read = read >>= λ x. Ok (front ++ x.0, x.1)

regroup : (front : List Value) (v : Value) (read : Result (List Value × List ℕ) ObjFault) → with_front front (read >>= λ x. Ok (v ∷ x.0, x.1)) ≡ with_front (front ++ v ∷ []) read
regroup front v (Ok x) = ap (λ (vs : List Value). Ok (vs, x.1)) (simp append_assoc)
regroup front v (Err f) = refl

pub goes_on : (front : List Value) (count i : ℕ) (bytes : List ℕ) (v : Value) (after : List ℕ) (total : Result (List Value × List ℕ) ObjFault) → i < count → lifted (value_at bytes) ≡ Ok (v, after)
    → with_front front (fields_at (count - i) bytes) ≡ total → with_front (front ++ v ∷ []) (fields_at (count - (i + 1)) after) ≡ total
unfolding fields_at
goes_on front count i bytes v after total lt h so_far =
    let k : count - i ≡ suc (count - (i + 1)) = omega arith in
    let one : with_front front (fields_at (count - i) bytes) ≡ with_front (front ++ v ∷ []) (fields_at (count - (i + 1)) after) = rw (k, h) (regroup front v (fields_at (count - (i + 1)) after)) in
    sym one ∙ so_far

fails_on : (d : ObjFault) (front : List Value) (n : ℕ) (bytes : List ℕ) → lifted (value_at bytes) ≡ Err d → with_front front (fields_at (suc n) bytes) ≡ Err d
unfolding fields_at
fails_on d front n bytes h = rw h refl

pub ends : (d : ObjFault) (front : List Value) (count i : ℕ) (bytes : List ℕ) (total : Result (List Value × List ℕ) ObjFault) → i < count → Fails d (lifted (value_at bytes))
    → with_front front (fields_at (count - i) bytes) ≡ total → Fails d total
ends NoMemory front count i bytes total lt h so_far = tt
ends Short front count i bytes total lt h so_far =
    let k : count - i ≡ suc (count - (i + 1)) = omega arith in
    sym so_far ∙ ap (λ (n : ℕ). with_front front (fields_at n bytes)) k ∙ fails_on Short front (count - (i + 1)) bytes h
ends BadTag front count i bytes total lt h so_far =
    let k : count - i ≡ suc (count - (i + 1)) = omega arith in
    sym so_far ∙ ap (λ (n : ℕ). with_front front (fields_at n bytes)) k ∙ fails_on BadTag front (count - (i + 1)) bytes h
ends (TooLarge c) front count i bytes total lt h so_far =
    let k : count - i ≡ suc (count - (i + 1)) = omega arith in
    sym so_far ∙ ap (λ (n : ℕ). with_front front (fields_at n bytes)) k ∙ fails_on (TooLarge c) front (count - (i + 1)) bytes h

pub is_done : (front : List Value) (count i : ℕ) (bytes : List ℕ) (total : Result (List Value × List ℕ) ObjFault) → count ≤ i → with_front front (fields_at (count - i) bytes) ≡ total → total ≡ Ok (front, bytes)
unfolding fields_at
is_done front count i bytes total le so_far =
    let k : count - i ≡ 0 = omega arith in
    let one : with_front front (fields_at (count - i) bytes) ≡ Ok (front, bytes) = rw k (ap (λ (vs : List Value). Ok (vs, bytes)) (append-nil front)) in
    sym so_far ∙ one
