-- Zeros, looked at one after the other.
use Rattle.std.proofs.Common.{◌≡◌, ◌≤◌, ◌<◌, ◌+◌, ◌==◌, ◌&&◌, ◌∙◌, Bool, List, ap, arith, drop, false, length, refl, replicate, slice_index_or, suc, sym, take, zero, ℕ}
use Rattle.std.specs.Int.Bits.{bit_or, or_zero_l}
use Rattle.std.proofs.Math.Dec.{eqb-suc-zero}
use Rattle.std.proofs.lemmas.List.{drop_more, take-replicate}
use Rattle.std.proofs.lemmas.Nat.{le_or_l}
use Rattle.page_format.specs.Walking.{all_zero}

not_zero : (n : ℕ) → 0 < n → (n == 0) ≡ false
not_zero zero h = absurd (omega arith)
not_zero (suc n) h = eqb-suc-zero n

-- the bits that were seen, with those of the next, are zeros where both are, and then the rest
zeros_next : (bits next : ℕ) (rest : Bool) → ((bit_or bits next == 0) && rest) ≡ ((bits == 0) && ((next == 0) && rest))
zeros_next zero next rest = rw (or_zero_l next) refl
zeros_next (suc bits) next rest =
    let seen : suc bits ≤ bit_or (suc bits) next = le_or_l (suc bits) next in
    let more : (bit_or (suc bits) next == 0) ≡ false = not_zero (bit_or (suc bits) next) (omega arith) in
    rw (more, eqb-suc-zero bits) refl

-- a place on
pub zeros_on : (bits at : ℕ) (bytes : List ℕ) → at < length bytes → ((bits == 0) && all_zero (drop at bytes)) ≡ all_zero bytes
    → ((bit_or bits (slice_index_or bytes at 0) == 0) && all_zero (drop (at + 1) bytes)) ≡ all_zero bytes
zeros_on bits at bytes lt h =
    zeros_next bits (slice_index_or bytes at 0) (all_zero (drop (at + 1) bytes)) ∙ ap (λ (t : List ℕ). (bits == 0) && all_zero t) (sym (drop_more bytes at 0 lt)) ∙ h

-- so many of a page's zeros
pub zeros_taken : (n : ℕ) → n ≤ 16384 → take n (replicate {A = ℕ} 16384 0) ≡ replicate {A = ℕ} n 0
zeros_taken n h = take-replicate n 16384 0 h
