-- The bytes of a token in their room.
use Rattle.std.proofs.Common.{◌≡◌, ℕ, ◌-◌, ◌≤◌, List, ◌++◌, length, take, drop, sym, ap, arith}
use Rattle.std.specs.Prelude.{replicate}
use Rattle.std.proofs.lemmas.List.{drop-replicate, length-append, length-replicate}
use Rattle.std.proofs.Math.Seq.{take-append_seam}
use Rattle.script_text.specs.TokenTexts.{IsPadded, padded}

-- what is left of the room behind so many bytes
pub room_rest : (n : ℕ) → drop n (replicate {A = ℕ} 34 0) ≡ replicate {A = ℕ} (34 - n) 0
room_rest n = drop-replicate n 34 0

pub is_padded : (bytes : List ℕ) → length bytes ≤ 34 → IsPadded (record { room = padded bytes; len = length bytes })
is_padded bytes few =
    let front : take (length bytes) (padded bytes) ≡ bytes = take-append_seam bytes (replicate (34 - length bytes) 0) in
    record {
      room = ap padded (sym front);
      len = ap length (sym front);
      whole = omega (arith, length-append bytes (replicate (34 - length bytes) 0), length-replicate {A = ℕ} (34 - length bytes) 0, few);
      few = few;
    }
