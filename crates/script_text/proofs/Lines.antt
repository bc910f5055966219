-- The line of a place further on.
use Rattle.std.proofs.Common.{◌≡◌, ℕ, ◌+◌, ◌≤◌, List, take, drop, cond, arith, length-take}
use Rattle.std.specs.List.{count_by}
use Rattle.std.proofs.Math.Seq.{take-add}
use Rattle.std.proofs.lemmas.List.Sums.{sum_by-append, count_by-le-length}
use Rattle.script_text.specs.Bytes.{is_newline}
use Rattle.script_text.specs.Tokens.{line_at}

-- the lines that end in the bytes between two places make the difference of their lines
pub line_further : (text : List ℕ) (from n : ℕ) → line_at text (from + n) ≡ line_at text from + count_by is_newline (take n (drop from text))
line_further text from n =
    let added = sum_by-append (λ b. cond (is_newline b) 1 0) (take from text) (take n (drop from text)) in
    rw (take-add from n text) (omega (arith, added))

-- no line is greater than one more than its place
pub line_bound : (text : List ℕ) (from : ℕ) → line_at text from ≤ from + 1
line_bound text from = omega (arith, count_by-le-length is_newline (take from text), length-take from text)
