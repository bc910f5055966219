-- What stands behind an open header's gate.
use Rattle.std.proofs.Common.{◌≡◌, ℕ, ◌+◌, ◌<◌, ◌^◌, Bool, true, if◌then◌else◌, List, [], ◌∷◌, ◌++◌, length, take, drop, Some, Err, refl, ap, sym, ◌∙◌, subst, arith, length-append}
use Rattle.std.proofs.lemmas.List.{take_at, drop_at, take_all, drop-drop, take-take}
use Rattle.log_frame.specs.Log.{u32_in, u64_in, is_whole, body_in, bodies_from, opened_by, read_open, read_log}
use Rattle.std.specs.Int.{w64, from_be_bytes, to_be_bytes}
use Rattle.std.proofs.lemmas.Nat.{from_be_bytes-to_be_bytes_8}
use Rattle.log_frame.proofs.Frames.{bodies_skip, framed}

-- where all of the header is there
pub read_open_whole : (rest framed : List ℕ) (n sequence : ℕ) (head : List ℕ) → framed ≡ drop 8 rest → is_whole framed ≡ true → n ≡ 4 + u32_in framed → sequence ≡ u64_in rest → head ≡ body_in framed → read_open rest ≡ opened_by sequence head (bodies_from 0 (9 + n) (drop n framed))
read_open_whole rest framed n sequence head is whole counts is_sequence is_head =
    let whole_here : is_whole (drop 8 rest) ≡ true = subst (λ l. is_whole l ≡ true) is whole in
    let skip : 12 + u32_in (drop 8 rest) ≡ 8 + n = omega (arith, counts, ap u32_in is) in
    let place : 1 + (8 + n) ≡ 9 + n = omega arith in
    ap (λ (b : Bool). if b then opened_by (u64_in rest) (body_in (drop 8 rest)) (bodies_from (12 + u32_in (drop 8 rest)) 1 rest) else Err 0) whole_here
    ∙ ap (λ (k : ℕ). opened_by (u64_in rest) (body_in (drop 8 rest)) (bodies_from k 1 rest)) skip
    ∙ ap (opened_by (u64_in rest) (body_in (drop 8 rest))) (bodies_skip (8 + n) 1 rest)
    ∙ ap (λ (k : ℕ). opened_by (u64_in rest) (body_in (drop 8 rest)) (bodies_from 0 k (drop (8 + n) rest))) place
    ∙ ap (λ (l : List ℕ). opened_by (u64_in rest) (body_in (drop 8 rest)) (bodies_from 0 (9 + n) l)) (sym (drop-drop n 8 rest))
    ∙ ap (λ (l : List ℕ). opened_by (u64_in rest) (body_in l) (bodies_from 0 (9 + n) (drop n l))) (sym is)
    ∙ ap (λ (k : ℕ). opened_by k (body_in framed) (bodies_from 0 (9 + n) (drop n framed))) (sym is_sequence)
    ∙ ap (λ (l : List ℕ). opened_by sequence l (bodies_from 0 (9 + n) (drop n framed))) (sym is_head)

-- the number depends on the first eight bytes alone
pub u64_front : (eight more : List ℕ) → length eight ≡ 8 → u64_in (eight ++ more) ≡ u64_in eight
unfolding u64_in
u64_front eight more size = ap (from_be_bytes w64) (take_at eight more 8 size ∙ sym (take_all 8 eight (omega arith)))

pub u64_taken : (bytes : List ℕ) → u64_in (take 8 bytes) ≡ u64_in bytes
unfolding u64_in
u64_taken bytes = ap (from_be_bytes w64) (take-take 8 8 bytes (omega arith))

pub u64_spelled : (n : ℕ) → n < 2 ^ 64 → u64_in (to_be_bytes w64 n) ≡ n
unfolding u64_in
u64_spelled n below = ap (from_be_bytes w64) (take_all 8 (to_be_bytes w64 n) (omega arith)) ∙ from_be_bytes-to_be_bytes_8 n below

-- an open header's gate with something behind it
pub read_log_open : (rest : List ℕ) → 0 < length rest → read_log (1 ∷ rest) ≡ Some (read_open rest)
read_log_open [] some = absurd (omega arith)
read_log_open (byte ∷ rest) some = refl

-- an open header and what stands behind it
pub header_read : (eight four head behind : List ℕ) → length eight ≡ 8 → length four ≡ 4 → u32_in four ≡ length head → 0 < length behind → read_log (1 ∷ (eight ++ (four ++ (head ++ behind)))) ≡ Some (opened_by (u64_in eight) head (bodies_from 0 (13 + length head) behind))
header_read eight four head behind size four_size number some =
    let frame = framed four head behind four_size number some in
    let rest : List ℕ = eight ++ (four ++ (head ++ behind)) in
    let place : 9 + (4 + length head) ≡ 13 + length head = omega arith in
    read_log_open (eight ++ (four ++ (head ++ behind))) (omega (arith, length-append eight (four ++ (head ++ behind)), size))
    ∙ ap Some (
    read_open_whole (eight ++ (four ++ (head ++ behind))) (four ++ (head ++ behind)) (4 + length head) (u64_in eight) head (sym (drop_at eight (four ++ (head ++ behind)) 8 size)) frame.whole (ap (λ (k : ℕ). 4 + k) (sym frame.number)) (sym (u64_front eight (four ++ (head ++ behind)) size)) (sym frame.body_is)
    ∙ ap (λ (k : ℕ). opened_by (u64_in eight) head (bodies_from 0 k (drop (4 + length head) (four ++ (head ++ behind))))) place
    ∙ ap (λ (l : List ℕ). opened_by (u64_in eight) head (bodies_from 0 (13 + length head) l)) frame.behind_is
    )
