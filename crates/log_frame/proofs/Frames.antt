-- A length, a body and what stands behind, and lists of them behind open gates.
use Rattle.std.proofs.Common.{◌≡◌, ◌≢◌, ℕ, zero, suc, ◌+◌, ◌<◌, ◌≤◌, ◌^◌, Bool, true, false, ◌==◌, if◌then◌else◌, List, [], ◌∷◌, ◌++◌, length, take, drop, sum_by, Result, Ok, Err, refl, ap, sym, ◌∙◌, arith, length-append, append_assoc, take-append-drop}
use Rattle.std.proofs.lemmas.List.{take_at, drop_at, take_all, length-take-le, length-drop, drop-drop, take-take}
use Rattle.std.proofs.lemmas.List.Sums.{sum_by-append}
use Rattle.std.proofs.lemmas.Bool.Decides.{nat_tests}
use Rattle.std.specs.Int.{w32, from_be_bytes, to_be_bytes}
use Rattle.std.proofs.lemmas.Nat.{from_be_bytes-to_be_bytes_4}
use Rattle.log_frame.specs.Log.{u32_in, is_whole, body_in, with_first, bodies_from}

-- bodies before those that are read behind them
abbrev pub prepend : List (List ℕ) → Result (List (List ℕ)) ℕ → Result (List (List ℕ)) ℕ
prepend first (Ok bodies) = Ok (first ++ bodies)
prepend first (Err place) = Err place

pub take_add : {X : Type 0} (front behind : List X) (n : ℕ) → take (length front + n) (front ++ behind) ≡ front ++ take n behind
take_add [] behind n = let e : 0 + n ≡ n = omega arith in ap (λ (k : ℕ). take k behind) e
take_add (x ∷ front) behind n =
    let e : suc (length front) + n ≡ suc (length front + n) = omega arith in
    ap (λ (k : ℕ). take k (x ∷ front ++ behind)) e ∙ ap (λ l. x ∷ l) (take_add front behind n)

-- the number depends on the first four bytes alone
pub u32_front : (four more : List ℕ) → length four ≡ 4 → u32_in (four ++ more) ≡ u32_in four
unfolding u32_in
u32_front four more size = ap (from_be_bytes w32) (take_at four more 4 size ∙ sym (take_all 4 four (omega arith)))

pub u32_taken : (bytes : List ℕ) → u32_in (take 4 bytes) ≡ u32_in bytes
unfolding u32_in
u32_taken bytes = ap (from_be_bytes w32) (take-take 4 4 bytes (omega arith))

pub u32_spelled : (n : ℕ) → n < 2 ^ 32 → u32_in (to_be_bytes w32 n) ≡ n
unfolding u32_in
u32_spelled n below = ap (from_be_bytes w32) (take_all 4 (to_be_bytes w32 n) (omega arith)) ∙ from_be_bytes-to_be_bytes_4 n below

-- these bytes are a length, this body, and something behind it
pub record Framed (bytes body behind : List ℕ) : Type 0 where
  pub number : u32_in bytes ≡ length body
  pub whole : is_whole bytes ≡ true
  pub body_is : body_in bytes ≡ body
  pub behind_is : drop (4 + length body) bytes ≡ behind

pub framed : (four body behind : List ℕ) → length four ≡ 4 → u32_in four ≡ length body → 0 < length behind → Framed (four ++ (body ++ behind)) body behind
framed four body behind size number more =
    let same : u32_in (four ++ (body ++ behind)) ≡ length body = u32_front four (body ++ behind) size ∙ number in
    let long : length (four ++ (body ++ behind)) ≡ 4 + (length body + length behind) = length-append four (body ++ behind) ∙ omega (arith, size, length-append body behind) in
    record {
      number = same;
      whole = grind (arith, nat_tests, same, long, more);
      body_is = rw (same, drop_at four (body ++ behind) 4 size) (take_at body behind (length body) refl);
      behind_is = sym (drop-drop (length body) 4 (four ++ (body ++ behind))) ∙ ap (drop (length body)) (drop_at four (body ++ behind) 4 size) ∙ drop_at body behind (length body) refl;
    }

-- where all is there, the bytes are so
pub record Unframed (bytes : List ℕ) : Type 0 where
  pub split : bytes ≡ take 4 bytes ++ (body_in bytes ++ drop (4 + u32_in bytes) bytes)
  pub four : length (take 4 bytes) ≡ 4
  pub size : length (body_in bytes) ≡ u32_in bytes
  pub more : 0 < length (drop (4 + u32_in bytes) bytes)

pub unframed : (bytes : List ℕ) → is_whole bytes ≡ true → Unframed bytes
unframed bytes whole =
    let fits : 4 + u32_in bytes + 1 ≤ length bytes = grind (arith, nat_tests) in
    record {
      split = sym (ap (λ (l : List ℕ). take 4 bytes ++ (body_in bytes ++ l)) (sym (drop-drop (u32_in bytes) 4 bytes)) ∙ ap (λ (l : List ℕ). take 4 bytes ++ l) (take-append-drop (u32_in bytes) (drop 4 bytes)) ∙ take-append-drop 4 bytes);
      four = length-take-le 4 bytes (omega (arith, fits));
      size = length-take-le (u32_in bytes) (drop 4 bytes) (omega (arith, fits, length-drop 4 bytes));
      more = omega (arith, fits, length-drop (4 + u32_in bytes) bytes);
    }

-- what stands behind some bytes more
pub bodies_skip : (skip place : ℕ) (bytes : List ℕ) → bodies_from skip place bytes ≡ bodies_from 0 (place + skip) (drop skip bytes)
bodies_skip zero place [] = refl
bodies_skip zero place (byte ∷ bytes) = let e : place ≡ place + 0 = omega arith in ap (λ (n : ℕ). bodies_from 0 n (byte ∷ bytes)) e
bodies_skip (suc skip) place [] = refl
bodies_skip (suc skip) place (byte ∷ bytes) =
    let e : place + 1 + skip ≡ place + suc skip = omega arith in
    bodies_skip skip (place + 1) bytes ∙ ap (λ (n : ℕ). bodies_from 0 n (drop skip bytes)) e

-- a gate that isn't open ends the records
pub bodies_closed : (place gate : ℕ) (rest : List ℕ) → gate ≢ 1 → bodies_from 0 place (gate ∷ rest) ≡ Ok []
bodies_closed place gate rest shut = by_test (gate == 1) (grind (arith, nat_tests))
  where
    by_test : (test : Bool) → test ≡ false → (if test then (if is_whole rest then with_first (body_in rest) (bodies_from (4 + u32_in rest) (place + 1) rest) else Err place) else Ok []) ≡ Ok []
    by_test true is = cc
    by_test false is = refl

-- an open gate and a whole record
pub bodies_open : (place : ℕ) (rest body behind : List ℕ) → Framed rest body behind → bodies_from 0 place (1 ∷ rest) ≡ with_first body (bodies_from 0 (place + (5 + length body)) behind)
bodies_open place rest body behind frame =
    let e : place + 1 + (4 + length body) ≡ place + (5 + length body) = omega arith in
    ap (λ (b : Bool). if b then with_first (body_in rest) (bodies_from (4 + u32_in rest) (place + 1) rest) else Err place) frame.whole
    ∙ ap (λ (n : ℕ). with_first (body_in rest) (bodies_from (4 + n) (place + 1) rest)) frame.number
    ∙ ap (with_first (body_in rest)) (bodies_skip (4 + length body) (place + 1) rest)
    ∙ ap (λ (l : List ℕ). with_first l (bodies_from 0 (place + 1 + (4 + length body)) (drop (4 + length body) rest))) frame.body_is
    ∙ ap (λ (n : ℕ). with_first body (bodies_from 0 n (drop (4 + length body) rest))) e
    ∙ ap (λ (l : List ℕ). with_first body (bodies_from 0 (place + (5 + length body)) l)) frame.behind_is

-- an open gate without one
pub bodies_damaged : (place : ℕ) (rest : List ℕ) → is_whole rest ≡ false → bodies_from 0 place (1 ∷ rest) ≡ Err place
bodies_damaged place rest cut = ap (λ (b : Bool). if b then with_first (body_in rest) (bodies_from (4 + u32_in rest) (place + 1) rest) else Err place) cut

pub prepend_none : (read : Result (List (List ℕ)) ℕ) → prepend [] read ≡ read
prepend_none (Ok bodies) = refl
prepend_none (Err place) = refl

pub prepend_first : (body : List ℕ) (bodies : List (List ℕ)) (read : Result (List (List ℕ)) ℕ) → with_first body (prepend bodies read) ≡ prepend (body ∷ bodies) read
prepend_first body bodies (Ok more) = refl
prepend_first body bodies (Err place) = refl

pub prepend_more : (bodies : List (List ℕ)) (body : List ℕ) (read : Result (List (List ℕ)) ℕ) → prepend bodies (with_first body read) ≡ prepend (bodies ++ body ∷ []) read
prepend_more bodies body (Ok more) = ap Ok (sym (append_assoc bodies (body ∷ []) more))
prepend_more bodies body (Err place) = refl

-- one whole record more is read
pub read_step : (all : Result (List (List ℕ)) ℕ) (bodies : List (List ℕ)) (end n : ℕ) (left rest : List ℕ) → left ≡ 1 ∷ rest → is_whole rest ≡ true → n ≡ 4 + u32_in rest → all ≡ prepend bodies (bodies_from 0 end left) → all ≡ prepend (bodies ++ body_in rest ∷ []) (bodies_from 0 (end + (1 + n)) (drop n rest))
read_step all bodies end n left rest is whole counts so_far =
    let parts = unframed rest whole in
    let frame : Framed rest (body_in rest) (drop n rest) = record {
      number = sym parts.size;
      whole = whole;
      body_is = refl;
      behind_is = ap (λ (k : ℕ). drop k rest) (omega (arith, parts.size, counts));
    } in
    let e : end + (5 + length (body_in rest)) ≡ end + (1 + n) = omega (arith, parts.size, counts) in
    so_far
    ∙ ap (λ (l : List ℕ). prepend bodies (bodies_from 0 end l)) is
    ∙ ap (prepend bodies) (bodies_open end rest (body_in rest) (drop n rest) frame)
    ∙ prepend_more bodies (body_in rest) (bodies_from 0 (end + (5 + length (body_in rest))) (drop n rest))
    ∙ ap (λ (k : ℕ). prepend (bodies ++ body_in rest ∷ []) (bodies_from 0 k (drop n rest))) e

-- and how far the bodies reach then
pub sum_step : (bodies : List (List ℕ)) (rest : List ℕ) → is_whole rest ≡ true → sum_by (λ body. 5 + length body) (bodies ++ body_in rest ∷ []) ≡ sum_by (λ body. 5 + length body) bodies + (5 + u32_in rest)
sum_step bodies rest whole = omega (arith, sum_by-append (λ (body : List ℕ). 5 + length body) bodies (body_in rest ∷ []), (unframed rest whole).size)
