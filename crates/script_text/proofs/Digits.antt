-- Digits and their value.
use Rattle.std.proofs.Common.{◌≡◌, ℕ, zero, suc, ◌+◌, ◌-◌, ◌*◌, ◌^◌, ◌<◌, ◌≤◌, Bool, true, List, [], ◌∷◌, length, get_or, take, arith, length-take}
use Rattle.std.proofs.Math.Nat.{pow-le-pow_right}
use Rattle.std.specs.List.{prefix_len, take_while}
use Rattle.std.specs.Char.{digit_value}
use Rattle.std.specs.Int.{IsInRange}
use Rattle.std.specs.Str.Parse.{digits_value, AllDigits}
use Rattle.std.proofs.lemmas.Bool.{cond_both}
use Rattle.std.proofs.lemmas.List.Sums.{take_while-cons, prefix_len-le-length}
use Rattle.std.proofs.lemmas.Int.Digits.{digits_value-lt, digits_value_more}
use Rattle.std.proofs.lemmas.Str.{digit_value_digit}
use Rattle.std.proofs.lemmas.Str.Parse.{digit_from_value}
use Rattle.script_text.specs.Bytes.{is_digit}

-- a digit's value is below ten
digit_below : (c : ℕ) → is_digit c ≡ true → digit_value c < 10
digit_below c e =
    let within : IsInRange 48 57 c = grind arith in
    omega (arith, digit_value_digit c within, within)

-- the digits at the front of a text are digits
pub all_digits_front : (text : List ℕ) → AllDigits 10 (take_while is_digit text)
all_digits_front [] = tt
all_digits_front (c ∷ text) =
    rw (take_while-cons is_digit c text)
    (cond_both (is_digit c) (c ∷ take_while is_digit text) [] (AllDigits 10) (λ e. (digit_below c e, all_digits_front text)) (λ e. tt))

-- each of them is one
pub digit_in : (digits : List ℕ) (i : ℕ) → AllDigits 10 digits → i < length digits → digit_value (get_or digits i 0) < 10
digit_in [] i all below = absurd (omega arith)
digit_in (d ∷ ds) zero all below = all.0
digit_in (d ∷ ds) (suc i) all below = digit_in ds i all.1 (omega arith)

-- so is each at their front
all_digits_take : (n : ℕ) (digits : List ℕ) → AllDigits 10 digits → AllDigits 10 (take n digits)
all_digits_take zero ds all = tt
all_digits_take (suc n) [] all = tt
all_digits_take (suc n) (d ∷ ds) all = (all.0, all_digits_take n ds all.1)

-- one more digit, where there are few enough
pub record NextDigit (digits : List ℕ) (i : ℕ) : Type 0 where
  pub low : 48 ≤ get_or digits i 0
  pub high : get_or digits i 0 ≤ 57
  pub value : digits_value 10 (take (i + 1) digits) ≡ digits_value 10 (take i digits) * 10 + (get_or digits i 0 - 48)
  pub fits : digits_value 10 (take (i + 1) digits) < 10 ^ 19

pub next_digit : (digits : List ℕ) (i : ℕ) → AllDigits 10 digits → length digits ≤ 19 → i < length digits → NextDigit digits i
next_digit digits i all few below =
    let within = digit_from_value (get_or digits i 0) (digit_in digits i all below) in
    let is = digit_value_digit (get_or digits i 0) within in
    let more = digits_value_more 10 digits i below in
    let below_power = digits_value-lt 10 (take (i + 1) digits) (all_digits_take (i + 1) digits all) in
    let short : length (take (i + 1) digits) ≤ 19 = omega (arith, length-take (i + 1) digits) in
    let power : 10 ^ length (take (i + 1) digits) ≤ 10 ^ 19 = pow-le-pow_right (omega arith) short in
    record {
      low = omega (arith, within);
      high = omega (arith, within);
      value = omega (arith, is, more);
      fits = omega (arith, below_power, power);
    }

-- no more bytes pass a test at the front than there are
pub prefix_within : (test : ℕ → Bool) (text : List ℕ) → prefix_len test text ≤ length text
prefix_within test text = prefix_len-le-length test text
