-- A number in decimal is a token, and reads as that number.
use Rattle.std.proofs.Common.{◌≡◌, ℕ, ◌*◌, ◌+◌, ◌-◌, ◌<◌, ◌≤◌, ◌^◌, true, List, [], ◌∷◌, length, Option, Some, None, fold, refl, ap, subst, ◌∙◌}
use Rattle.std.proofs.Common.{arith, leb}
use Rattle.std.specs.Prelude.{◌&&◌, nat_le}
use Rattle.std.specs.List.{list_all}
use Rattle.std.specs.Char.{is_ascii_digit, digit_value}
use Rattle.std.specs.Int.{IsInRange}
use Rattle.std.specs.Fmt.{decimal}
use Rattle.std.specs.Str.Parse.{digits_value, digits_value_after, AllDigits}
use Rattle.std.proofs.lemmas.Bool.{cond_both, cond-true, and_parts, and_from, le-leb, leb-true}
use Rattle.std.proofs.lemmas.Fmt.{digits_decimal, digits_value-decimal, length-decimal-le, decimal_nonempty}
use Rattle.std.proofs.lemmas.Str.{digit_value_digit}
use Rattle.std.proofs.lemmas.Str.Parse.{digit_from_value, numerals_by_value, tells_digits, IsNumeralModel}
use Rattle.script_text.specs.Grammar.{is_number, IsToken}
use Rattle.script_text.specs.declared.token.TokenKind.TheVariants.{Number}
use Rattle.script_text.specs.Marks.{max_number}
use Rattle.script_text.specs.Numbers.{with_digit}
use Rattle.script_text.specs.Numbers as numbers

numerals : IsNumeralModel (AllDigits 10) (digits_value 10)
numerals = numerals_by_value (AllDigits 10) tells_digits

digit_is : (c : ℕ) → digit_value c < 10 → is_ascii_digit c ≡ true
digit_is c below =
    let within : IsInRange 48 57 c = digit_from_value c below in
    and_from (leb 48 c) (leb c 57) (le-leb 48 c (omega (arith, within))) (le-leb c 57 (omega (arith, within)))

all_are : (ds : List ℕ) → AllDigits 10 ds → list_all is_ascii_digit ds ≡ true
all_are [] all = refl
all_are (d ∷ ds) all = and_from (is_ascii_digit d) (list_all is_ascii_digit ds) (digit_is d all.0) (all_are ds all.1)

number_is : (ds : List ℕ) → 0 < length ds → AllDigits 10 ds → is_number ds ≡ true
number_is [] some all = absurd (omega (arith, some))
number_is (d ∷ ds) some all = all_are (d ∷ ds) all

pub decimal_token : (n : ℕ) → n ≤ max_number → IsToken Number (decimal n)
decimal_token n small =
    let h : n < 2 ^ 64 = omega (arith, small) in
    let value : digits_value 10 (decimal n) ≡ n = digits_value-decimal numerals n h in (
      number_is (decimal n) (decimal_nonempty n h) (digits_decimal numerals n h),
      length-decimal-le 19 n (omega arith) (omega (arith, small)) h,
      omega (arith, value, small),
    )

-- digits behind others write no smaller number
grows : (ds : List ℕ) (a : ℕ) → a ≤ digits_value_after 10 a ds
grows [] a = omega arith
grows (d ∷ ds) a = omega (arith, grows ds (a * 10 + digit_value d))

reads_as : (ds : List ℕ) (a : ℕ) → AllDigits 10 ds → digits_value_after 10 a ds ≤ max_number
    → fold (with_digit max_number) (Some a) ds ≡ Some (digits_value_after 10 a ds)
reads_as [] a all small = refl
reads_as (d ∷ ds) a all small =
    let within : IsInRange 48 57 d = digit_from_value d all.0 in
    let is : d - 48 ≡ digit_value d = omega (arith, digit_value_digit d within) in
    let next : a * 10 + digit_value d ≤ max_number = omega (arith, grows ds (a * 10 + digit_value d), small) in
    let passes : (is_ascii_digit d && nat_le (a * 10 + (d - 48)) max_number) ≡ true =
    and_from (is_ascii_digit d) _ (digit_is d all.0) (le-leb (a * 10 + (d - 48)) max_number (omega (arith, is, next))) in
    let one : with_digit max_number (Some a) d ≡ Some (a * 10 + digit_value d) =
    cond-true _ _ _ passes ∙ ap (λ (v : ℕ). Some (a * 10 + v)) is in
    ap (λ (r : Option ℕ). fold (with_digit max_number) r ds) one ∙ reads_as ds (a * 10 + digit_value d) all.1 small

pub decimal_number : (n : ℕ) → n ≤ max_number → numbers.digits_value max_number (decimal n) ≡ Some n
decimal_number n small =
    let h : n < 2 ^ 64 = omega (arith, small) in
    let value : digits_value 10 (decimal n) ≡ n = digits_value-decimal numerals n h in
    reads_as (decimal n) 0 (digits_decimal numerals n h) (omega (arith, value, small)) ∙ ap Some value

abbrev Small : Option ℕ → Type 0
Small None = Unit {0}
Small (Some n) = n ≤ max_number

one_small : (r : Option ℕ) (d : ℕ) → Small (with_digit max_number r d)
one_small None d = tt
one_small (Some a) d =
    cond_both (is_ascii_digit d && nat_le (a * 10 + (d - 48)) max_number) _ _ Small
    (λ e. leb-true (a * 10 + (d - 48)) max_number (and_parts (is_ascii_digit d) _ e).1)
    (λ e. tt)

all_small : (ds : List ℕ) (r : Option ℕ) → Small r → Small (fold (with_digit max_number) r ds)
all_small [] r s = s
all_small (d ∷ ds) r s = all_small ds (with_digit max_number r d) (one_small r d)

pub number_small : (ds : List ℕ) (n : ℕ) → numbers.digits_value max_number ds ≡ Some n → n ≤ max_number
number_small ds n e = subst Small e (all_small ds (Some 0) (omega arith))
