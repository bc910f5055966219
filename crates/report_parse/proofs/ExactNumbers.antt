-- The readings of numbers are exact.
use Rattle.std.proofs.Common.{◌≡◌, ℕ, suc, ◌-◌, ◌<◌, ◌≤◌, ◌^◌, true, ℤ, pos, negsuc, FitsSigned, List, [], ◌∷◌, ◌++◌, length, Option, Some, None, refl, ap, ◌∙◌, arith, codes}
use Rattle.std.specs.Prelude.{nat_lt}
use Rattle.std.specs.Fmt.{decimal, signed_decimal}
use Rattle.std.specs.Int.{w64}
use Rattle.std.specs.Str.Parse.{AllDigits}
use Rattle.std.proofs.lemmas.Bool.{ltb-true, lt-ltb}
use Rattle.std.proofs.lemmas.Fmt.{decimal_is_IsNumeral}
use Rattle.std.proofs.lemmas.Str.Parse.{digit_from_value}
use Rattle.script_text.specs.Bytes.{is_digit}
use Rattle.script_text.specs.Grammar.{Stops}
use Rattle.report_parse.specs.Reading.{Reading, strip, made, such_that, chosen}
use Rattle.report_parse.specs.Numbers.{number_at, u8_at, u32_at, u64_at, negative_at, int_at, spaced_int_at}
use Rattle.report_parse.proofs.Exact.{IsExact, exact_as, exact_made, exact_such, exact_behind, strip_found}
use Rattle.report_parse.proofs.Numerals.{exact_number}

-- no digit follows
abbrev pub NoDigit : List ℕ → Type 0
NoDigit rest = Stops is_digit rest

exact_below : (limit greatest : ℕ) → limit ≡ suc greatest → limit ≤ 2 ^ 64 → IsExact NoDigit (λ n. n < limit) decimal (number_at greatest)
exact_below limit greatest is small =
    exact_as NoDigit (λ n. n ≤ greatest) (λ n. n < limit) decimal decimal (number_at greatest) (exact_number greatest (omega arith))
    (λ n h. (omega arith, refl)) (λ n h. omega arith)

pub exact_u8 : IsExact NoDigit (λ n. n < 2 ^ 8) decimal u8_at
exact_u8 = exact_below (2 ^ 8) 255 (omega arith) (omega arith)

pub exact_u32 : IsExact NoDigit (λ n. n < 2 ^ 32) decimal u32_at
exact_u32 = exact_below (2 ^ 32) 4294967295 (omega arith) (omega arith)

pub exact_u64 : IsExact NoDigit (λ n. n < 2 ^ 64) decimal u64_at
exact_u64 = exact_below (2 ^ 64) 18446744073709551615 (omega arith) (omega arith)

-- ---- with a sign

-- a number below 0
abbrev IsNegative : ℤ → Type 0
IsNegative (pos n) = ⊥
IsNegative (negsuc n) = n < 2 ^ 63

abbrev size : ℤ → ℕ
size (pos n) = n
size (negsuc n) = suc n

is_some : (n : ℕ) → nat_lt 0 n ≡ true → 0 < n
is_some n e = ltb-true 0 n e

size_again : (n : ℕ) → 0 < n → suc (n - 1) ≡ n
size_again n h = omega arith

negative_from : (z : ℤ) → IsNegative z → ((size z ≤ 9223372036854775808) × (nat_lt 0 (size z) ≡ true)) × (negsuc (size z - 1) ≡ z)
negative_from (pos n) h = absurd h
negative_from (negsuc n) h = ((omega arith, lt-ltb 0 (suc n) (omega arith)), ap negsuc (omega arith))

exact_negative : IsExact NoDigit IsNegative (λ z. decimal (size z)) negative_at
unfolding negative_at
exact_negative =
    exact_made NoDigit (λ n. (n ≤ 9223372036854775808) × (nat_lt 0 n ≡ true)) IsNegative decimal (λ z. decimal (size z)) (λ n. negsuc (n - 1)) size
    (such_that (λ n. nat_lt 0 n) (number_at 9223372036854775808))
    (exact_such NoDigit (λ n. n ≤ 9223372036854775808) decimal (λ n. nat_lt 0 n) (number_at 9223372036854775808) (exact_number 9223372036854775808 (omega arith)))
    (λ n h. let some = is_some n h.1 in (omega (arith, h.0, some), ap decimal (size_again n some)))
    negative_from

-- a number that isn't below 0
abbrev IsPositive : ℤ → Type 0
IsPositive (pos n) = n < 2 ^ 63
IsPositive (negsuc n) = ⊥

positive_from : (z : ℤ) → IsPositive z → (size z ≤ 9223372036854775807) × (pos (size z) ≡ z)
positive_from (pos n) h = (omega arith, refl)
positive_from (negsuc n) h = absurd h

abbrev positive_at : Reading ℤ
positive_at = made pos (number_at 9223372036854775807)

exact_positive : IsExact NoDigit IsPositive (λ z. decimal (size z)) positive_at
exact_positive =
    exact_made NoDigit (λ n. n ≤ 9223372036854775807) IsPositive decimal (λ z. decimal (size z)) pos size (number_at 9223372036854775807)
    (exact_number 9223372036854775807 (omega arith)) (λ n h. (omega arith, refl)) positive_from

negative_fits : (z : ℤ) (rest bytes : List ℕ) → IsNegative z → bytes ≡ 45 ∷ (decimal (size z) ++ rest) → FitsSigned w64 z × (bytes ≡ signed_decimal z ++ rest)
negative_fits (pos n) rest bytes h e = absurd h
negative_fits (negsuc n) rest bytes h e = (record { sfits = h }, e)

positive_fits : (z : ℤ) (rest bytes : List ℕ) → IsPositive z → bytes ≡ decimal (size z) ++ rest → FitsSigned w64 z × (bytes ≡ signed_decimal z ++ rest)
positive_fits (pos n) rest bytes h e = (record { sfits = h }, e)
positive_fits (negsuc n) rest bytes h e = absurd h

int_found : (bytes : List ℕ) (x : ℤ × List ℕ) → int_at bytes ≡ Some x → FitsSigned w64 x.0 × (bytes ≡ signed_decimal x.0 ++ x.1)
unfolding int_at
int_found bytes x e = by (strip (codes "-") bytes) refl e
  where
    by : (o : Option (List ℕ)) → strip (codes "-") bytes ≡ o → chosen o negative_at (positive_at bytes) ≡ Some x → FitsSigned w64 x.0 × (bytes ≡ signed_decimal x.0 ++ x.1)
    by None is e = let f = exact_positive.found bytes x e in positive_fits x.0 x.1 bytes f.0 f.1
    by (Some rest) is e =
        let f = exact_negative.found rest x e in
        negative_fits x.0 x.1 bytes f.0 (strip_found (codes "-") bytes rest is ∙ ap (λ (t : List ℕ). 45 ∷ t) f.1)

-- digits begin with no sign
no_sign : (ds rest : List ℕ) → 0 < length ds → AllDigits 10 ds → strip (codes "-") (ds ++ rest) ≡ None
unfolding strip
no_sign [] rest some all = absurd (omega arith)
no_sign (d ∷ ds) rest some all = let within = digit_from_value d all.0 in grind (arith, within)

int_again : (z : ℤ) (rest : List ℕ) → FitsSigned w64 z → NoDigit rest → int_at (signed_decimal z ++ rest) ≡ Some (z, rest)
unfolding int_at strip
int_again (pos n) rest h m =
    let small : n < 2 ^ 63 = h.sfits in
    let numeral = (decimal_is_IsNumeral n (omega (arith, small))).0 in
    ap (λ (o : Option (List ℕ)). chosen o negative_at (positive_at (decimal n ++ rest))) (no_sign (decimal n) rest numeral.0 numeral.1)
    ∙ exact_positive.again (pos n) rest small m
int_again (negsuc n) rest h m = let small : n < 2 ^ 63 = h.sfits in exact_negative.again (negsuc n) rest small m

pub exact_int : IsExact NoDigit (λ z. FitsSigned w64 z) signed_decimal int_at
exact_int = record { found = int_found; again = int_again }

pub exact_spaced_int : IsExact NoDigit (λ z. FitsSigned w64 z) (λ z. 32 ∷ signed_decimal z) spaced_int_at
unfolding spaced_int_at
exact_spaced_int = exact_behind NoDigit (λ z. FitsSigned w64 z) signed_decimal (codes " ") int_at exact_int
