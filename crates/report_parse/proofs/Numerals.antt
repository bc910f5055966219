-- A number in decimal is what its reading takes, and no other digits are.
use Rattle.std.proofs.Common.{◌≡◌, ℕ, zero, suc, ◌+◌, ◌-◌, ◌*◌, ◌<◌, ◌≤◌, ◌^◌, Bool, true, false, cond, ◌&&◌, leb, List, [], ◌∷◌, ◌++◌, length, get_or, take, drop, Option, Some, None, fold, refl, sym, ap, subst, ◌∙◌, arith, inl, inr, Bor}
use Rattle.std.specs.Prelude.{nat_le, nat_eq, MatchOption}
use Rattle.std.specs.Char.{is_ascii_digit, digit_value}
use Rattle.std.specs.Cmp.Lexicographic.{pointwise, same_text, other_text}
use Rattle.std.specs.Int.{IsInRange}
use Rattle.std.specs.Fmt.{decimal}
use Rattle.std.specs.List.{prefix_len, take_while}
use Rattle.std.specs.Str.Parse.{digits_value, digits_value_after, AllDigits}
use Rattle.std.proofs.lemmas.Bool.{cond-true, and_parts, and_from, le-leb, leb-true, cases_Bool}
use Rattle.std.proofs.lemmas.Bool.Decides.{nat_tests}
use Rattle.std.proofs.lemmas.Fmt.{digits_decimal, digits_value-decimal, decimal_nonempty, decimal_digit, first_decimal, decimal-digits_value}
use Rattle.std.proofs.lemmas.List.{take-append-drop}
use Rattle.std.proofs.Math.Seq.{take-append_seam, drop-append_seam}
use Rattle.std.proofs.lemmas.Str.{digit_value_digit}
use Rattle.std.proofs.lemmas.Str.Parse.{digit_from_value, numerals_by_value, tells_digits, IsNumeralModel}
use Rattle.std.proofs.lemmas.Option.{same_Some}
use Rattle.script_text.specs.Bytes.{is_digit}
use Rattle.script_text.specs.Grammar.{Stops}
use Rattle.script_text.specs.Numbers.{with_digit}
use Rattle.script_text.specs.Numbers as numbers
use Rattle.script_text.proofs.Digits.{all_digits_front}
use Rattle.report_parse.specs.Reading.{◌>>=◌, strip, Sees}
use Rattle.report_parse.specs.Numbers.{is_canonical, number_at}
use Rattle.report_parse.proofs.Exact.{IsExact, bind_some, strip_found, strip_again}

-- ---- a fixed text, as std's slices strip it

abbrev Stripped : List ℕ → List ℕ → Option (Bor (List ℕ)) → Type 0
Stripped text bytes o = MatchOption o (pointwise nat_eq (take (length text) bytes) text ≡ false) (λ x. (pointwise nat_eq (take (length text) bytes) text ≡ true) × (x.now ≡ drop (length text) bytes) × (length x.now + length text ≡ length bytes))

pub strip_prefix_is : (text bytes : List ℕ) (o : Option (Bor (List ℕ))) → Stripped text bytes o → Sees (λ x. x.now) o (strip text bytes)
strip_prefix_is text bytes (Some x) h =
    let front : take (length text) bytes ≡ text = same_text (take (length text) bytes) text (sym h.0) in
    let whole : bytes ≡ text ++ x.now = sym (take-append-drop (length text) bytes) ∙ (λ i. front i ++ sym h.1 i) in
    ap (strip text) whole ∙ strip_again text x.now
strip_prefix_is text bytes None h = by (strip text bytes) refl
  where
    by : (o : Option (List ℕ)) → strip text bytes ≡ o → o ≡ None
    by None is = refl
    by (Some rest) is =
        let whole = strip_found text bytes rest is in
        let front : take (length text) bytes ≡ text = ap (take (length text)) whole ∙ take-append_seam text rest in
        absurd (other_text (take (length text) bytes) text (sym h) front)

-- ---- digits

numerals : IsNumeralModel (AllDigits 10) (digits_value 10)
numerals = numerals_by_value (AllDigits 10) tells_digits

digit_is : (c : ℕ) → digit_value c < 10 → is_ascii_digit c ≡ true
digit_is c below =
    let within : IsInRange 48 57 c = digit_from_value c below in
    and_from (leb 48 c) (leb c 57) (le-leb 48 c (omega (arith, within))) (le-leb c 57 (omega (arith, within)))

-- digits up to something else
prefix_is : (ds rest : List ℕ) → AllDigits 10 ds → Stops is_digit rest → prefix_len is_digit (ds ++ rest) ≡ length ds
prefix_is [] [] all stops = refl
prefix_is [] (b ∷ rest) all stops = ap (λ (t : Bool). cond t (1 + prefix_len is_digit rest) 0) stops
prefix_is (d ∷ ds) rest all stops =
    ap (λ (t : Bool). cond t (1 + prefix_len is_digit (ds ++ rest)) 0) (digit_is d all.0) ∙ omega (arith, prefix_is ds rest all.1 stops)

-- digits behind others write no smaller number
grows : (ds : List ℕ) (a : ℕ) → a ≤ digits_value_after 10 a ds
grows [] a = omega arith
grows (d ∷ ds) a = omega (arith, grows ds (a * 10 + digit_value d))

reads_as : (greatest : ℕ) (ds : List ℕ) (a : ℕ) → AllDigits 10 ds → digits_value_after 10 a ds ≤ greatest
    → fold (with_digit greatest) (Some a) ds ≡ Some (digits_value_after 10 a ds)
reads_as greatest [] a all small = refl
reads_as greatest (d ∷ ds) a all small =
    let within : IsInRange 48 57 d = digit_from_value d all.0 in
    let is : d - 48 ≡ digit_value d = omega (arith, digit_value_digit d within) in
    let next : a * 10 + digit_value d ≤ greatest = omega (arith, grows ds (a * 10 + digit_value d), small) in
    let passes : (is_ascii_digit d && nat_le (a * 10 + (d - 48)) greatest) ≡ true =
    and_from (is_ascii_digit d) _ (digit_is d all.0) (le-leb (a * 10 + (d - 48)) greatest (omega (arith, is, next))) in
    let one : with_digit greatest (Some a) d ≡ Some (a * 10 + digit_value d) =
    cond-true _ _ _ passes ∙ ap (λ (v : ℕ). Some (a * 10 + v)) is in
    ap (λ (r : Option ℕ). fold (with_digit greatest) r ds) one ∙ reads_as greatest ds (a * 10 + digit_value d) all.1 small

nothing_more : (greatest : ℕ) (ds : List ℕ) (n : ℕ) → fold (with_digit greatest) None ds ≡ Some n → ⊥
nothing_more greatest [] n e = absurd cc
nothing_more greatest (d ∷ ds) n e = nothing_more greatest ds n e

-- what digits are read as is their value, and no more than the greatest
was_read : (greatest : ℕ) (ds : List ℕ) (a n : ℕ) → AllDigits 10 ds → a ≤ greatest → fold (with_digit greatest) (Some a) ds ≡ Some n
    → (digits_value_after 10 a ds ≡ n) × (n ≤ greatest)
was_read greatest [] a n all small e = let is : a ≡ n = same_Some a n e in (is, omega (arith, is, small))
was_read greatest (d ∷ ds) a n all small e =
    elim (cases_Bool (is_ascii_digit d && nat_le (a * 10 + (d - 48)) greatest)) [
      | inl t ↦
          let within : IsInRange 48 57 d = digit_from_value d all.0 in
          let is : d - 48 ≡ digit_value d = omega (arith, digit_value_digit d within) in
          let le : a * 10 + (d - 48) ≤ greatest = leb-true (a * 10 + (d - 48)) greatest (and_parts (is_ascii_digit d) _ t).1 in
          let one : with_digit greatest (Some a) d ≡ Some (a * 10 + digit_value d) = cond-true _ _ _ t ∙ ap (λ (v : ℕ). Some (a * 10 + v)) is in
          was_read greatest ds (a * 10 + digit_value d) n all.1 (omega (arith, is, le)) (ap (λ (r : Option ℕ). fold (with_digit greatest) r ds) (sym one) ∙ e)
      | inr f ↦
          let none : with_digit greatest (Some a) d ≡ None = ap (λ (t : Bool). cond t (Some (a * 10 + (d - 48))) None) f in
          absurd (nothing_more greatest ds n (ap (λ (r : Option ℕ). fold (with_digit greatest) r ds) (sym none) ∙ e))
    ]

-- ---- canonical digits

abbrev Lead : List ℕ → Type 0
Lead ds = (0 < length ds) × (get_or ds 0 0 ≡ 48 → length ds ≡ 1)

lead_from : (ds : List ℕ) → is_canonical ds ≡ true → Lead ds
lead_from [] e = absurd cc
lead_from (d ∷ []) e = (omega arith, λ z. refl)
lead_from (d ∷ c ∷ ds) e = (omega arith, λ z. absurd (grind (arith, nat_tests)))

canonical_from : (ds : List ℕ) → 0 < length ds → 48 < get_or ds 0 0 → is_canonical ds ≡ true
canonical_from [] some above = absurd (omega arith)
canonical_from (d ∷ []) some above = refl
canonical_from (d ∷ c ∷ ds) some above = grind (arith, nat_tests)

canonical : (n : ℕ) → n < 2 ^ 64 → is_canonical (decimal n) ≡ true
canonical zero small = ap is_canonical (decimal_digit 0 (omega arith))
canonical (suc n) small = canonical_from (decimal (suc n)) (decimal_nonempty (suc n) small) (first_decimal (suc n) (omega arith) small)

-- ---- a number

test_some : {A : Type 0} (b : Bool) (o : Option A) (y : A) → cond b o None ≡ Some y → (b ≡ true) × (o ≡ Some y)
test_some true o y e = (refl, e)
test_some false o y e = absurd cc

number_found : (greatest : ℕ) → greatest < 2 ^ 64 → (bytes : List ℕ) (x : ℕ × List ℕ) → number_at greatest bytes ≡ Some x → (x.0 ≤ greatest) × (bytes ≡ decimal x.0 ++ x.1)
unfolding number_at
number_found greatest small bytes x e =
    let ds : List ℕ = take_while is_digit bytes in
    let rest : List ℕ = drop (prefix_len is_digit bytes) bytes in
    let t = test_some (is_canonical ds) (numbers.digits_value greatest ds >>= λ n. Some (n, rest)) x e in
    let p = bind_some (numbers.digits_value greatest ds) (λ n. Some (n, rest)) x t.1 in
    let all = all_digits_front bytes in
    let w = was_read greatest ds 0 p.0 all (omega arith) p.1 in
    let lead = lead_from ds t.0 in
    let spelt : decimal (digits_value 10 ds) ≡ ds = decimal-digits_value numerals ds all lead.0 lead.1 (omega (arith, w.0, w.1, small)) in
    let whole : bytes ≡ decimal p.0 ++ rest = sym (take-append-drop (prefix_len is_digit bytes) bytes) ∙ ap (λ (t : List ℕ). t ++ rest) (sym spelt ∙ ap decimal w.0) in
    subst (λ (x : ℕ × List ℕ). (x.0 ≤ greatest) × (bytes ≡ decimal x.0 ++ x.1)) (same_Some (p.0, rest) x p.2) (w.1, whole)

number_again : (greatest : ℕ) → greatest < 2 ^ 64 → (n : ℕ) (rest : List ℕ) → n ≤ greatest → Stops is_digit rest → number_at greatest (decimal n ++ rest) ≡ Some (n, rest)
unfolding number_at
number_again greatest small n rest le stops =
    let h : n < 2 ^ 64 = omega (arith, le, small) in
    let bytes : List ℕ = decimal n ++ rest in
    let all : AllDigits 10 (decimal n) = digits_decimal numerals n h in
    let value : digits_value 10 (decimal n) ≡ n = digits_value-decimal numerals n h in
    let long : prefix_len is_digit bytes ≡ length (decimal n) = prefix_is (decimal n) rest all stops in
    let front : take_while is_digit bytes ≡ decimal n = ap (λ (k : ℕ). take k bytes) long ∙ take-append_seam (decimal n) rest in
    let back : drop (prefix_len is_digit bytes) bytes ≡ rest = ap (λ (k : ℕ). drop k bytes) long ∙ drop-append_seam (decimal n) rest in
    let read : numbers.digits_value greatest (decimal n) ≡ Some n = reads_as greatest (decimal n) 0 all (omega (arith, value, le)) ∙ ap Some value in
    rw (front, back, canonical n h, read) refl

pub exact_number : (greatest : ℕ) → greatest < 2 ^ 64 → IsExact (Stops is_digit) (λ n. n ≤ greatest) decimal (number_at greatest)
exact_number greatest small = record { found = number_found greatest small; again = number_again greatest small }
