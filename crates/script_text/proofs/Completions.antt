-- What was read of a script can be completed, unless a token couldn't stand where it stood.
use Rattle.std.proofs.Common.{◌≡◌, ℕ, zero, suc, ◌+◌, ◌-◌, ◌*◌, ◌<◌, ◌≤◌, true, List, [], ◌∷◌, ◌++◌, length, Some, None, refl, ap, ◌∙◌, inl, inr, arith}
use Rattle.std.specs.Prelude.{◌&&◌, nat_eq, nat_le, cond, fold, codes}
use Rattle.std.specs.Char.{is_ascii_digit}
use Rattle.std.proofs.lemmas.Bool.{eq-eqb, le-leb, cases_lt}
use Rattle.std.proofs.lemmas.List.Sums.{fold-append}
use Rattle.script_text.specs.declared.token.Token.{Token}
use Rattle.script_text.specs.declared.token.TokenKind.{TokenKind}
use Rattle.script_text.specs.declared.token.TokenKind.TheVariants as kinds
use Rattle.script_text.specs.declared.reader.Found.{Found}
use Rattle.script_text.specs.declared.reader.Current.{Current}
use Rattle.script_text.specs.declared.reader.Reader.{Reader}
use Rattle.script_text.specs.declared.reader.Reader.TheVariants.{Start, Setup, Number, Client, Word, Item, Schedule, Stopped}
use Rattle.script_text.specs.Marks.{mark_of, max_number}
use Rattle.script_text.specs.Numbers.{with_digit, digits_value}
use Rattle.script_text.specs.Sections.{new_client, stop, number_step, step, fault_at_end}

-- a token with a text
abbrev token_as : TokenKind → List ℕ → Token
token_as kind text = record { kind = kind; text = text; line = 0; from = 0; to = 0 }

abbrev open_brace : Token
open_brace = token_as kinds.Symbol (codes "{")

abbrev close_brace : Token
close_brace = token_as kinds.Symbol (codes "}")

abbrev semicolon : Token
semicolon = token_as kinds.Symbol (codes ";")

-- so many closing braces
abbrev close_all : ℕ → List Token
close_all zero = []
close_all (suc n) = close_brace ∷ close_all n

-- with some tokens more, the tokens may end
pub record Completes (r : Reader) : Type 0 where
  pub more : List Token
  pub ends : (line : ℕ) → fault_at_end (fold step r more) line ≡ None

setup_ends : (d : ℕ) (part : List Token) (line : ℕ) → fault_at_end (fold step (Setup part d (nat_eq d 0)) (close_all d)) line ≡ None
unfolding step mark_of
setup_ends zero part line = refl
setup_ends (suc d) part line = setup_ends d (part ++ close_brace ∷ []) line

item_ends : (d : ℕ) (cur : Current) (part : List Token) (line : ℕ) → fault_at_end (fold step (Item cur part d) (close_all (suc d))) line ≡ None
unfolding step mark_of
item_ends zero cur part line = refl
item_ends (suc d) cur part line = item_ends d cur (part ++ close_brace ∷ []) line

-- the tens and the ones of a number
record Digits (n : ℕ) : Type 0 where
  tens : ℕ
  ones : ℕ
  small : ones < 10
  value : n ≡ tens * 10 + ones

digits_of : (n : ℕ) → Digits n
digits_of zero = record { tens = 0; ones = 0; small = omega arith; value = refl }
digits_of (suc n) =
    let d = digits_of n in
    elim (cases_lt (d.ones + 1) 10) as (λ x. Digits (suc n)) [
      | inl below ↦ record { tens = d.tens; ones = d.ones + 1; small = below; value = omega (arith, d.value) }
      | inr above ↦ record { tens = d.tens + 1; ones = 0; small = omega arith; value = omega (arith, d.value, d.small) }
    ]

-- digits that write a number
record Writes (n : ℕ) : Type 0 where
  digits : List ℕ
  is : digits_value max_number digits ≡ Some n

is_digit_byte : (r : ℕ) → r < 10 → is_ascii_digit (r + 48) ≡ true
is_digit_byte r small = grind arith

written : (fuel n : ℕ) → n ≤ fuel → n ≤ max_number → Writes n
written fuel zero within fits = record { digits = []; is = refl }
written zero (suc n) within fits = absurd (omega arith)
written (suc fuel) (suc n) within fits =
    let d = digits_of (suc n) in
    let before = written fuel d.tens (omega (arith, d.value, d.small)) (omega (arith, d.value)) in
    let one : d.ones + 48 - 48 ≡ d.ones = omega arith in
    let value : d.tens * 10 + (d.ones + 48 - 48) ≡ suc n = omega (arith, d.value) in
    record {
      digits = before.digits ++ (d.ones + 48) ∷ [];
      is = fold-append (with_digit max_number) (Some 0) before.digits ((d.ones + 48) ∷ [])
          ∙ ap (λ o. with_digit max_number o (d.ones + 48)) before.is
          ∙ ap (λ v. cond (is_ascii_digit (d.ones + 48) && nat_le v max_number) (Some v) None) value
          ∙ ap (λ b. cond (b && nat_le (suc n) max_number) (Some (suc n)) None) (is_digit_byte d.ones d.small)
          ∙ ap (λ b. cond b (Some (suc n)) None) (le-leb (suc n) max_number fits);
    }

number_completes : (f : Found) → length f.clients + 1 ≤ max_number → Completes (Number f)
unfolding step
number_completes f fits =
    let n : ℕ = length f.clients + 1 in
    let w = written n n (omega arith) fits in
    let number : Token = token_as kinds.Number w.digits in
    let next : step (Number f) number ≡ Client (new_client f) =
    ap (λ o. number_step o f number) w.is ∙ ap (λ b. cond b (Client (new_client f)) (stop (Number f) number)) (eq-eqb n n refl) in
    record { more = number ∷ []; ends = λ line. ap (λ r. fault_at_end r line) next }

-- there are so many clients that their next number can be written
abbrev pub Countable : Reader → Type 0
Countable Start = Unit {0}
Countable (Setup part depth closed) = Unit {0}
Countable (Number f) = length f.clients + 1 ≤ max_number
Countable (Client cur) = Unit {0}
Countable (Word cur part) = Unit {0}
Countable (Item cur part depth) = Unit {0}
Countable (Schedule f tokens) = Unit {0}
Countable (Stopped sections fault) = ⊥

-- what was read can be completed
pub completes : (r : Reader) → Countable r → Completes r
unfolding step mark_of
completes Start can = record { more = []; ends = λ line. refl }
completes (Setup part d c) can = record { more = semicolon ∷ close_all d; ends = setup_ends d (part ++ semicolon ∷ []) }
completes (Number f) can = number_completes f can
completes (Client cur) can = record { more = []; ends = λ line. refl }
completes (Word cur part) can = record { more = open_brace ∷ close_brace ∷ []; ends = λ line. refl }
completes (Item cur part d) can = record { more = close_all (suc d); ends = item_ends d cur part }
completes (Schedule f tokens) can = record { more = []; ends = λ line. refl }
completes (Stopped sections fault) can = absurd can
