-- The text of a token: no line ends in it, and a space can stand behind it.
use Rattle.std.proofs.Common.{◌≡◌, ℕ, ◌+◌, Bool, true, false, cond, List, [], ◌∷◌, ◌++◌, take, drop, map, refl, sym, ap, subst, ◌∙◌, arith, ⊎_elim}
use Rattle.std.proofs.Common.{take-append-drop}
use Rattle.std.specs.Prelude.{◌||◌, ◌==◌}
use Rattle.std.specs.List.{list_any, list_all, count_by, AllByRecursion}
use Rattle.std.specs.Str.{bytes_eq}
use Rattle.std.proofs.lemmas.Bool.{or_cases, or_left, or_right, and_parts, and_from, eqb-true, false_from_ne_true, both_ways}
use Rattle.std.proofs.lemmas.List.Sums.{sum_by-append, sum_by-cons}
use Rattle.std.proofs.lemmas.Slice.Eq.{bytes_eq-Decides}
use Rattle.thor_value.specs.Words.{fits_word, is_text_byte}
use Rattle.script_text.specs.declared.token.TokenKind.{TokenKind}
use Rattle.script_text.specs.declared.token.TokenKind.TheVariants.{Name, Number, Keyword, Symbol, Quoted}
use Rattle.script_text.specs.Bytes.{is_newline, is_letter, is_digit, is_word_byte}
use Rattle.script_text.specs.Words.{long_symbols, quotation_mark, short_symbols}
use Rattle.script_text.specs.Grammar.{is_word, is_number, is_symbol, IsToken, EndsBefore}

abbrev counted : ℕ → ℕ
counted b = cond (is_newline b) 1 0

-- no line ends in the text
abbrev pub OnOneLine : List ℕ → Type 0
OnOneLine text = count_by is_newline text ≡ 0

pub line_both : (s t : List ℕ) → OnOneLine s → OnOneLine t → OnOneLine (s ++ t)
line_both s t a b = omega (arith, sum_by-append counted s t, a, b)

pub line_cons : (b : ℕ) (s : List ℕ) → is_newline b ≡ false → OnOneLine s → OnOneLine (b ∷ s)
line_cons b s e a = sum_by-cons counted b s ∙ rw e (omega (arith, a))

pub line_take : (n : ℕ) (s : List ℕ) → OnOneLine s → OnOneLine (take n s)
line_take n s a =
    let parts : count_by is_newline (take n s) + count_by is_newline (drop n s) ≡ count_by is_newline s =
    sym (sum_by-append counted (take n s) (drop n s)) ∙ ap (λ t. count_by is_newline t) (take-append-drop n s) in
    omega (arith, parts, a)

-- bytes that pass a test which the end of a line doesn't pass
passing : (test : ℕ → Bool) → test 10 ≡ false → (s : List ℕ) → list_all test s ≡ true → OnOneLine s
passing test fails [] all = refl
passing test fails (b ∷ s) all =
    let parts = and_parts (test b) (list_all test s) all in
    line_cons b s
    (false_from_ne_true (is_newline b) (λ e. both_ways (test 10) fails (subst (λ c. test c ≡ true) (eqb-true b 10 e) parts.0)))
    (passing test fails s parts.1)

-- what holds of each text of a list holds of one that is among them
each_among : (P : List ℕ → Type 0) (texts : List (List ℕ)) (text : List ℕ) → AllByRecursion P texts
    → list_any (λ t. bytes_eq t text) texts ≡ true → P text
each_among P [] text all is = cc
each_among P (t ∷ ts) text all is =
    ⊎_elim (λ here. subst P ((bytes_eq-Decides t text).0 here) all.0) (λ later. each_among P ts text all.1 later)
    (or_cases (bytes_eq t text) (list_any (λ u. bytes_eq u text) ts) is)

abbrev symbols : List (List ℕ)
symbols = long_symbols ++ map (λ b. b ∷ []) short_symbols

-- a word is made of bytes of words
word_bytes : (text : List ℕ) → is_word text ≡ true → list_all is_word_byte text ≡ true
word_bytes [] e = refl
word_bytes (b ∷ bs) e =
    let parts = and_parts (is_letter b) (list_all is_word_byte bs) e in
    and_from (is_word_byte b) (list_all is_word_byte bs)
    (or_left (is_letter b || is_digit b) (b == 95) (or_left (is_letter b) (is_digit b) parts.0)) parts.1

number_bytes : (text : List ℕ) → is_number text ≡ true → list_all is_digit text ≡ true
number_bytes [] e = refl
number_bytes (b ∷ bs) e = e

all_bytes : (word : List ℕ) → fits_word word ≡ true → list_all is_text_byte word ≡ true
all_bytes word fits = (and_parts _ (list_all is_text_byte word) fits).1

pub token_line : (kind : TokenKind) (text : List ℕ) → IsToken kind text → OnOneLine text
token_line Name text h = passing is_word_byte refl text (word_bytes text h.0)
token_line Keyword text h = passing is_word_byte refl text (word_bytes text h.0)
token_line Number text h = passing is_digit refl text (number_bytes text h.0)
token_line Symbol text h = each_among OnOneLine symbols text
    (refl, (refl, (refl, (refl, (refl, (refl, (refl, (refl, (refl, (refl, (refl, (refl, (refl, (refl, tt)))))))))))))) h
token_line Quoted text h =
    let bytes : OnOneLine h.word = passing is_text_byte refl h.word (all_bytes h.word h.fits) in
    subst OnOneLine (sym h.is) (line_cons quotation_mark (h.word ++ quotation_mark ∷ []) refl (line_both h.word (quotation_mark ∷ []) bytes (line_cons quotation_mark [] refl refl)))

-- a space stands in the text
abbrev has_space : List ℕ → Bool
has_space text = list_any (λ b. b == 32) text

space_last : (text : List ℕ) → has_space (text ++ 32 ∷ []) ≡ true
space_last [] = refl
space_last (b ∷ bs) = or_right (b == 32) (has_space (bs ++ 32 ∷ [])) (space_last bs)

no_symbol : (text : List ℕ) → is_symbol (text ++ 32 ∷ []) ≡ false
no_symbol text = false_from_ne_true (is_symbol (text ++ 32 ∷ [])) (λ e.
    both_ways (has_space (text ++ 32 ∷ []))
    (each_among (λ t. has_space t ≡ false) symbols (text ++ 32 ∷ [])
    (refl, (refl, (refl, (refl, (refl, (refl, (refl, (refl, (refl, (refl, (refl, (refl, (refl, (refl, tt)))))))))))))) e)
    (space_last text))

pub ends_before_space : (kind : TokenKind) (text behind : List ℕ) → EndsBefore kind text (32 ∷ behind)
ends_before_space Name text behind = refl
ends_before_space Keyword text behind = refl
ends_before_space Number text behind = refl
ends_before_space Symbol text behind = no_symbol text
ends_before_space Quoted text behind = tt

pub ends_at_end : (kind : TokenKind) (text : List ℕ) → EndsBefore kind text []
ends_at_end Name text = tt
ends_at_end Keyword text = tt
ends_at_end Number text = tt
ends_at_end Symbol text = tt
ends_at_end Quoted text = tt
