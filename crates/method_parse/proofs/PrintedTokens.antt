-- Words with one space between two are tokens: just those words, on one line.
use Rattle.std.proofs.Common.{◌≡◌, ℕ, ℤ, pos, suc, ◌+◌, ◌-◌, ◌∙◌, true, List, [], ◌∷◌, ◌++◌, length, map, Option, Some, None, refl, sym, ap, ap₂, subst, arith, length-append}
use Rattle.std.specs.Prelude.{option_map}
use Rattle.std.specs.List.{flat_map, AllByRecursion}
use Rattle.std.proofs.lemmas.Bool.{cond-true}
use Rattle.std.proofs.lemmas.List.{take_at}
use Rattle.std.proofs.lemmas.Option.{cond_some}
use Rattle.thor_value.specs.Words.{fits_word, word_from}
use Rattle.script_text.specs.Words.{quotation_mark}
use Rattle.script_text.specs.declared.token.Token.{Token}
use Rattle.script_text.specs.declared.token.TokenKind.{TokenKind}
use Rattle.script_text.specs.declared.token.TokenKind.TheVariants as kinds
use Rattle.script_text.specs.Tokens.{line_at}
use Rattle.script_text.specs.Laws.{AreSpelled}
use Rattle.script_text.specs.Grammar.{IsToken, quoted, Part, Separator, Lexeme, bytes_of, EndsBefore, AreParts, tokens_in, AreTokensOf}
use Rattle.class_defs.specs.Words.{Word, Fixed, FixedAt, Named, Numbered, Quoted}
use Rattle.class_defs.specs.Printed.{word_text, spaced_words, with_spaces}
use Rattle.script_text.specs.Marks.{inside, number_by, text_by}
use Rattle.method_parse.specs.Matching.{AreWords, IsWord, is_name_by}
use Rattle.method_parse.proofs.PrintedNumbers.{decimal_token, decimal_number, number_small}
use Rattle.method_parse.proofs.PrintedWords.{OnOneLine, line_both, line_cons, line_take, token_line, ends_before_space, ends_at_end}

-- the word as it stands on line 1
abbrev pub first_line : Word → Word
first_line (Fixed text) = Fixed text
first_line (FixedAt text line) = FixedAt text 1
first_line (Named text line) = Named text 1
first_line (Numbered value line) = Numbered value 1
first_line (Quoted text line) = Quoted text 1

-- what a token of a kind is, wherever its text stands
abbrev Again : TokenKind → Word → Type 0
Again kind word = (from to : ℕ) → IsWord (record { kind = kind; text = word_text word; line = 1; from = from; to = to }) (first_line word)

-- the word printed is a token of the kind, and is the word
pub record IsPrinted (kind : TokenKind) (word : Word) : Type 0 where
  pub token : IsToken kind (word_text word)
  pub again : Again kind word

-- a number that a token is
number_printed : (kind : TokenKind) (text : List ℕ) (o : Option ℕ) (value : ℤ) (line : ℕ)
    → number_by kind text ≡ o → option_map pos o ≡ Some value
    → IsPrinted kind (Numbered value line)
number_printed kind text None value line e h = absurd cc
number_printed kinds.Name text (Some n) value line e h = absurd cc
number_printed kinds.Keyword text (Some n) value line e h = absurd cc
number_printed kinds.Symbol text (Some n) value line e h = absurd cc
number_printed kinds.Quoted text (Some n) value line e h = absurd cc
number_printed kinds.Number text (Some n) value line e h =
    let small = number_small text n e in
    let is : pos n ≡ value = cc in
    subst (λ v. IsPrinted kinds.Number (Numbered v line)) is (record {
      token = decimal_token n small;
      again = λ from to. (ap (λ (o : Option ℕ). option_map pos o) (decimal_number n small), refl);
    })

-- what stands between the marks of a text is the text
text_inside : (word : List ℕ) → inside (quoted word) ≡ word
text_inside word = take_at word (quotation_mark ∷ []) (length (word ++ quotation_mark ∷ []) - 1) (omega (arith, length-append word (quotation_mark ∷ [])))

-- a text that a token is
text_printed : (kind : TokenKind) (text word : List ℕ) (line : ℕ) → text_by kind text ≡ Some word → IsPrinted kind (Quoted word line)
text_printed kinds.Name text word line e = absurd cc
text_printed kinds.Number text word line e = absurd cc
text_printed kinds.Keyword text word line e = absurd cc
text_printed kinds.Symbol text word line e = absurd cc
text_printed kinds.Quoted text word line e =
    let w = cond_some (fits_word (inside text)) (inside text) word e in
    let fits : fits_word word ≡ true = ap fits_word (sym w.1) ∙ w.0 in
    record {
      token = record { word = word; fits = fits; is = refl };
      again = λ from to. (ap word_from (text_inside word) ∙ cond-true (fits_word word) (Some word) None fits, refl);
    }

word_printed : (t : Token) (w : Word) → IsToken t.kind t.text → IsWord t w → IsPrinted t.kind w
word_printed t (Fixed text) spelled is = record {
  token = subst (IsToken t.kind) is.1 spelled;
  again = λ from to. (is.0, refl);
}
word_printed t (FixedAt text line) spelled is = record {
  token = subst (IsToken t.kind) is.1 spelled;
  again = λ from to. (is.0, refl, refl);
}
word_printed t (Named text line) spelled is = record {
  token = subst (IsToken t.kind) is.1 spelled;
  again = λ from to. (subst (λ (w : List ℕ). is_name_by t.kind w ≡ true) is.1 is.0, refl, refl);
}
word_printed t (Numbered value line) spelled is = number_printed t.kind t.text _ value line refl is.0
word_printed t (Quoted text line) spelled is = text_printed t.kind t.text text line is.0

-- words, each with the kind of its token
abbrev pub Kinds : Type 0
Kinds = List (TokenKind × Word)

abbrev words_of : Kinds → List Word
words_of ks = map (λ (k : TokenKind × Word). k.1) ks

-- each is a token of its kind
abbrev ArePrinted : Kinds → Type 0
ArePrinted [] = Unit {0}
ArePrinted (k ∷ ks) = IsPrinted k.0 k.1 × ArePrinted ks

-- each behind a space
abbrev parts_behind : Kinds → List Part
parts_behind [] = []
parts_behind (k ∷ ks) = Separator 32 ∷ Lexeme k.0 (word_text k.1) ∷ parts_behind ks

abbrev parts_of : Kinds → List Part
parts_of [] = []
parts_of (k ∷ ks) = Lexeme k.0 (word_text k.1) ∷ parts_behind ks

bytes_behind : (ks : Kinds) → flat_map bytes_of (parts_behind ks) ≡ spaced_words (words_of ks)
bytes_behind [] = refl
bytes_behind (k ∷ ks) = ap (λ (t : List ℕ). 32 ∷ (word_text k.1 ++ t)) (bytes_behind ks)

bytes_all : (ks : Kinds) → flat_map bytes_of (parts_of ks) ≡ with_spaces (words_of ks)
bytes_all [] = refl
bytes_all (k ∷ ks) = ap (λ (t : List ℕ). word_text k.1 ++ t) (bytes_behind ks)

ends_here : (kind : TokenKind) (text : List ℕ) (ks : Kinds) → EndsBefore kind text (flat_map bytes_of (parts_behind ks) ++ [])
ends_here kind text [] = ends_at_end kind text
ends_here kind text (k ∷ ks) = ends_before_space kind text (flat_map bytes_of (Lexeme k.0 (word_text k.1) ∷ parts_behind ks) ++ [])

parts_hold : (ks : Kinds) → ArePrinted ks → AreParts (parts_behind ks) []
parts_hold [] h = tt
parts_hold (k ∷ ks) h = (refl, ((h.0.token, ends_here k.0 (word_text k.1) ks), parts_hold ks h.1))

all_hold : (ks : Kinds) → ArePrinted ks → AreParts (parts_of ks) []
all_hold [] h = tt
all_hold (k ∷ ks) h = ((h.0.token, ends_here k.0 (word_text k.1) ks), parts_hold ks h.1)

-- no line ends in them
line_behind : (ks : Kinds) → ArePrinted ks → OnOneLine (spaced_words (words_of ks))
line_behind [] h = refl
line_behind (k ∷ ks) h =
    line_cons 32 (word_text k.1 ++ spaced_words (words_of ks)) refl
    (line_both (word_text k.1) (spaced_words (words_of ks)) (token_line k.0 (word_text k.1) h.0.token) (line_behind ks h.1))

line_all : (ks : Kinds) → ArePrinted ks → OnOneLine (with_spaces (words_of ks))
line_all [] h = refl
line_all (k ∷ ks) h = line_both (word_text k.1) (spaced_words (words_of ks)) (token_line k.0 (word_text k.1) h.0.token) (line_behind ks h.1)

on_first_line : (text : List ℕ) (place : ℕ) → OnOneLine text → line_at text place ≡ 1
on_first_line text place one = omega (arith, line_take place text one)

-- a word where it stands
again_on : (kind : TokenKind) (word : Word) (line from to : ℕ) → line ≡ 1 → IsPrinted kind word
    → IsWord (record { kind = kind; text = word_text word; line = line; from = from; to = to }) (first_line word)
again_on kind word line from to one h =
    subst (λ l. IsWord (record { kind = kind; text = word_text word; line = l; from = from; to = to }) (first_line word)) (sym one) (h.again from to)

words_behind : (text : List ℕ) (place : ℕ) (ks : Kinds) → OnOneLine text → ArePrinted ks
    → AreWords (tokens_in text place (parts_behind ks)) (map first_line (words_of ks))
words_behind text place [] one h = tt
words_behind text place (k ∷ ks) one h =
    let end : ℕ = place + 1 + length (word_text k.1) in
    (again_on k.0 k.1 (line_at text (place + 1)) (place + 1) end (on_first_line text (place + 1) one) h.0, words_behind text end ks one h.1)

words_all : (text : List ℕ) (ks : Kinds) → OnOneLine text → ArePrinted ks
    → AreWords (tokens_in text 0 (parts_of ks)) (map first_line (words_of ks))
words_all text [] one h = tt
words_all text (k ∷ ks) one h =
    let end : ℕ = 0 + length (word_text k.1) in
    (again_on k.0 k.1 (line_at text 0) 0 end (on_first_line text 0 one) h.0, words_behind text end ks one h.1)

-- tokens of a text, and the words that they are on line 1
pub record Printed (words : List Word) : Type 0 where
  pub tokens : List Token
  pub are : AreTokensOf (with_spaces words) tokens
  pub spell : AreWords tokens (map first_line words)

kinds_printed : (ks : Kinds) → ArePrinted ks → Printed (words_of ks)
kinds_printed ks h = record {
  tokens = tokens_in (with_spaces (words_of ks)) 0 (parts_of ks);
  are = record { parts = parts_of ks; each = all_hold ks h; whole = bytes_all ks; tokens_are = refl };
  spell = words_all (with_spaces (words_of ks)) ks (line_all ks h) h;
}

-- the words that tokens are, with the kinds of the tokens
record Kinded (words : List Word) : Type 0 where
  pub kinds : Kinds
  pub are : words_of kinds ≡ words
  pub printed : ArePrinted kinds

kinded : (tokens : List Token) (words : List Word) → AllByRecursion (λ t. IsToken t.kind t.text) tokens → AreWords tokens words → Kinded words
kinded [] [] all h = record { kinds = []; are = refl; printed = tt }
kinded [] (w ∷ ws) all h = absurd h
kinded (t ∷ ts) [] all h = absurd h
kinded (t ∷ ts) (w ∷ ws) all h =
    let more = kinded ts ws all.1 h.1 in
    record { kinds = (t.kind, w) ∷ more.kinds; are = ap (λ (l : List Word). w ∷ l) more.are; printed = (word_printed t w all.0 h.0, more.printed) }

each_token : (tokens : List Token) → AreSpelled tokens → AllByRecursion (λ (t : Token). IsToken t.kind t.text) tokens
each_token [] h = tt
each_token (t ∷ ts) h = (h 0 t (omega arith), each_token ts (λ k d l. h (suc k) d (omega (arith, l))))

-- The words that some tokens are, printed, are tokens again: the same words, on line 1.
pub words_printed : (tokens : List Token) (words : List Word) → AreSpelled tokens → AreWords tokens words → Printed words
words_printed tokens words spelled are =
    let k = kinded tokens words (each_token tokens spelled) are in
    subst Printed k.are (kinds_printed k.kinds k.printed)

-- a text tells nothing of lines
text_lined : (w : Word) → word_text (first_line w) ≡ word_text w
text_lined (Fixed text) = refl
text_lined (FixedAt text line) = refl
text_lined (Named text line) = refl
text_lined (Numbered value line) = refl
text_lined (Quoted text line) = refl

spaced_lined : (ws : List Word) → spaced_words (map first_line ws) ≡ spaced_words ws
spaced_lined [] = refl
spaced_lined (w ∷ ws) = ap₂ (λ (s t : List ℕ). 32 ∷ (s ++ t)) (text_lined w) (spaced_lined ws)

pub printed_lined : (ws : List Word) → with_spaces (map first_line ws) ≡ with_spaces ws
printed_lined [] = refl
printed_lined (w ∷ ws) = ap₂ (λ (s t : List ℕ). s ++ t) (text_lined w) (spaced_lined ws)
