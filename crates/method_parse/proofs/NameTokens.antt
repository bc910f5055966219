-- What it means that a token is a name.
use Rattle.std.proofs.Common.{◌≡◌, ℕ, ◌≤◌, Bool, true, false, ◌&&◌, cond, List, [], ◌∷◌, length, leb, Some, None, refl, ap, ◌∙◌, arith}
use Rattle.std.specs.Prelude.{◌||◌, ◌==◌}
use Rattle.std.specs.List.{list_all}
use Rattle.std.proofs.lemmas.Bool.{and_from, and_parts, le-leb, or_left}
use Rattle.class_defs.specs.declared.expressions.Name.{Name}
use Rattle.script_text.specs.declared.token.TokenKind.{TokenKind}
use Rattle.script_text.specs.declared.token.TokenKind.TheVariants as kinds
use Rattle.script_text.specs.Bytes.{is_digit, is_letter, is_word_byte}
use Rattle.script_text.specs.Grammar.{IsToken, is_word}
use Rattle.thor_value.specs.Words.{fits_word, is_text_byte}
use Rattle.method_parse.specs.Matching.{is_name_by, is_name_kind}

first_of : (a b : Bool) → (a && b) ≡ true → a ≡ true
first_of true b e = refl
first_of false b e = e

pub name_kind : (k : TokenKind) (text : List ℕ) → is_name_by k text ≡ true → is_name_kind k ≡ true
name_kind k text e = first_of (is_name_kind k) (fits_word text) e

abbrev held : List ℕ → ℕ → Name
held text line = record { text = text; line = line }

pub no_kind : (k : Bool) (fits : Bool) (n : Name) → k ≡ false → None ≡ cond (k && fits) (Some n) None
no_kind true fits n e = absurd cc
no_kind false fits n e = refl

pub some_word : (k fits : Bool) (text word : List ℕ) (line : ℕ) → k ≡ true → Some word ≡ cond fits (Some text) None → Some (held word line) ≡ cond (k && fits) (Some (held text line)) None
some_word true true text word line k e = let same : word ≡ text = cc in ap (λ (t : List ℕ). Some (held t line)) same
some_word true false text word line k e = absurd cc
some_word false fits text word line k e = absurd cc

pub no_word : (k fits : Bool) (text : List ℕ) (n : Name) → None ≡ cond fits (Some text) None → None ≡ cond (k && fits) (Some n) None
no_word true true text n e = absurd cc
no_word true false text n e = refl
no_word false fits text n e = refl

pub ruleset named = (no_kind, some_word, no_word)

-- ---- what is spelled as a name is one

text_byte : (b : ℕ) → is_word_byte b ≡ true → is_text_byte b ≡ true
text_byte b e = grind arith

text_bytes : (bs : List ℕ) → list_all is_word_byte bs ≡ true → list_all is_text_byte bs ≡ true
text_bytes [] e = refl
text_bytes (b ∷ bs) e =
    let p = and_parts (is_word_byte b) (list_all is_word_byte bs) e in
    and_from (is_text_byte b) (list_all is_text_byte bs) (text_byte b p.0) (text_bytes bs p.1)

word_bytes : (text : List ℕ) → is_word text ≡ true → list_all is_text_byte text ≡ true
word_bytes [] e = absurd cc
word_bytes (b ∷ bs) e =
    let p = and_parts (is_letter b) (list_all is_word_byte bs) e in
    and_from (is_text_byte b) (list_all is_text_byte bs) (text_byte b (or_left (is_letter b || is_digit b) (b == 95) (or_left (is_letter b) (is_digit b) p.0))) (text_bytes bs p.1)

pub spelled_name : (k : TokenKind) (text : List ℕ) → IsToken k text → is_name_kind k ≡ true → is_name_by k text ≡ true
spelled_name kinds.Name text is kind = and_from (leb (length text) 32) (list_all is_text_byte text) (le-leb (length text) 32 is.1) (word_bytes text is.0)
spelled_name kinds.Number text is kind = absurd cc
spelled_name kinds.Keyword text is kind = absurd cc
spelled_name kinds.Symbol text is kind = absurd cc
spelled_name kinds.Quoted text is kind = absurd cc
