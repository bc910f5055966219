-- Tokens that spell a part of a script end where the script's part ends.
use Rattle.std.proofs.Common.{◌≡◌, ℕ, ℤ, zero, suc, ◌+◌, pos, Bool, true, false, cond, Option, Some, None, List, [], ◌∷◌, ◌++◌, map, refl, sym, ap, ◌∙◌, subst, arith}
use Rattle.std.proofs.lemmas.Option.{same_Some}
use Rattle.std.proofs.lemmas.Bool.{false≢true}
use Rattle.std.specs.Prelude.{◌&&◌, codes, option_map, nat_eq}
use Rattle.std.specs.List.{AllByRecursion, list_any}
use Rattle.std.specs.Str.{bytes_eq}
use Rattle.class_defs.specs.Spelling.{stmt_words}
use Rattle.class_defs.specs.Words.{Word, Fixed, FixedAt, Named, Numbered, Quoted, in_turn}
use Rattle.class_defs.specs.declared.statements.Stmt.{Stmt}
use Rattle.class_defs.specs.declared.upgrades.Upgrade.{Upgrade}
use Rattle.method_parse.specs.Matching.{AreWords, IsWord, is_fixed_kind, is_name_by, is_name_kind}
use Rattle.method_parse.proofs.NameTokens.{name_kind}
use Rattle.method_parse.specs.Texts.{SpellsBlock}
use Rattle.method_parse.proofs.Eats.{split}
use Rattle.script_text.specs.Grammar.{IsToken}
use Rattle.script_text.specs.Marks.{mark_by, mark_of, keyword_mark, number_by, text_by, symbol_mark}
use Rattle.script_text.specs.Script.{are_none, closes_by, closes, ends_by, ends, is_open, is_item_word, is_item}
use Rattle.script_text.specs.Words.{keywords, is_keyword, long_symbols, short_symbols}
use Rattle.script_text.specs.declared.mark.Mark.{Mark}
use Rattle.script_text.specs.declared.mark.Mark.TheVariants as marks
use Rattle.script_text.specs.declared.token.Token.{Token}
use Rattle.script_text.specs.declared.token.TokenKind.{TokenKind}
use Rattle.script_text.specs.declared.token.TokenKind.TheVariants as kinds
use Rattle.script_text.proofs.Parts.{each_among}
use Rattle.upgrade_defs.specs.Texts.{SpellsUpgrade}
use Rattle.upgrade_defs.specs.Spelling.{class_upgrade_words}
use Rattle.script_parse.proofs.Balanced.{text_mark, word_mark, turn, onward, walk, Balanced, balanced_stmts, balanced_classes}

-- ---- tokens

-- the token's kind suits its text
abbrev pub Proper : Token → Type 0
Proper token = is_fixed_kind token.kind ≡ true → mark_of token ≡ text_mark token.text

abbrev pub AreProper : List Token → Type 0
AreProper tokens = AllByRecursion Proper tokens

symbol_text : (text : List ℕ) → list_any (λ t. bytes_eq t text) (long_symbols ++ map (λ b. b ∷ []) short_symbols) ≡ true → symbol_mark text ≡ text_mark text
symbol_text text is =
    each_among (λ t. symbol_mark t ≡ text_mark t) (long_symbols ++ map (λ b. b ∷ []) short_symbols) text
    (refl, (refl, (refl, (refl, (refl, (refl, (refl, (refl, (refl, (refl, (refl, (refl, (refl, (refl, tt)))))))))))))) is

keyword_text : (text : List ℕ) → is_keyword text ≡ true → keyword_mark text ≡ text_mark text
keyword_text text is =
    each_among (λ t. keyword_mark t ≡ text_mark t) keywords text
    (refl, (refl, (refl, (refl, (refl, (refl, (refl, (refl, (refl, (refl, (refl, (refl, (refl, (refl, (refl, (refl, (refl, (refl, (refl, (refl, (refl, (refl, tt)))))))))))))))))))))) is

proper_kind : (kind : TokenKind) (text : List ℕ) → IsToken kind text → is_fixed_kind kind ≡ true → mark_by kind text ≡ text_mark text
proper_kind kinds.Name text spelled fixed = absurd (false≢true fixed)
proper_kind kinds.Number text spelled fixed = absurd (false≢true fixed)
proper_kind kinds.Keyword text spelled fixed = keyword_text text spelled.2
proper_kind kinds.Symbol text spelled fixed = symbol_text text spelled
proper_kind kinds.Quoted text spelled fixed = absurd (false≢true fixed)

-- what is scanned is proper
pub spelled_proper : (token : Token) → IsToken token.kind token.text → Proper token
unfolding mark_of
spelled_proper token spelled fixed = proper_kind token.kind token.text spelled fixed

-- a token that is the same word, and proper
abbrev kind_by : Mark → TokenKind
kind_by marks.Open = kinds.Symbol
kind_by marks.Close = kinds.Symbol
kind_by marks.End = kinds.Symbol
kind_by marks.Setup = kinds.Keyword
kind_by marks.Client = kinds.Keyword
kind_by marks.Tx = kinds.Keyword
kind_by marks.Upgrade = kinds.Keyword
kind_by marks.Schedule = kinds.Keyword
kind_by marks.Other = kinds.Keyword

abbrev kind_for : TokenKind → List ℕ → TokenKind
kind_for kinds.Name text = kinds.Name
kind_for kinds.Number text = kinds.Number
kind_for kinds.Keyword text = kind_by (symbol_mark text)
kind_for kinds.Symbol text = kind_by (symbol_mark text)
kind_for kinds.Quoted text = kinds.Quoted

abbrev pub made_proper : Token → Token
made_proper token = record token { kind = kind_for token.kind token.text }

by_tests : (a b c : Bool) (plain : Mark) (symbol : Mark) → symbol ≡ cond a marks.Open (cond b marks.Close (cond c marks.End marks.Other)) → (text : List ℕ) → symbol_mark text ≡ symbol → keyword_mark text ≡ plain
    → mark_by (kind_by symbol) text ≡ cond a marks.Open (cond b marks.Close (cond c marks.End plain))
by_tests true b c plain symbol e text s k = subst (λ m. mark_by (kind_by m) text ≡ marks.Open) (sym e) (s ∙ e)
by_tests false true c plain symbol e text s k = subst (λ m. mark_by (kind_by m) text ≡ marks.Close) (sym e) (s ∙ e)
by_tests false false true plain symbol e text s k = subst (λ m. mark_by (kind_by m) text ≡ marks.End) (sym e) (s ∙ e)
by_tests false false false plain symbol e text s k = subst (λ m. mark_by (kind_by m) text ≡ plain) (sym e) k

made_proper_mark : (text : List ℕ) → mark_by (kind_by (symbol_mark text)) text ≡ text_mark text
made_proper_mark text = by_tests (bytes_eq text (codes "{")) (bytes_eq text (codes "}")) (bytes_eq text (codes ";")) (keyword_mark text) (symbol_mark text) refl text refl refl

made_proper_by : (kind : TokenKind) (text : List ℕ) → is_fixed_kind (kind_for kind text) ≡ true → mark_by (kind_for kind text) text ≡ text_mark text
made_proper_by kinds.Name text fixed = absurd (false≢true fixed)
made_proper_by kinds.Number text fixed = absurd (false≢true fixed)
made_proper_by kinds.Keyword text fixed = made_proper_mark text
made_proper_by kinds.Symbol text fixed = made_proper_mark text
made_proper_by kinds.Quoted text fixed = absurd (false≢true fixed)

pub now_proper : (tokens : List Token) → AreProper (map made_proper tokens)
unfolding mark_of
now_proper [] = tt
now_proper (token ∷ tokens) = (λ fixed. made_proper_by token.kind token.text fixed, now_proper tokens)

fixed_by : (m : Mark) → is_fixed_kind (kind_by m) ≡ true
fixed_by marks.Open = refl
fixed_by marks.Close = refl
fixed_by marks.End = refl
fixed_by marks.Setup = refl
fixed_by marks.Client = refl
fixed_by marks.Tx = refl
fixed_by marks.Upgrade = refl
fixed_by marks.Schedule = refl
fixed_by marks.Other = refl

still_fixed : (kind : TokenKind) (text : List ℕ) → is_fixed_kind kind ≡ true → is_fixed_kind (kind_for kind text) ≡ true
still_fixed kinds.Name text fixed = absurd (false≢true fixed)
still_fixed kinds.Number text fixed = absurd (false≢true fixed)
still_fixed kinds.Keyword text fixed = fixed_by (symbol_mark text)
still_fixed kinds.Symbol text fixed = fixed_by (symbol_mark text)
still_fixed kinds.Quoted text fixed = absurd (false≢true fixed)

still_name : (kind : TokenKind) (text : List ℕ) → is_name_by kind text ≡ true → is_name_by (kind_for kind text) text ≡ true
still_name kinds.Name text is = is
still_name kinds.Number text is = absurd (false≢true is)
still_name kinds.Keyword text is = absurd (false≢true is)
still_name kinds.Symbol text is = absurd (false≢true is)
still_name kinds.Quoted text is = absurd (false≢true is)

still_number : (kind : TokenKind) (text : List ℕ) (o : Option ℤ) (v : ℤ) → o ≡ Some v → option_map pos (number_by kind text) ≡ o → option_map pos (number_by (kind_for kind text) text) ≡ Some v
still_number kinds.Number text o v e is = is ∙ e
still_number kinds.Name text o v e is = is ∙ e
still_number kinds.Keyword text o v e is = absurd cc
still_number kinds.Symbol text o v e is = absurd cc
still_number kinds.Quoted text o v e is = is ∙ e

still_text : (kind : TokenKind) (text word : List ℕ) → text_by kind text ≡ Some word → text_by (kind_for kind text) text ≡ Some word
still_text kinds.Quoted text word is = is
still_text kinds.Number text word is = is
still_text kinds.Name text word is = is
still_text kinds.Keyword text word is = absurd cc
still_text kinds.Symbol text word is = absurd cc

made_proper_word : (token : Token) (word : Word) → IsWord token word → IsWord (made_proper token) word
made_proper_word token (Fixed text) is = (still_fixed token.kind token.text is.0, is.1)
made_proper_word token (FixedAt text line) is = (still_fixed token.kind token.text is.0, is.1, is.2)
made_proper_word token (Named text line) is = (still_name token.kind token.text is.0, is.1, is.2)
made_proper_word token (Numbered value line) is = (still_number token.kind token.text (Some value) value refl is.0, is.1)
made_proper_word token (Quoted text line) is = (still_text token.kind token.text text is.0, is.1)

-- words that go on so go on with proper tokens
pub made_proper_words : (front more : List Token) (words : List Word) → AreWords (front ++ more) words → AreWords (front ++ map made_proper more) words
made_proper_words [] [] words are = are
made_proper_words [] (t ∷ ts) [] are = absurd are
made_proper_words [] (t ∷ ts) (w ∷ ws) are = (made_proper_word t w are.0, made_proper_words [] ts ws are.1)
made_proper_words (f ∷ fs) more [] are = absurd are
made_proper_words (f ∷ fs) more (w ∷ ws) are = (are.0, made_proper_words fs more ws are.1)

pub both_proper : (front more : List Token) → AreProper front → AreProper more → AreProper (front ++ more)
both_proper [] more p q = q
both_proper (t ∷ ts) more p q = (p.0, both_proper ts more p.1 q)

pub front_proper : (front more : List Token) → AreProper (front ++ more) → AreProper front
front_proper [] more p = tt
front_proper (t ∷ ts) more p = (p.0, front_proper ts more p.1)

pub rest_proper : (front more : List Token) → AreProper (front ++ more) → AreProper more
rest_proper [] more p = p
rest_proper (t ∷ ts) more p = rest_proper ts more p.1

-- ---- words

name_mark : (kind : TokenKind) (text : List ℕ) → is_name_kind kind ≡ true → mark_by kind text ≡ marks.Other
name_mark kinds.Name text is = refl
name_mark kinds.Number text is = absurd (false≢true is)
name_mark kinds.Keyword text is = absurd (false≢true is)
name_mark kinds.Symbol text is = absurd (false≢true is)
name_mark kinds.Quoted text is = absurd (false≢true is)

number_mark : (kind : TokenKind) (text : List ℕ) (v : ℤ) → option_map pos (number_by kind text) ≡ Some v → mark_by kind text ≡ marks.Other
number_mark kinds.Name text v is = refl
number_mark kinds.Number text v is = refl
number_mark kinds.Keyword text v is = absurd cc
number_mark kinds.Symbol text v is = absurd cc
number_mark kinds.Quoted text v is = refl

literal_mark : (kind : TokenKind) (text word : List ℕ) → text_by kind text ≡ Some word → mark_by kind text ≡ marks.Other
literal_mark kinds.Name text word is = refl
literal_mark kinds.Number text word is = refl
literal_mark kinds.Quoted text word is = refl
literal_mark kinds.Keyword text word is = absurd cc
literal_mark kinds.Symbol text word is = absurd cc

pub mark_is : (token : Token) (word : Word) → Proper token → IsWord token word → mark_of token ≡ word_mark word
unfolding mark_of
mark_is token (Fixed text) proper is = proper is.0 ∙ ap text_mark is.1
mark_is token (FixedAt text line) proper is = proper is.0 ∙ ap text_mark is.1
mark_is token (Named text line) proper is = name_mark token.kind token.text (name_kind token.kind token.text is.0)
mark_is token (Numbered value line) proper is = number_mark token.kind token.text value is.0
mark_is token (Quoted text line) proper is = literal_mark token.kind token.text text is.0

none_some : (k : ℕ) → None ≡ Some k → ⊥
none_some k e = cc

pub onward_some : (o : Option ℕ) (next : ℕ → Option ℕ) (e : ℕ) → onward o next ≡ Some e → (k : ℕ) × ((o ≡ Some k) × (next k ≡ Some e))
onward_some None next e is = absurd (none_some e is)
onward_some (Some k) next e is = (k, (refl, is))

not_zero : (d : ℕ) → nat_eq (suc d) 0 ≡ false
not_zero d = grind arith

plus_one : (d : ℕ) → d + 1 ≡ suc d
plus_one d = omega arith

closes_turned : (m : Mark) (d k : ℕ) (last : Bool) (behind : ℕ → Bool) → turn m d ≡ Some k → closes_by m d last behind ≡ behind k
closes_turned marks.Open d k last behind e = ap behind (plus_one d ∙ same_Some (suc d) k e)
closes_turned marks.Close zero k last behind e = absurd (none_some k e)
closes_turned marks.Close (suc d) k last behind e = ap behind (same_Some d k e)
closes_turned marks.End d k last behind e = ap behind (same_Some d k e)
closes_turned marks.Other d k last behind e = ap behind (same_Some d k e)
closes_turned marks.Setup d k last behind e = absurd (none_some k e)
closes_turned marks.Client d k last behind e = absurd (none_some k e)
closes_turned marks.Tx d k last behind e = absurd (none_some k e)
closes_turned marks.Upgrade d k last behind e = absurd (none_some k e)
closes_turned marks.Schedule d k last behind e = absurd (none_some k e)

pub ends_turned : (m : Mark) (d k : ℕ) (behind : ℕ → Bool → Bool) → turn m d ≡ Some k → ends_by m (suc d) behind ≡ behind (suc k) false
ends_turned marks.Open d k behind e = ap (λ n. behind n false) (plus_one (suc d)) ∙ ap (λ n. behind (suc n) false) (same_Some (suc d) k e)
ends_turned marks.Close zero k behind e = absurd (none_some k e)
ends_turned marks.Close (suc d) k behind e = ap (behind (suc d)) (not_zero d) ∙ ap (λ n. behind (suc n) false) (same_Some d k e)
ends_turned marks.End d k behind e = ap (behind (suc d)) (not_zero d) ∙ ap (λ n. behind (suc n) false) (same_Some d k e)
ends_turned marks.Other d k behind e = ap (λ n. behind (suc n) false) (same_Some d k e)
ends_turned marks.Setup d k behind e = absurd (none_some k e)
ends_turned marks.Client d k behind e = absurd (none_some k e)
ends_turned marks.Tx d k behind e = absurd (none_some k e)
ends_turned marks.Upgrade d k behind e = absurd (none_some k e)
ends_turned marks.Schedule d k behind e = absurd (none_some k e)

-- behind words that leave so many braces open
closes_walk : (tokens rest : List Token) (words : List Word) (d e : ℕ) → AreWords tokens words → AreProper tokens → walk words d ≡ Some e → closes d (tokens ++ rest) ≡ closes e rest
closes_walk [] rest [] d e are proper is = ap (λ n. closes n rest) (same_Some d e is)
closes_walk [] rest (w ∷ ws) d e are proper is = absurd are
closes_walk (t ∷ ts) rest [] d e are proper is = absurd are
closes_walk (t ∷ ts) rest (w ∷ ws) d e are proper is =
    let next = onward_some (turn (word_mark w) d) (λ k. walk ws k) e is in
    ap (λ m. closes_by m d (are_none (ts ++ rest)) (λ k. closes k (ts ++ rest))) (mark_is t w proper.0 are.0)
    ∙ closes_turned (word_mark w) d next.0 (are_none (ts ++ rest)) (λ k. closes k (ts ++ rest)) next.1.0
    ∙ closes_walk ts rest ws next.0 e are.1 proper.1 next.1.1

pub ends_walk : (tokens rest : List Token) (words : List Word) (d e : ℕ) → AreWords tokens words → AreProper tokens → walk words d ≡ Some e
    → ends (suc d) false (tokens ++ rest) ≡ ends (suc e) false rest
ends_walk [] rest [] d e are proper is = ap (λ n. ends (suc n) false rest) (same_Some d e is)
ends_walk [] rest (w ∷ ws) d e are proper is = absurd are
ends_walk (t ∷ ts) rest [] d e are proper is = absurd are
ends_walk (t ∷ ts) rest (w ∷ ws) d e are proper is =
    let next = onward_some (turn (word_mark w) d) (λ k. walk ws k) e is in
    ap (λ m. ends_by m (suc d) (λ k c. ends k c (ts ++ rest))) (mark_is t w proper.0 are.0)
    ∙ ends_turned (word_mark w) d next.0 (λ k c. ends k c (ts ++ rest)) next.1.0
    ∙ ends_walk ts rest ws next.0 e are.1 proper.1 next.1.1

-- ---- items

-- what stands behind the brace of an item, up to the last one
closes_behind : (tokens : List Token) (words : List Word) → AreWords tokens (words ++ Fixed (codes "}") ∷ []) → AreProper tokens → Balanced words → closes 0 tokens ≡ true
closes_behind tokens words are proper balanced =
    let s = split tokens words (Fixed (codes "}") ∷ []) are in
    let p : AreProper (s.front ++ s.rest) = subst (λ (l : List Token). AreProper l) s.parts proper in
    ap (closes 0) s.parts ∙ closes_walk s.front s.rest words 0 0 s.first (front_proper s.front s.rest p) (balanced 0)
    ∙ last s.rest s.second (rest_proper s.front s.rest p)
  where
    last : (rest : List Token) → AreWords rest (Fixed (codes "}") ∷ []) → AreProper rest → closes 0 rest ≡ true
    last [] a q = absurd a
    last (t ∷ []) a q = ap (λ m. closes_by m 0 true (λ k. closes k [])) (mark_is t (Fixed (codes "}")) q.0 a.0)
    last (t ∷ u ∷ us) a q = absurd a.1

item_from : (tokens behind : List Token) (word : Token) → tokens ≡ word ∷ behind → is_item_word (mark_of word) ≡ true → (words : List Word)
    → AreWords behind (Fixed (codes "{") ∷ (words ++ Fixed (codes "}") ∷ [])) → AreProper behind → Balanced words → is_item tokens ≡ true
item_from tokens [] word parts is words are proper balanced = absurd are
item_from tokens (b ∷ rest) word parts is words are proper balanced =
    let open_is : is_open (mark_of b) ≡ true = ap is_open (mark_is b (Fixed (codes "{")) proper.0 are.0) in
    ap is_item parts ∙ ap (λ (x : Bool). x && (is_open (mark_of b) && closes 0 rest)) is
    ∙ ap (λ (x : Bool). x && closes 0 rest) open_is ∙ closes_behind rest words are.1 proper.1 balanced

pub block_ends : (word : Token) (tokens : List Token) (block : List Stmt) → is_item_word (mark_of word) ≡ true → SpellsBlock tokens block → AreProper tokens → is_item (word ∷ tokens) ≡ true
block_ends word tokens block is spells proper = item_from (word ∷ tokens) tokens word refl is (in_turn (map stmt_words block)) spells.0 proper (balanced_stmts block)

pub upgrade_ends : (tokens : List Token) (upgrade : Upgrade) → SpellsUpgrade tokens upgrade → AreProper tokens → is_item tokens ≡ true
upgrade_ends [] upgrade spells proper = absurd spells.0
upgrade_ends (word ∷ tokens) upgrade spells proper =
    item_from (word ∷ tokens) tokens word refl (ap is_item_word (mark_is word (FixedAt (codes "upgrade") upgrade.line) proper.0 spells.0.0))
    (in_turn (map class_upgrade_words upgrade.classes)) spells.0.1 proper.1 (balanced_classes upgrade.classes)
