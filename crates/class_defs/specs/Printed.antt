-- The text of a tree: its words, with one space between two. This project's.
use Rattle.std.specs.Prelude.{ℕ, List, [], ◌∷◌, ◌++◌}
use Rattle.std.specs.List.{flat_map}
use Rattle.std.specs.Fmt.{signed_decimal}
use Rattle.class_defs.specs.declared.statements.Stmt.{Stmt}
use Rattle.class_defs.specs.declared.classes.Class.{Class}
use Rattle.class_defs.specs.Words.{Word, Fixed, FixedAt, Named, Numbered, Quoted}
use Rattle.class_defs.specs.Spelling.{block_words, class_words}

-- how a word is written: a number in decimal, without leading zeros; a text literal between quotation marks
abbrev pub word_text : Word → List ℕ
word_text (Fixed text) = text
word_text (FixedAt text line) = text
word_text (Named text line) = text
word_text (Numbered value line) = signed_decimal value
word_text (Quoted text line) = 34 ∷ (text ++ 34 ∷ [])

-- a word behind others: one space, then the word
abbrev pub spaced_word : Word → List ℕ
spaced_word word = 32 ∷ word_text word

-- words behind others, each behind one space
abbrev pub spaced_words : List Word → List ℕ
spaced_words words = flat_map spaced_word words

-- words with one space between two
abbrev pub with_spaces : List Word → List ℕ
with_spaces [] = []
with_spaces (word ∷ words) = word_text word ++ spaced_words words

-- the text of a block
abbrev pub printed_block : List Stmt → List ℕ
printed_block block = with_spaces (block_words block)

-- the text of a class
abbrev pub printed_class : Class → List ℕ
printed_class class = with_spaces (class_words class)
