-- The words of which the language's texts are made. This project's.
use Rattle.std.specs.Prelude.{ℕ, ℤ, List, [], ◌∷◌, ◌++◌, codes}
use Rattle.class_defs.specs.declared.expressions.Name.{Name}
use Rattle.class_defs.specs.declared.expressions.Operator.{Operator}
use Rattle.class_defs.specs.declared.expressions.Operator.TheVariants.{Add, Subtract, Multiply, Equal, Unequal, Less}

-- What stands at a place of a text: a keyword or symbol, on any line or on the line that the tree
-- keeps; a name; a number, by its value; or a text literal, by the bytes between its quotation marks.
pub data Word : Type 0 where
  Fixed : List ℕ → Word
  FixedAt : List ℕ → ℕ → Word
  Named : List ℕ → ℕ → Word
  Numbered : ℤ → ℕ → Word
  Quoted : List ℕ → ℕ → Word

-- a name of the tree
abbrev pub name_word : Name → Word
name_word name = Named name.text name.line

-- the symbol of an operator
abbrev pub symbol_of : Operator → List ℕ
symbol_of Add = codes "+"
symbol_of Subtract = codes "-"
symbol_of Multiply = codes "*"
symbol_of Equal = codes "=="
symbol_of Unequal = codes "!="
symbol_of Less = codes "<"

-- each of several lists of words behind a comma
abbrev pub behind_commas : List (List Word) → List Word
behind_commas [] = []
behind_commas (words ∷ more) = Fixed (codes ",") ∷ (words ++ behind_commas more)

-- several lists of words with a comma between two
abbrev pub with_commas : List (List Word) → List Word
with_commas [] = []
with_commas (words ∷ more) = words ++ behind_commas more

-- several lists of words, one behind the other
abbrev pub in_turn : List (List Word) → List Word
in_turn [] = []
in_turn (words ∷ more) = words ++ in_turn more
