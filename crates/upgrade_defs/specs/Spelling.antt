-- Which words spell which upgrade, from the first to the last. This project's.
use Rattle.std.specs.Prelude.{List, [], ◌∷◌, ◌++◌, map, codes}
use Rattle.class_defs.specs.Spelling.{literal_word, method_words, type_word}
use Rattle.class_defs.specs.Words.{Word, Fixed, FixedAt, in_turn, name_word, symbol_of}
use Rattle.class_defs.specs.declared.expressions.Name.{Name}
use Rattle.class_defs.specs.declared.upgrades.ClassUpgrade.{ClassUpgrade}
use Rattle.class_defs.specs.declared.upgrades.FieldUpgrade.{FieldUpgrade}
use Rattle.class_defs.specs.declared.upgrades.Tf.{Tf}
use Rattle.class_defs.specs.declared.upgrades.Tf.TheFolds.{fold-Tf}
use Rattle.class_defs.specs.declared.upgrades.Tf.TheOpen.{Tf-F}
use Rattle.class_defs.specs.declared.upgrades.Upgrade.{Upgrade}

-- a name of a path, behind a dot
abbrev pub dot_name : Name → List Word
dot_name name = Fixed (codes ".") ∷ name_word name ∷ []

-- the expression of a new field, with the words of its parts in their places
abbrev pub tf_step : Tf-F (List Word) → List Word
tf_step (Tf-F.Null line) = FixedAt (codes "null") line ∷ []
tf_step (Tf-F.Literal value line) = literal_word value line ∷ []
tf_step (Tf-F.Path names line) = FixedAt (codes "old") line ∷ in_turn (map dot_name names)
tf_step (Tf-F.Parens inner line) = FixedAt (codes "(") line ∷ (inner ++ Fixed (codes ")") ∷ [])
tf_step (Tf-F.Negate operand line) = FixedAt (codes "-") line ∷ operand
tf_step (Tf-F.Binary operator left right line) = left ++ FixedAt (symbol_of operator) line ∷ right

-- the words of the expression of a new field
abbrev pub tf_words : Tf → List Word
tf_words = fold-Tf (List Word) tf_step

-- the words of a new field
abbrev pub field_upgrade_words : FieldUpgrade → List Word
field_upgrade_words field =
    type_word field.type_name ∷ name_word field.name ∷ Fixed (codes "=") ∷ (tf_words field.value ++ Fixed (codes ";") ∷ [])

-- the words of a class of an upgrade: its new fields, and then its new methods
abbrev pub class_upgrade_words : ClassUpgrade → List Word
class_upgrade_words class =
    Fixed (codes "class") ∷ name_word class.name ∷ Fixed (codes "{")
    ∷ (in_turn (map field_upgrade_words class.fields) ++ (in_turn (map method_words class.methods) ++ Fixed (codes "}") ∷ []))

-- the words of an upgrade
abbrev pub upgrade_words : Upgrade → List Word
upgrade_words upgrade =
    FixedAt (codes "upgrade") upgrade.line ∷ Fixed (codes "{")
    ∷ (in_turn (map class_upgrade_words upgrade.classes) ++ Fixed (codes "}") ∷ [])
