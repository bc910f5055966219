-- How an upgrade is read: its classes, with their new fields and methods.
use Rattle.std.specs.Prelude.{ℕ, Bool, List, [], ◌∷◌, ◌++◌, Result, codes}
use Rattle.class_defs.specs.declared.upgrades.ClassUpgrade.{ClassUpgrade}
use Rattle.class_defs.specs.declared.upgrades.FieldUpgrade.{FieldUpgrade}
use Rattle.class_defs.specs.declared.upgrades.Upgrade.{Upgrade}
use Rattle.script_text.specs.declared.token.Token.{Token}
use Rattle.method_parse.specs.Matching.{is}
use Rattle.method_parse.specs.Reader.{Reader, ◌>>=◌, give, name, repeat, repeat_all, type_word, word}
use Rattle.method_parse.specs.Setups.{begins_type, methods, whole}
use Rattle.upgrade_defs.specs.Expressions.{value}

unfoldable pub field : Reader FieldUpgrade
field = do
  type ← type_word
  called ← name
  equals ← word (codes "=")
  given ← value
  end ← word (codes ";")
  give (record { type_name = type; name = called; value = given })

unfoldable pub more_fields : List FieldUpgrade → Reader (List FieldUpgrade)
more_fields fields = do
  one ← field
  give (fields ++ one ∷ [])

unfoldable pub fields : Reader (List FieldUpgrade)
fields = repeat 32 (λ fields. begins_type) more_fields []

unfoldable pub class : Reader ClassUpgrade
class = do
  line ← word (codes "class")
  called ← name
  open_line ← word (codes "{")
  has ← fields
  does ← methods
  close_line ← word (codes "}")
  give (record { name = called; fields = has; methods = does })

unfoldable pub more_classes : List ClassUpgrade → Reader (List ClassUpgrade)
more_classes classes = do
  one ← class
  give (classes ++ one ∷ [])

abbrev pub is_class : List ClassUpgrade → Token → Bool
is_class classes = is (codes "class")

-- the classes behind the first
unfoldable pub all_classes : List ClassUpgrade → Reader (List ClassUpgrade)
all_classes first = repeat_all is_class more_classes first

unfoldable pub upgrade : Reader Upgrade
upgrade = do
  line ← word (codes "upgrade")
  open_line ← word (codes "{")
  first ← more_classes []
  all ← all_classes first
  close_line ← word (codes "}")
  give (record { line = line; classes = all })

-- all tokens as one upgrade
unfoldable pub upgrade_of : List Token → Result Upgrade ℕ
upgrade_of tokens = whole (upgrade tokens)
