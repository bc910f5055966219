-- The rules of the language (this project's): what a broken rule is, its word, which one a check tells, and the rules T on
-- names and on the words of types.
use Rattle.std.specs.Prelude.{ℕ, ◌||◌, ◌&&◌, ◌==◌, nat_lt, not, if◌then◌else◌, find, List, [], ◌∷◌, ◌++◌, Bool, true, false, Option, Some, None, codes, is_some, option_map, slice_get}
use Rattle.std.specs.List.{list_any}
use Rattle.std.specs.Str.{bytes_eq}
use Rattle.class_defs.specs.Objects.{first_of}
use Rattle.class_defs.specs.Types.{Scope, class_named, type_named}
use Rattle.class_defs.specs.declared.classes.Class.{Class}
use Rattle.class_defs.specs.declared.classes.ClassKind.{ClassKind}
use Rattle.class_defs.specs.declared.classes.ClassKind.TheVariants.{Free, Part}
use Rattle.class_defs.specs.declared.expressions.Name.{Name}
use Rattle.class_defs.specs.declared.expressions.TypeName.{TypeName}
use Rattle.class_defs.specs.declared.expressions.TypeName.TheVariants as type_name
use Rattle.class_defs.specs.declared.rules.NamedType.{NamedType}
use Rattle.class_defs.specs.declared.rules.Rule.{Rule}
use Rattle.class_defs.specs.declared.rules.Rule.TheVariants.{T1, T2, T3, T4, T5, T6, T7, T8, T9, O1, O2, O3, O4, O5, O6, O7}
use Rattle.class_defs.specs.declared.rules.RuleFault.{RuleFault}
use Rattle.class_defs.specs.declared.store.RootDeclaration.{RootDeclaration}
use Rattle.class_defs.specs.declared.store.Schema.{Schema}
use Rattle.class_defs.specs.declared.types.ExprType.{ExprType}
use Rattle.class_defs.specs.declared.types.ExprType.TheVariants as type

-- What must hold. Where it doesn't, the rule is broken on the line.
abbrev pub must : Bool → Rule → ℕ → List RuleFault
must true rule line = []
must false rule line = record { line = line; rule = rule } ∷ []

-- ---- the answer of a check

-- a rule's place among the rules
abbrev pub rule_number : Rule → ℕ
rule_number T1 = 1
rule_number T2 = 2
rule_number T3 = 3
rule_number T4 = 4
rule_number T5 = 5
rule_number T6 = 6
rule_number T7 = 7
rule_number T8 = 8
rule_number T9 = 9
rule_number O1 = 10
rule_number O2 = 11
rule_number O3 = 12
rule_number O4 = 13
rule_number O5 = 14
rule_number O6 = 15
rule_number O7 = 16

-- the word that is printed for a rule
abbrev pub rule_word : Rule → List ℕ
rule_word T1 = codes "T1"
rule_word T2 = codes "T2"
rule_word T3 = codes "T3"
rule_word T4 = codes "T4"
rule_word T5 = codes "T5"
rule_word T6 = codes "T6"
rule_word T7 = codes "T7"
rule_word T8 = codes "T8"
rule_word T9 = codes "T9"
rule_word O1 = codes "O1"
rule_word O2 = codes "O2"
rule_word O3 = codes "O3"
rule_word O4 = codes "O4"
rule_word O5 = codes "O5"
rule_word O6 = codes "O6"
rule_word O7 = codes "O7"

-- whether one fault is told rather than another: it has the lesser line, or the lesser rule on the same line
abbrev pub told_before : RuleFault → RuleFault → Bool
told_before f g = nat_lt f.line g.line || (f.line == g.line && nat_lt (rule_number f.rule) (rule_number g.rule))

abbrev pub lesser : Option RuleFault → RuleFault → Option RuleFault
lesser None f = Some f
lesser (Some g) f = if told_before f g then Some f else Some g

-- the least of some faults and of one that was found before
abbrev pub least_with : Option RuleFault → List RuleFault → Option RuleFault
least_with found [] = found
least_with found (f ∷ fs) = least_with (lesser found f) fs

-- what a check answers: the fault with the least line, and of those on that line the one with the least rule
abbrev pub least : List RuleFault → Option RuleFault
least fs = least_with None fs

-- ---- names

-- T1: each of these names stands for the first time, also behind the earlier ones
abbrev pub stand_once : List Name → List Name → List RuleFault
stand_once earlier [] = []
stand_once earlier (n ∷ ns) = must (not (list_any (λ m. bytes_eq m.text n.text) earlier)) T1 n.line ++ stand_once (earlier ++ n ∷ []) ns

-- What is in sight at a place in a body.
pub record Sight : Type 0 where
  -- the classes, and the roots, which items alone can name
  pub schema : Schema
  -- how many repositories there are
  pub repos : ℕ
  -- the class of `this`; none in an item
  pub this : Option ℕ
  -- the type that a `return` gives
  pub result : ExprType
  -- the parameters, and the locals of the blocks around the place that were declared before it
  pub locals : List NamedType

abbrev pub roots_in_sight : Schema → Option ℕ → List RootDeclaration
roots_in_sight schema None = schema.roots
roots_in_sight schema (Some c) = []

-- the local or parameter with this name
abbrev pub local_named : List NamedType → List ℕ → Option NamedType
local_named locals name = find (λ l. bytes_eq l.name name) locals

-- the root with this name
abbrev pub root_named : Sight → List ℕ → Option RootDeclaration
root_named s name = find (λ r. bytes_eq r.name.text name) (roots_in_sight s.schema s.this)

-- a name is that of a local or parameter, or else, in an item, of a root
abbrev pub type_in_sight : Sight → List ℕ → Option ExprType
type_in_sight s name =
    first_of (option_map (λ l. l.kind) (local_named s.locals name)) (option_map (λ r. type_named s.schema.classes (type_name.Class r.class)) (root_named s name))

-- what an expression can name there
abbrev pub scope_of : Sight → Scope
scope_of s = record { classes = s.schema.classes; this = s.this; named = type_in_sight s }

-- ---- types

abbrev pub is_part_kind : Option ClassKind → Bool
is_part_kind (Some Part) = true
is_part_kind (Some Free) = false
is_part_kind None = false

-- whether a type is a part class
abbrev pub is_part : List Class → ExprType → Bool
is_part classes (type.Class c) = is_part_kind (option_map (λ d. d.kind) (slice_get classes c))
is_part classes type.Int = false
is_part classes type.Text = false
is_part classes type.Null = false
is_part classes type.Untold = false

-- T2: the name is that of a class
abbrev pub is_class : List Class → Name → List RuleFault
is_class classes name = must (is_some (class_named classes name.text)) T2 name.line

-- whether a type can be told
abbrev pub is_told : ExprType → Bool
is_told type.Int = true
is_told type.Text = true
is_told type.Null = true
is_told (type.Class c) = true
is_told type.Untold = false

-- T2 of the word of a field's type
abbrev pub is_type : List Class → TypeName → List RuleFault
is_type classes (type_name.Int line) = []
is_type classes (type_name.Class name) = must (is_told (type_named classes (type_name.Class name))) T2 name.line

-- T2 and T5 of the word of a parameter's, a result's or a local's type
abbrev pub is_free_type : List Class → TypeName → List RuleFault
is_free_type classes (type_name.Int line) = []
is_free_type classes (type_name.Class name) =
    is_type classes (type_name.Class name) ++ must (not (is_part classes (type_named classes (type_name.Class name)))) T5 name.line

-- whether a type may be that of a root: it is neither a part class nor that of texts
abbrev pub is_root_type : List Class → ExprType → Bool
is_root_type classes type.Int = true
is_root_type classes type.Text = false
is_root_type classes type.Null = true
is_root_type classes (type.Class c) = not (is_part classes (type.Class c))
is_root_type classes type.Untold = true

-- T2 and T5 of the word that a root is made of
abbrev pub is_root_class : List Class → Name → List RuleFault
is_root_class classes name =
    is_type classes (type_name.Class name) ++ must (is_root_type classes (type_named classes (type_name.Class name))) T5 name.line

-- Whether a value of the second type may stand where the first is declared. Null stands for an object of any
-- class. A type that can't be told breaks nothing.
abbrev pub fits : ExprType → ExprType → Bool
fits type.Int type.Int = true
fits type.Int type.Text = false
fits type.Int type.Null = false
fits type.Int (type.Class d) = false
fits type.Int type.Untold = true
fits type.Text type.Int = false
fits type.Text type.Text = true
fits type.Text type.Null = false
fits type.Text (type.Class d) = false
fits type.Text type.Untold = true
fits (type.Class c) type.Int = false
fits (type.Class c) type.Text = false
fits (type.Class c) type.Null = true
fits (type.Class c) (type.Class d) = c == d
fits (type.Class c) type.Untold = true
fits type.Null given = true
fits type.Untold given = true
