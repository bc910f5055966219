-- The rules O1 to O6 of upgrades, which keep parts with their owners (ownership types as in Boyapati and others, OOPSLA
-- 2003; these rules are this project's). An upgrade is checked on the classes that it finds.
use Rattle.std.specs.Prelude.{ℕ, ◌&&◌, ◌==◌, nat_le, not, List, [], ◌∷◌, ◌++◌, map, length, Bool, true, false, Option, Some, None, is_some, option_and_then, if◌then◌else◌}
use Rattle.std.specs.List.{flat_map, list_any}
use Rattle.std.specs.Str.{bytes_eq}
use Rattle.class_defs.specs.Ownership.{type_at}
use Rattle.class_defs.specs.Rules.{is_part, must}
use Rattle.class_defs.specs.Types.{class_named, field_named, type_named}
use Rattle.class_defs.specs.declared.classes.Class.{Class}
use Rattle.class_defs.specs.declared.expressions.Name.{Name}
use Rattle.class_defs.specs.declared.literals.Literal.{Literal}
use Rattle.class_defs.specs.declared.literals.Literal.TheVariants as literal
use Rattle.class_defs.specs.declared.rules.Rule.{Rule}
use Rattle.class_defs.specs.declared.rules.Rule.TheVariants.{O1, O2, O3, O4, O5, O6}
use Rattle.class_defs.specs.declared.rules.RuleFault.{RuleFault}
use Rattle.class_defs.specs.declared.types.ExprType.{ExprType}
use Rattle.class_defs.specs.declared.types.ExprType.TheVariants as type
use Rattle.class_defs.specs.declared.upgrades.ClassUpgrade.{ClassUpgrade}
use Rattle.class_defs.specs.declared.upgrades.FieldUpgrade.{FieldUpgrade}
use Rattle.class_defs.specs.declared.upgrades.Tf.{Tf, fold-Tf, out-Tf}
use Rattle.class_defs.specs.declared.upgrades.Tf.TheOpen.{Tf-F}
use Rattle.class_defs.specs.declared.upgrades.Upgrade.{Upgrade}

-- ---- the line that is told

abbrev pub first_line_step : Tf-F ℕ → ℕ
first_line_step (Tf-F.Null line) = line
first_line_step (Tf-F.Literal value line) = line
first_line_step (Tf-F.Path names line) = line
first_line_step (Tf-F.Parens inner line) = line
first_line_step (Tf-F.Negate operand line) = line
first_line_step (Tf-F.Binary operator left right line) = left

-- the line of an expression's first token
unfoldable pub first_line : Tf → ℕ
first_line = fold-Tf ℕ first_line_step

-- ---- paths

-- the type of the field with this name of an object; there is none behind an int, a text or null
abbrev pub field_behind : List Class → Option ExprType → List ℕ → Option ExprType
field_behind classes (Some (type.Class c)) name = option_and_then (type_at classes c) (field_named classes c name)
field_behind classes (Some type.Int) name = None
field_behind classes (Some type.Text) name = None
field_behind classes (Some type.Null) name = None
field_behind classes (Some type.Untold) name = None
field_behind classes None name = None

-- the type of what a path leads to, as if every reference could be followed; none where a field lacks on the way
abbrev pub path_type : List Class → Option ExprType → List Name → Option ExprType
path_type classes t [] = t
path_type classes t (name ∷ names) = path_type classes (field_behind classes t name.text) names

abbrev pub is_int : Option ExprType → Bool
is_int (Some type.Int) = true
is_int (Some type.Text) = false
is_int (Some type.Null) = false
is_int (Some (type.Class c)) = false
is_int (Some type.Untold) = false
is_int None = false

-- the greatest number of names in a path behind `old`
abbrev pub max_names : ℕ
max_names = 8

-- a path of not too many names from an object of class c that ends in an int
abbrev pub is_int_path : List Class → ℕ → List Name → Bool
is_int_path classes c names = nat_le (length names) max_names && is_int (path_type classes (Some (type.Class c)) names)

-- whether a path may go on behind a name: that of an owned field. A name of no field breaks another rule.
abbrev pub may_go_on : List Class → Option ExprType → Bool
may_go_on classes None = true
may_go_on classes (Some t) = is_part classes t

-- whether each name of a path but the last, where it is that of a field, is that of an owned one
abbrev pub goes_through_parts : List Class → Option ExprType → List Name → Bool
goes_through_parts classes t [] = true
goes_through_parts classes t (name ∷ []) = true
goes_through_parts classes t (name ∷ next ∷ names) =
    may_go_on classes (field_behind classes t name.text) && goes_through_parts classes (field_behind classes t name.text) (next ∷ names)

-- ---- expressions

-- whether a literal is a number, and no text
abbrev pub is_int_literal : Literal → Bool
is_int_literal (literal.Int n) = true
is_int_literal (literal.Text w) = false

abbrev pub int_step : List Class → ℕ → Tf-F Bool → Bool
int_step classes c (Tf-F.Null line) = false
int_step classes c (Tf-F.Literal value line) = is_int_literal value
int_step classes c (Tf-F.Path names line) = is_int_path classes c names
int_step classes c (Tf-F.Parens inner line) = inner
int_step classes c (Tf-F.Negate operand line) = operand
int_step classes c (Tf-F.Binary operator left right line) = left && right

-- whether an expression at an object of class c is made of numbers and of paths that end in an int
unfoldable pub gives_int : List Class → ℕ → Tf → Bool
gives_int classes c = fold-Tf Bool (int_step classes c)

abbrev pub part_step : List Class → ℕ → Tf-F Bool → Bool
part_step classes c (Tf-F.Null line) = true
part_step classes c (Tf-F.Literal value line) = true
part_step classes c (Tf-F.Path names line) = goes_through_parts classes (Some (type.Class c)) names
part_step classes c (Tf-F.Parens inner line) = inner
part_step classes c (Tf-F.Negate operand line) = operand
part_step classes c (Tf-F.Binary operator left right line) = left && right

-- whether all paths of an expression go through owned fields
unfoldable pub reads_parts : List Class → ℕ → Tf → Bool
reads_parts classes c = fold-Tf Bool (part_step classes c)

abbrev pub is_of_class : ℕ → Option ExprType → Bool
is_of_class d (Some (type.Class e)) = d == e
is_of_class d (Some type.Int) = false
is_of_class d (Some type.Text) = false
is_of_class d (Some type.Null) = false
is_of_class d (Some type.Untold) = false
is_of_class d None = false

-- whether a path from an object of class c is one name, of a field of class d
abbrev pub is_field_of : List Class → ℕ → ℕ → List Name → Bool
is_field_of classes c d [] = false
is_field_of classes c d (name ∷ []) = is_of_class d (field_behind classes (Some (type.Class c)) name.text)
is_field_of classes c d (name ∷ next ∷ names) = false

-- whether an expression at an object of class c is `null`, or `old.f` with a field of class d
abbrev pub gives_reference : List Class → ℕ → ℕ → Tf-F Tf → Bool
gives_reference classes c d (Tf-F.Null line) = true
gives_reference classes c d (Tf-F.Literal value line) = false
gives_reference classes c d (Tf-F.Path names line) = is_field_of classes c d names
gives_reference classes c d (Tf-F.Parens inner line) = false
gives_reference classes c d (Tf-F.Negate operand line) = false
gives_reference classes c d (Tf-F.Binary operator left right line) = false

abbrev pub is_text : Option ExprType → Bool
is_text (Some type.Text) = true
is_text (Some type.Int) = false
is_text (Some type.Null) = false
is_text (Some (type.Class c)) = false
is_text (Some type.Untold) = false
is_text None = false

-- whether a path from an object of class c is one name, of a text field
abbrev pub is_text_field : List Class → ℕ → List Name → Bool
is_text_field classes c [] = false
is_text_field classes c (name ∷ []) = is_text (field_behind classes (Some (type.Class c)) name.text)
is_text_field classes c (name ∷ next ∷ names) = false

-- whether an expression at an object of class c is a text literal, or `old.f` with a text field
abbrev pub gives_text : List Class → ℕ → Tf-F Tf → Bool
gives_text classes c (Tf-F.Literal value line) = not (is_int_literal value)
gives_text classes c (Tf-F.Path names line) = is_text_field classes c names
gives_text classes c (Tf-F.Null line) = false
gives_text classes c (Tf-F.Parens inner line) = false
gives_text classes c (Tf-F.Negate operand line) = false
gives_text classes c (Tf-F.Binary operator left right line) = false

-- ---- new fields

-- the rule on references to objects of a part class, or of a free one
abbrev pub reference_rule : Bool → Rule
reference_rule true = O6
reference_rule false = O3

-- O2, O3 and O6: the expression of a new field fits its type. A type that isn't declared says nothing of it.
abbrev pub value_rules : List Class → ℕ → ExprType → Tf → List RuleFault
value_rules classes c type.Int e = must (gives_int classes c e) O2 (first_line e)
value_rules classes c type.Text e = must (gives_text classes c (out-Tf e)) O2 (first_line e)
value_rules classes c (type.Class d) e = must (gives_reference classes c d (out-Tf e)) (reference_rule (is_part classes (type.Class d))) (first_line e)
value_rules classes c type.Null e = []
value_rules classes c type.Untold e = []

-- The rules that the expression of a new field breaks by itself: O2, O3, O6, and O4.
abbrev pub field_rules : List Class → ℕ → FieldUpgrade → List RuleFault
field_rules classes c f =
    value_rules classes c (type_named classes f.type_name) f.value
    ++ must (reads_parts classes c f.value) O4 (first_line f.value)

-- the place of the field that a path of one name is
abbrev pub field_at_path : List Class → ℕ → List Name → Option ℕ
field_at_path classes c [] = None
field_at_path classes c (name ∷ []) = field_named classes c name.text
field_at_path classes c (name ∷ next ∷ names) = None

abbrev pub field_read : List Class → ℕ → Tf-F Tf → Option ℕ
field_read classes c (Tf-F.Path names line) = field_at_path classes c names
field_read classes c (Tf-F.Null line) = None
field_read classes c (Tf-F.Literal value line) = None
field_read classes c (Tf-F.Parens inner line) = None
field_read classes c (Tf-F.Negate operand line) = None
field_read classes c (Tf-F.Binary operator left right line) = None

abbrev pub handed_as : List Class → ℕ → ExprType → Tf-F Tf → Option ℕ
handed_as classes c type.Int e = None
handed_as classes c type.Text e = None
handed_as classes c type.Null e = None
handed_as classes c type.Untold e = None
handed_as classes c (type.Class d) e = if is_part classes (type.Class d) && gives_reference classes c d e then field_read classes c e else None

-- the owned field that a new field takes over from the old object, if it takes over one: `old.f` of its own part class
abbrev pub hands_over : List Class → ℕ → FieldUpgrade → Option ℕ
hands_over classes c f = handed_as classes c (type_named classes f.type_name) (out-Tf f.value)

abbrev pub is_new : List ℕ → Option ℕ → Bool
is_new earlier None = true
is_new earlier (Some i) = not (list_any (λ j. j == i) earlier)

abbrev pub as_list : Option ℕ → List ℕ
as_list None = []
as_list (Some i) = i ∷ []

-- O5: what a new field takes over isn't taken over by an earlier one, nor are these
abbrev pub handed_once : List Class → ℕ → List ℕ → List FieldUpgrade → List RuleFault
handed_once classes c earlier [] = []
handed_once classes c earlier (f ∷ fs) =
    must (is_new earlier (hands_over classes c f)) O5 (first_line f.value)
    ++ handed_once classes c (earlier ++ as_list (hands_over classes c f)) fs

-- ---- upgrades

-- O1: each of these is the name of a class, for the first time
abbrev pub named_once : List Class → List Name → List Name → List RuleFault
named_once classes earlier [] = []
named_once classes earlier (n ∷ ns) =
    must (is_some (class_named classes n.text) && not (list_any (λ m. bytes_eq m.text n.text) earlier)) O1 n.line
    ++ named_once classes (earlier ++ n ∷ []) ns

-- What an upgrade says of a class that isn't there breaks O1 alone, on a line that is told before all others.
abbrev pub fields_rules : List Class → Option ℕ → List FieldUpgrade → List RuleFault
fields_rules classes None fs = []
fields_rules classes (Some c) fs = flat_map (field_rules classes c) fs ++ handed_once classes c [] fs

-- the rules that the new fields of one class break
abbrev pub class_upgrade_rules : List Class → ClassUpgrade → List RuleFault
class_upgrade_rules classes k = fields_rules classes (class_named classes k.name.text) k.fields

-- The rules O1 to O6 that an upgrade breaks on the classes that it finds.
unfoldable pub upgrade_rules : List Class → Upgrade → List RuleFault
upgrade_rules classes u = named_once classes [] (map (λ k. k.name) u.classes) ++ flat_map (class_upgrade_rules classes) u.classes
