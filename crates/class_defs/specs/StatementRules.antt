-- The rules that a statement and a block break (this project's).
use Rattle.std.specs.Prelude.{ℕ, ◌||◌, not, List, [], ◌∷◌, ◌++◌, map, Bool, true, false, Option, Some, None, is_some, option_and_then}
use Rattle.std.specs.List.{flat_map}
use Rattle.class_defs.specs.ExpressionRules.{judged, line_of, is_number, is_printable}
use Rattle.class_defs.specs.Rules.{Sight, must, scope_of, local_named, root_named, is_part, is_free_type, fits}
use Rattle.class_defs.specs.Types.{class_named, class_or_untold, field_of, field_type, type_named}
use Rattle.class_defs.specs.declared.classes.Class.{Class}
use Rattle.class_defs.specs.declared.expressions.Expr.{Expr, out-Expr}
use Rattle.class_defs.specs.declared.expressions.Expr.TheOpen.{Expr-F}
use Rattle.class_defs.specs.declared.expressions.Name.{Name}
use Rattle.class_defs.specs.declared.expressions.TypeName.{TypeName}
use Rattle.class_defs.specs.declared.rules.NamedType.{NamedType}
use Rattle.class_defs.specs.declared.rules.Position.{Position}
use Rattle.class_defs.specs.declared.rules.Position.TheVariants.{IntoOwnedField, Value}
use Rattle.class_defs.specs.declared.rules.Rule.TheVariants.{T2, T3, T6}
use Rattle.class_defs.specs.declared.rules.RuleFault.{RuleFault}
use Rattle.class_defs.specs.declared.statements.Stmt.{Stmt, fold-Stmt}
use Rattle.class_defs.specs.declared.statements.Stmt.TheOpen.{Stmt-F}
use Rattle.class_defs.specs.declared.store.RootDeclaration.{RootDeclaration}
use Rattle.class_defs.specs.declared.types.ExprType.{ExprType}

-- ---- the names that a body declares

abbrev pub names_at : Stmt-F (List Name) → List Name
names_at (Stmt-F.Var type_name name line e) = name ∷ []
names_at (Stmt-F.Assign name line e) = []
names_at (Stmt-F.FieldAssign field line e) = []
names_at (Stmt-F.Return e) = []
names_at (Stmt-F.If condition then_block) = flat_map (λ ns. ns) then_block
names_at (Stmt-F.IfElse condition then_block otherwise) = flat_map (λ ns. ns) then_block ++ flat_map (λ ns. ns) otherwise
names_at (Stmt-F.While condition body) = flat_map (λ ns. ns) body
names_at (Stmt-F.Print e) = []
names_at (Stmt-F.Evaluate e) = []

-- the locals that a statement declares, those of the blocks inside included
unfoldable pub names_declared : Stmt → List Name
names_declared = fold-Stmt (List Name) names_at

-- the locals that a body declares, in the order of the text
abbrev pub names_in : List Stmt → List Name
names_in block = flat_map names_declared block

-- ---- statements

-- T3 of an expression with a type of its own: the word that is told is the expression's own token
abbrev pub must_fit : Sight → ExprType → Expr → List RuleFault
must_fit s kind e = (judged s e).broken Value ++ must (fits kind (judged s e).kind) T3 (line_of e)

abbrev pub must_be_number : Sight → Expr → List RuleFault
must_be_number s e = (judged s e).broken Value ++ must (is_number (judged s e).kind) T3 (line_of e)

-- T3 of what is printed: a number or a text
abbrev pub must_be_printable : Sight → Expr → List RuleFault
must_be_printable s e = (judged s e).broken Value ++ must (is_printable (judged s e).kind) T3 (line_of e)

-- T2 and T3 of an assignment by name: it is a local's or parameter's, whose type the value fits, and no root's
abbrev pub assigned_fits : Option NamedType → Option RootDeclaration → Name → ExprType → ℕ → List RuleFault
assigned_fits (Some l) root name given line = must (fits l.kind given) T3 line
assigned_fits None (Some r) name given line = must false T3 name.line
assigned_fits None None name given line = must false T2 name.line

abbrev pub assign_rules : Sight → Name → ℕ → Expr → List RuleFault
assign_rules s name line e =
    (judged s e).broken Value
    ++ assigned_fits (local_named s.locals name.text) (root_named s name.text) name (judged s e).kind line

-- whether an owned field may be given this: `null`, or `new` of its class
abbrev pub gives_part : List Class → ExprType → Expr-F Expr → Bool
gives_part classes kind (Expr-F.Null line) = true
gives_part classes kind (Expr-F.New class at) = fits kind (class_or_untold (class_named classes class.text))
gives_part classes kind (Expr-F.Literal value line) = false
gives_part classes kind (Expr-F.This line) = false
gives_part classes kind (Expr-F.Field name) = false
gives_part classes kind (Expr-F.Variable name) = false
gives_part classes kind (Expr-F.Parens inner line) = false
gives_part classes kind (Expr-F.Negate operand line) = false
gives_part classes kind (Expr-F.Binary operator left right line) = false
gives_part classes kind (Expr-F.Call receiver method arguments) = false

-- the right side of an assignment to a field
abbrev pub place_for : Bool → Position
place_for true = IntoOwnedField
place_for false = Value

-- T2, T3 and T6 of an assignment to a field
abbrev pub field_assign_rules : Sight → Name → ℕ → Expr → List RuleFault
field_assign_rules s field line e =
    let kind = field_type (scope_of s) field.text in
    let owned = is_part s.schema.classes kind in
    must (is_some (option_and_then (λ c. field_of s.schema.classes c field.text) s.this)) T2 field.line
    ++ must (not owned || gives_part s.schema.classes kind (out-Expr e)) T6 field.line
    ++ (judged s e).broken (place_for owned)
    ++ must (fits kind (judged s e).kind) T3 line

-- T2, T3 and T5 of a local
abbrev pub var_rules : Sight → TypeName → ℕ → Expr → List RuleFault
var_rules s type_name line e =
    is_free_type s.schema.classes type_name
    ++ (judged s e).broken Value
    ++ must (fits (type_named s.schema.classes type_name) (judged s e).kind) T3 line

-- What a check says of a statement.
pub record Ruled : Type 0 where
  -- the rules that it breaks in sight of names and classes
  pub broken : Sight → List RuleFault
  -- the local that is in sight behind it
  pub declares : List Class → List NamedType

abbrev pub with_locals : Sight → List NamedType → Sight
with_locals s more = record s { locals = s.locals ++ more }

-- Statements one after the other: each has those locals in sight that the ones before it declared. Behind a
-- block its locals are in sight no more.
abbrev pub in_turn : List Ruled → Sight → List RuleFault
in_turn [] s = []
in_turn (r ∷ rs) s = r.broken s ++ in_turn rs (with_locals s (r.declares s.schema.classes))

abbrev pub broken_at : Stmt-F Ruled → Sight → List RuleFault
broken_at (Stmt-F.Var type_name name line e) s = var_rules s type_name line e
broken_at (Stmt-F.Assign name line e) s = assign_rules s name line e
broken_at (Stmt-F.FieldAssign field line e) s = field_assign_rules s field line e
broken_at (Stmt-F.Return e) s = must_fit s s.result e
broken_at (Stmt-F.If condition then_block) s = must_be_number s condition ++ in_turn then_block s
broken_at (Stmt-F.IfElse condition then_block otherwise) s = must_be_number s condition ++ in_turn then_block s ++ in_turn otherwise s
broken_at (Stmt-F.While condition body) s = must_be_number s condition ++ in_turn body s
broken_at (Stmt-F.Print e) s = must_be_printable s e
broken_at (Stmt-F.Evaluate e) s = (judged s e).broken Value

abbrev pub declares_at : {A : Type 0} → Stmt-F A → List Class → List NamedType
declares_at (Stmt-F.Var type_name name line e) classes = record { name = name.text; kind = type_named classes type_name } ∷ []
declares_at (Stmt-F.Assign name line e) classes = []
declares_at (Stmt-F.FieldAssign field line e) classes = []
declares_at (Stmt-F.Return e) classes = []
declares_at (Stmt-F.If condition then_block) classes = []
declares_at (Stmt-F.IfElse condition then_block otherwise) classes = []
declares_at (Stmt-F.While condition body) classes = []
declares_at (Stmt-F.Print e) classes = []
declares_at (Stmt-F.Evaluate e) classes = []

abbrev pub rule_step : Stmt-F Ruled → Ruled
rule_step x = record { broken = broken_at x; declares = declares_at x }

-- what a check says of a statement
unfoldable pub ruled : Stmt → Ruled
ruled = fold-Stmt Ruled rule_step

-- the rules that a block breaks
abbrev pub block_rules : Sight → List Stmt → List RuleFault
block_rules s block = in_turn (map ruled block) s
