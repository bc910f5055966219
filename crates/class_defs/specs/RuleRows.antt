-- A small schema, and how the worked rows of the rules write pieces of text. This project's.
use Rattle.std.specs.Prelude.{ℕ, List, [], ◌∷◌, Option, Some, None, pos, codes}
use Rattle.class_defs.specs.Rules.{least}
use Rattle.class_defs.specs.SchemaRules.{item_rules}
use Rattle.class_defs.specs.StatementRules.{block_rules}
use Rattle.class_defs.specs.declared.classes.Class.{Class}
use Rattle.class_defs.specs.declared.classes.ClassKind.TheVariants.{Free, Part}
use Rattle.class_defs.specs.declared.classes.Field.{Field}
use Rattle.class_defs.specs.declared.classes.Method.{Method}
use Rattle.class_defs.specs.declared.classes.Parameter.{Parameter}
use Rattle.class_defs.specs.declared.expressions.Expr.{Expr}
use Rattle.class_defs.specs.declared.expressions.Expr.TheVariants as expr
use Rattle.class_defs.specs.declared.expressions.Name.{Name}
use Rattle.class_defs.specs.declared.expressions.TypeName.{TypeName}
use Rattle.class_defs.specs.declared.expressions.TypeName.TheVariants as type_name
use Rattle.class_defs.specs.declared.literals.Literal.TheVariants as literal
use Rattle.class_defs.specs.declared.rules.Rule.{Rule}
use Rattle.class_defs.specs.declared.rules.RuleFault.{RuleFault}
use Rattle.class_defs.specs.declared.statements.Stmt.{Stmt}
use Rattle.class_defs.specs.declared.statements.Stmt.TheVariants as stmt
use Rattle.class_defs.specs.declared.store.RootDeclaration.{RootDeclaration}
use Rattle.class_defs.specs.declared.store.Schema.{Schema}
use Rattle.class_defs.specs.declared.types.ExprType.TheVariants as type

-- a name on a line
abbrev pub named : List ℕ → ℕ → Name
named text line = record { text = text; line = line }

abbrev pub int : TypeName
int = type_name.Int 1

abbrev pub class_type : List ℕ → ℕ → TypeName
class_type text line = type_name.Class (named text line)

abbrev pub number : ℕ → ℕ → Expr
number n line = expr.Literal (literal.Int (pos n)) line

abbrev pub field : TypeName → List ℕ → ℕ → Field
field t text line = record { type_name = t; name = named text line }

abbrev pub parameter : TypeName → List ℕ → ℕ → Parameter
parameter t text line = record { type_name = t; name = named text line }

abbrev pub method : List ℕ → List Parameter → List Stmt → Method
method text parameters body = record { result = int; name = named text 1; parameters = parameters; body = body }

-- free class Box { int n; Part p; method int get() { return this.n; } method int add(int k) { return k; } }
abbrev pub box : Class
box = record {
  kind = Free;
  name = named (codes "Box") 1;
  fields = field int (codes "n") 1 ∷ field (class_type (codes "Part") 1) (codes "p") 1 ∷ [];
  methods = method (codes "get") [] (stmt.Return (expr.Field (named (codes "n") 1)) ∷ [])
      ∷ method (codes "add") (parameter int (codes "k") 1 ∷ []) (stmt.Return (expr.Variable (named (codes "k") 1)) ∷ []) ∷ [];
}

-- part class Part { int m; method int get() { return this.m; } }
abbrev pub part : Class
part = record {
  kind = Part;
  name = named (codes "Part") 1;
  fields = field int (codes "m") 1 ∷ [];
  methods = method (codes "get") [] (stmt.Return (expr.Field (named (codes "m") 1)) ∷ []) ∷ [];
}

-- root a = new Box();
abbrev pub root : RootDeclaration
root = record { name = named (codes "a") 1; class = named (codes "Box") 1; at = None; oref = record { repo = 0; page = 0; slot = 0 } }

abbrev pub sample : Schema
sample = record { classes = box ∷ part ∷ []; upgraded = 0 ∷ 0 ∷ []; roots = root ∷ [] }

abbrev pub broken : ℕ → Rule → Option RuleFault
broken line rule = Some (record { line = line; rule = rule })

-- what is told of an item over two repositories
abbrev pub told_of_item : List Stmt → Option RuleFault
told_of_item block = least (item_rules sample 2 block)

-- what is told of the body of an int method without parameters of class c
abbrev pub told_of_body : ℕ → List Stmt → Option RuleFault
told_of_body c block = least (block_rules (record { schema = sample; repos = 2; this = Some c; result = type.Int; locals = [] }) block)
