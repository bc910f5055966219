-- A tree as if all its text stood on line 1: what is left of it, lines aside. This project's.
use Rattle.std.specs.Prelude.{List, map, Option, Some, None}
use Rattle.class_defs.specs.declared.expressions.Name.{Name}
use Rattle.class_defs.specs.declared.expressions.TypeName.{TypeName}
use Rattle.class_defs.specs.declared.expressions.TypeName.TheVariants as type_name
use Rattle.class_defs.specs.declared.expressions.At.{At}
use Rattle.class_defs.specs.declared.expressions.Expr.{Expr}
use Rattle.class_defs.specs.declared.expressions.Expr.TheVariants as e
use Rattle.class_defs.specs.declared.expressions.Expr.TheOpen.{Expr-F}
use Rattle.class_defs.specs.declared.expressions.Expr.TheFolds.{fold-Expr}
use Rattle.class_defs.specs.declared.statements.Stmt.{Stmt}
use Rattle.class_defs.specs.declared.statements.Stmt.TheVariants as s
use Rattle.class_defs.specs.declared.statements.Stmt.TheOpen.{Stmt-F}
use Rattle.class_defs.specs.declared.statements.Stmt.TheFolds.{fold-Stmt}
use Rattle.class_defs.specs.declared.classes.Field.{Field}
use Rattle.class_defs.specs.declared.classes.Parameter.{Parameter}
use Rattle.class_defs.specs.declared.classes.Method.{Method}
use Rattle.class_defs.specs.declared.classes.Class.{Class}

abbrev pub name_on_line_1 : Name → Name
name_on_line_1 name = record { text = name.text; line = 1 }

abbrev pub type_on_line_1 : TypeName → TypeName
type_on_line_1 (type_name.Int line) = type_name.Int 1
type_on_line_1 (type_name.Class name) = type_name.Class (name_on_line_1 name)

abbrev pub at_on_line_1 : Option At → Option At
at_on_line_1 None = None
at_on_line_1 (Some at) = Some (record { line = 1; number = at.number; number_line = 1 })

-- an expression whose parts stand on line 1
abbrev pub expr_step_on_line_1 : Expr-F Expr → Expr
expr_step_on_line_1 (Expr-F.Literal value line) = e.Literal value 1
expr_step_on_line_1 (Expr-F.Null line) = e.Null 1
expr_step_on_line_1 (Expr-F.This line) = e.This 1
expr_step_on_line_1 (Expr-F.Field name) = e.Field (name_on_line_1 name)
expr_step_on_line_1 (Expr-F.Variable name) = e.Variable (name_on_line_1 name)
expr_step_on_line_1 (Expr-F.New class at) = e.New (name_on_line_1 class) (at_on_line_1 at)
expr_step_on_line_1 (Expr-F.Parens inner line) = e.Parens inner 1
expr_step_on_line_1 (Expr-F.Negate operand line) = e.Negate operand 1
expr_step_on_line_1 (Expr-F.Binary operator left right line) = e.Binary operator left right 1
expr_step_on_line_1 (Expr-F.Call receiver method arguments) = e.Call receiver (name_on_line_1 method) arguments

abbrev pub expr_on_line_1 : Expr → Expr
expr_on_line_1 = fold-Expr Expr expr_step_on_line_1

-- a statement whose inner statements stand on line 1
abbrev pub stmt_step_on_line_1 : Stmt-F Stmt → Stmt
stmt_step_on_line_1 (Stmt-F.Var type name line value) = s.Var (type_on_line_1 type) (name_on_line_1 name) 1 (expr_on_line_1 value)
stmt_step_on_line_1 (Stmt-F.Assign name line value) = s.Assign (name_on_line_1 name) 1 (expr_on_line_1 value)
stmt_step_on_line_1 (Stmt-F.FieldAssign field line value) = s.FieldAssign (name_on_line_1 field) 1 (expr_on_line_1 value)
stmt_step_on_line_1 (Stmt-F.Return value) = s.Return (expr_on_line_1 value)
stmt_step_on_line_1 (Stmt-F.If condition then) = s.If (expr_on_line_1 condition) then
stmt_step_on_line_1 (Stmt-F.IfElse condition then otherwise) = s.IfElse (expr_on_line_1 condition) then otherwise
stmt_step_on_line_1 (Stmt-F.While condition body) = s.While (expr_on_line_1 condition) body
stmt_step_on_line_1 (Stmt-F.Print value) = s.Print (expr_on_line_1 value)
stmt_step_on_line_1 (Stmt-F.Evaluate value) = s.Evaluate (expr_on_line_1 value)

abbrev pub stmt_on_line_1 : Stmt → Stmt
stmt_on_line_1 = fold-Stmt Stmt stmt_step_on_line_1

abbrev pub block_on_line_1 : List Stmt → List Stmt
block_on_line_1 block = map stmt_on_line_1 block

abbrev pub field_on_line_1 : Field → Field
field_on_line_1 field = record { type_name = type_on_line_1 field.type_name; name = name_on_line_1 field.name }

abbrev pub parameter_on_line_1 : Parameter → Parameter
parameter_on_line_1 parameter = record { type_name = type_on_line_1 parameter.type_name; name = name_on_line_1 parameter.name }

abbrev pub method_on_line_1 : Method → Method
method_on_line_1 method =
    record {
      result = type_on_line_1 method.result;
      name = name_on_line_1 method.name;
      parameters = map parameter_on_line_1 method.parameters;
      body = block_on_line_1 method.body;
    }

abbrev pub class_on_line_1 : Class → Class
class_on_line_1 class =
    record {
      kind = class.kind;
      name = name_on_line_1 class.name;
      fields = map field_on_line_1 class.fields;
      methods = map method_on_line_1 class.methods;
    }
