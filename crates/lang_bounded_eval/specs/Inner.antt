-- What the parts of an evaluation do, where nodes n deep may stand inside one another.
use Rattle.std.specs.Prelude.{ℕ, List}
use Rattle.thor_value.specs.declared.names.Oref.{Oref}
use Rattle.thor_value.specs.declared.values.Value.{Value}
use Rattle.class_defs.specs.Calls as calls
use Rattle.class_defs.specs.Expressions as expressions
use Rattle.class_defs.specs.Run.{meaning}
use Rattle.class_defs.specs.Statements as statements
use Rattle.class_defs.specs.Steps.{World, Action}
use Rattle.class_defs.specs.declared.classes.Method.{Method}
use Rattle.class_defs.specs.declared.expressions.Expr.{Expr, out-Expr}
use Rattle.class_defs.specs.declared.machine.Flow.{Flow}
use Rattle.class_defs.specs.declared.machine.Receiver.{Receiver}
use Rattle.class_defs.specs.declared.statements.Stmt.{Stmt}

abbrev pub value_of : World → ℕ → Expr → Action Value
value_of w n = (meaning w n).value_of

abbrev pub execute : World → ℕ → Stmt → Action Flow
execute w n = (meaning w n).execute

abbrev pub block : World → ℕ → List Stmt → Action Flow
block w n = statements.block_of (execute w n)

abbrev pub expression : World → ℕ → Expr → Action Value
expression w n = expressions.expression w (value_of w n) (block w n)

abbrev pub node : World → ℕ → Expr → Action Value
node w n e = expressions.value_at w (value_of w n) (block w n) (out-Expr e)

abbrev pub values_of : World → ℕ → List Expr → Action (List Value)
values_of w n = expressions.values_of w (value_of w n) (block w n)

abbrev pub called : World → ℕ → Expr → List ℕ → List Expr → Action Value
called w n = expressions.called w (value_of w n) (block w n)

abbrev pub call_object : World → ℕ → ℕ → Oref → List ℕ → List Value → Action Value
call_object w n = calls.call_object w (block w n)

abbrev pub run_body : World → ℕ → Receiver → Method → List Value → Action Value
run_body w n = calls.run_body w (block w n)

abbrev pub in_order : World → ℕ → List Stmt → Action Flow
in_order w n = statements.in_order (execute w n)

abbrev pub statement : World → ℕ → Stmt → Action Flow
statement w n = statements.statement w (value_of w n) (block w n)

abbrev pub repeat : World → ℕ → ℕ → Expr → List Stmt → Action Flow
repeat w n = statements.repeat w (value_of w n) (block w n)
