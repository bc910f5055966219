-- How a statement begins: the part that is evaluated first, and the frame that waits for it.
use Rattle.std.specs.Prelude.{ℕ, List}
use Rattle.class_defs.specs.Types.{type_named}
use Rattle.class_defs.specs.declared.classes.Class.{Class}
use Rattle.class_defs.specs.declared.expressions.Expr.{Expr}
use Rattle.class_defs.specs.declared.statements.Stmt.{Stmt}
use Rattle.class_defs.specs.declared.statements.Stmt.TheOpen.{Stmt-F}
use Rattle.lang_small_steps.specs.declared.frames.Frame.{Frame}
use Rattle.lang_small_steps.specs.declared.frames.Frame.TheVariants as frame

abbrev pub first_part : Stmt-F Stmt → Expr
first_part (Stmt-F.Var t name line e) = e
first_part (Stmt-F.Assign name line e) = e
first_part (Stmt-F.FieldAssign field line e) = e
first_part (Stmt-F.Return e) = e
first_part (Stmt-F.If c b) = c
first_part (Stmt-F.IfElse c b d) = c
first_part (Stmt-F.While c b) = c
first_part (Stmt-F.Print e) = e
first_part (Stmt-F.Evaluate e) = e

abbrev pub waiting_frame : List Class → ℕ → Stmt-F Stmt → Frame
waiting_frame classes n (Stmt-F.Var t name line e) = frame.Declare (type_named classes t) name.text
waiting_frame classes n (Stmt-F.Assign name line e) = frame.Assign name.text
waiting_frame classes n (Stmt-F.FieldAssign field line e) = frame.FieldAssign field.text
waiting_frame classes n (Stmt-F.Return e) = frame.Return
waiting_frame classes n (Stmt-F.If c b) = frame.Branch n b
waiting_frame classes n (Stmt-F.IfElse c b d) = frame.Branches n b d
waiting_frame classes n (Stmt-F.While c b) = frame.Test n 100000 c b
waiting_frame classes n (Stmt-F.Print e) = frame.Print
waiting_frame classes n (Stmt-F.Evaluate e) = frame.Discard
