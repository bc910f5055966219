-- Each node of the syntax, opened.
use Rattle.std.proofs.Common.{◌≡◌, ℕ, List, Option, Some, ap, sym, ◌∙◌}
use Rattle.std.proofs.lemmas.Option.{same_Some}
use Rattle.class_defs.specs.Steps.{World}
use Rattle.lang_small_steps.specs.Resume.{start}
use Rattle.lang_small_steps.specs.declared.frames.Frame.{Frame}
use Rattle.paused_eval.specs.Does.{field_read}
use Rattle.class_defs.specs.declared.expressions.At.{At}
use Rattle.class_defs.specs.declared.expressions.Expr.{Expr, out-Expr}
use Rattle.class_defs.specs.declared.expressions.Expr.TheOpen.{Expr-F}
use Rattle.class_defs.specs.declared.expressions.Expr.TheVariants as x
use Rattle.class_defs.specs.declared.expressions.Expr.TheViews.{out-roll-Expr}
use Rattle.class_defs.specs.declared.expressions.Name.{Name}
use Rattle.class_defs.specs.declared.expressions.Operator.{Operator}
use Rattle.class_defs.specs.declared.expressions.TypeName.{TypeName}
use Rattle.class_defs.specs.declared.literals.Literal.{Literal}
use Rattle.class_defs.specs.declared.statements.Stmt.{Stmt, out-Stmt}
use Rattle.class_defs.specs.declared.statements.Stmt.TheOpen.{Stmt-F}
use Rattle.class_defs.specs.declared.statements.Stmt.TheVariants as y
use Rattle.class_defs.specs.declared.statements.Stmt.TheViews.{out-roll-Stmt}

-- a node that reads a field of this object begins as one with that name
pub begins_field : (w : World) (n : ℕ) (o : Expr-F Expr) (fs : List Frame) (name : List ℕ) → field_read o ≡ Some name → start w n o fs ≡ start w 0 (Expr-F.Field (record { text = name; line = 0 })) fs
begins_field w n (Expr-F.Field f) fs name e = ap (λ (t : List ℕ). start w 0 (Expr-F.Field (record { text = t; line = 0 })) fs) (same_Some f.text name e)
begins_field w n (Expr-F.Literal v line) fs name e = absurd cc
begins_field w n (Expr-F.Null line) fs name e = absurd cc
begins_field w n (Expr-F.This line) fs name e = absurd cc
begins_field w n (Expr-F.Variable v) fs name e = absurd cc
begins_field w n (Expr-F.New class at) fs name e = absurd cc
begins_field w n (Expr-F.Parens inner line) fs name e = absurd cc
begins_field w n (Expr-F.Negate operand line) fs name e = absurd cc
begins_field w n (Expr-F.Binary o l r line) fs name e = absurd cc
begins_field w n (Expr-F.Call receiver method arguments) fs name e = absurd cc

pub out_literal : (v : Literal) (l : ℕ) → out-Expr (x.Literal v l) ≡ Expr-F.Literal v l
out_literal v l = ap out-Expr (sym (x.rolls-Literal v l)) ∙ out-roll-Expr (Expr-F.Literal v l)

pub out_null : (l : ℕ) → out-Expr (x.Null l) ≡ Expr-F.Null l
out_null l = ap out-Expr (sym (x.rolls-Null l)) ∙ out-roll-Expr (Expr-F.Null l)

pub out_this : (l : ℕ) → out-Expr (x.This l) ≡ Expr-F.This l
out_this l = ap out-Expr (sym (x.rolls-This l)) ∙ out-roll-Expr (Expr-F.This l)

pub out_field : (t : Name) → out-Expr (x.Field t) ≡ Expr-F.Field t
out_field t = ap out-Expr (sym (x.rolls-Field t)) ∙ out-roll-Expr (Expr-F.Field t)

pub out_variable : (t : Name) → out-Expr (x.Variable t) ≡ Expr-F.Variable t
out_variable t = ap out-Expr (sym (x.rolls-Variable t)) ∙ out-roll-Expr (Expr-F.Variable t)

pub out_new : (t : Name) (at : Option At) → out-Expr (x.New t at) ≡ Expr-F.New t at
out_new t at = ap out-Expr (sym (x.rolls-New t at)) ∙ out-roll-Expr (Expr-F.New t at)

pub out_parens : (n : Expr) (l : ℕ) → out-Expr (x.Parens n l) ≡ Expr-F.Parens n l
out_parens n l = ap out-Expr (sym (x.rolls-Parens n l)) ∙ out-roll-Expr (Expr-F.Parens n l)

pub out_negate : (n : Expr) (l : ℕ) → out-Expr (x.Negate n l) ≡ Expr-F.Negate n l
out_negate n l = ap out-Expr (sym (x.rolls-Negate n l)) ∙ out-roll-Expr (Expr-F.Negate n l)

pub out_binary : (o : Operator) (n k : Expr) (l : ℕ) → out-Expr (x.Binary o n k l) ≡ Expr-F.Binary o n k l
out_binary o n k l = ap out-Expr (sym (x.rolls-Binary o n k l)) ∙ out-roll-Expr (Expr-F.Binary o n k l)

pub out_call : (n : Expr) (t : Name) (ns : List Expr) → out-Expr (x.Call n t ns) ≡ Expr-F.Call n t ns
out_call n t ns = ap out-Expr (sym (x.rolls-Call n t ns)) ∙ out-roll-Expr (Expr-F.Call n t ns)

pub outs_var : (k : TypeName) (t : Name) (l : ℕ) (v : Expr) → out-Stmt (y.Var k t l v) ≡ Stmt-F.Var k t l v
outs_var k t l v = ap out-Stmt (sym (y.rolls-Var k t l v)) ∙ out-roll-Stmt (Stmt-F.Var k t l v)

pub outs_assign : (t : Name) (l : ℕ) (v : Expr) → out-Stmt (y.Assign t l v) ≡ Stmt-F.Assign t l v
outs_assign t l v = ap out-Stmt (sym (y.rolls-Assign t l v)) ∙ out-roll-Stmt (Stmt-F.Assign t l v)

pub outs_fieldassign : (t : Name) (l : ℕ) (v : Expr) → out-Stmt (y.FieldAssign t l v) ≡ Stmt-F.FieldAssign t l v
outs_fieldassign t l v = ap out-Stmt (sym (y.rolls-FieldAssign t l v)) ∙ out-roll-Stmt (Stmt-F.FieldAssign t l v)

pub outs_return : (v : Expr) → out-Stmt (y.Return v) ≡ Stmt-F.Return v
outs_return v = ap out-Stmt (sym (y.rolls-Return v)) ∙ out-roll-Stmt (Stmt-F.Return v)

pub outs_if : (c : Expr) (b : List Stmt) → out-Stmt (y.If c b) ≡ Stmt-F.If c b
outs_if c b = ap out-Stmt (sym (y.rolls-If c b)) ∙ out-roll-Stmt (Stmt-F.If c b)

pub outs_ifelse : (c : Expr) (b d : List Stmt) → out-Stmt (y.IfElse c b d) ≡ Stmt-F.IfElse c b d
outs_ifelse c b d = ap out-Stmt (sym (y.rolls-IfElse c b d)) ∙ out-roll-Stmt (Stmt-F.IfElse c b d)

pub outs_while : (c : Expr) (b : List Stmt) → out-Stmt (y.While c b) ≡ Stmt-F.While c b
outs_while c b = ap out-Stmt (sym (y.rolls-While c b)) ∙ out-roll-Stmt (Stmt-F.While c b)

pub outs_print : (v : Expr) → out-Stmt (y.Print v) ≡ Stmt-F.Print v
outs_print v = ap out-Stmt (sym (y.rolls-Print v)) ∙ out-roll-Stmt (Stmt-F.Print v)

pub outs_evaluate : (v : Expr) → out-Stmt (y.Evaluate v) ≡ Stmt-F.Evaluate v
outs_evaluate v = ap out-Stmt (sym (y.rolls-Evaluate v)) ∙ out-roll-Stmt (Stmt-F.Evaluate v)

pub ruleset expr_nodes = (out_literal, out_null, out_this, out_field, out_variable, out_new, out_parens, out_negate, out_binary, out_call)

pub ruleset stmt_nodes = (outs_var, outs_assign, outs_fieldassign, outs_return, outs_if, outs_ifelse, outs_while, outs_print, outs_evaluate)
