-- What the rules say of expressions and statements, by their form.
use Rattle.std.proofs.Common.{◌≡◌, ℕ, List, Option, ap, ◌∙◌, sym}
use Rattle.class_defs.specs.ExpressionRules.{Judged, judged, judge_step}
use Rattle.class_defs.specs.Rules.{Sight}
use Rattle.class_defs.specs.StatementRules.{Ruled, ruled, rule_step, names_at, names_declared}
use Rattle.class_defs.specs.declared.expressions.At.{At}
use Rattle.class_defs.specs.declared.expressions.Expr.{Expr, out-Expr, map-Expr}
use Rattle.class_defs.specs.declared.expressions.Expr.TheFolds.{fold-roll-Expr}
use Rattle.class_defs.specs.declared.expressions.Expr.TheOpen.{Expr-F}
use Rattle.class_defs.specs.declared.expressions.Expr.TheVariants as expr
use Rattle.class_defs.specs.declared.expressions.Expr.TheViews.{out-roll-Expr}
use Rattle.class_defs.specs.declared.expressions.Name.{Name}
use Rattle.class_defs.specs.declared.expressions.Operator.{Operator}
use Rattle.class_defs.specs.declared.expressions.TypeName.{TypeName}
use Rattle.class_defs.specs.declared.literals.Literal.{Literal}
use Rattle.class_defs.specs.declared.statements.Stmt.{Stmt, map-Stmt}
use Rattle.class_defs.specs.declared.statements.Stmt.TheFolds.{fold-roll-Stmt}
use Rattle.class_defs.specs.declared.statements.Stmt.TheOpen.{Stmt-F}
use Rattle.class_defs.specs.declared.statements.Stmt.TheVariants as stmt

pub judged_literal : (s : Sight) (value : Literal) (line : ℕ) → judged s (expr.Literal value line) ≡ judge_step s (map-Expr Expr Judged (judged s) (Expr-F.Literal value line))
unfolding judged
judged_literal s value line = ap (judged s) (sym (expr.rolls-Literal value line)) ∙ fold-roll-Expr Judged (judge_step s) (Expr-F.Literal value line)

pub judged_null : (s : Sight) (line : ℕ) → judged s (expr.Null line) ≡ judge_step s (map-Expr Expr Judged (judged s) (Expr-F.Null line))
unfolding judged
judged_null s line = ap (judged s) (sym (expr.rolls-Null line)) ∙ fold-roll-Expr Judged (judge_step s) (Expr-F.Null line)

pub judged_this : (s : Sight) (line : ℕ) → judged s (expr.This line) ≡ judge_step s (map-Expr Expr Judged (judged s) (Expr-F.This line))
unfolding judged
judged_this s line = ap (judged s) (sym (expr.rolls-This line)) ∙ fold-roll-Expr Judged (judge_step s) (Expr-F.This line)

pub judged_field : (s : Sight) (name : Name) → judged s (expr.Field name) ≡ judge_step s (map-Expr Expr Judged (judged s) (Expr-F.Field name))
unfolding judged
judged_field s name = ap (judged s) (sym (expr.rolls-Field name)) ∙ fold-roll-Expr Judged (judge_step s) (Expr-F.Field name)

pub judged_variable : (s : Sight) (name : Name) → judged s (expr.Variable name) ≡ judge_step s (map-Expr Expr Judged (judged s) (Expr-F.Variable name))
unfolding judged
judged_variable s name = ap (judged s) (sym (expr.rolls-Variable name)) ∙ fold-roll-Expr Judged (judge_step s) (Expr-F.Variable name)

pub judged_new : (s : Sight) (class : Name) (at : Option At) → judged s (expr.New class at) ≡ judge_step s (map-Expr Expr Judged (judged s) (Expr-F.New class at))
unfolding judged
judged_new s class at = ap (judged s) (sym (expr.rolls-New class at)) ∙ fold-roll-Expr Judged (judge_step s) (Expr-F.New class at)

pub judged_parens : (s : Sight) (inner : Expr) (line : ℕ) → judged s (expr.Parens inner line) ≡ judge_step s (map-Expr Expr Judged (judged s) (Expr-F.Parens inner line))
unfolding judged
judged_parens s inner line = ap (judged s) (sym (expr.rolls-Parens inner line)) ∙ fold-roll-Expr Judged (judge_step s) (Expr-F.Parens inner line)

pub judged_negate : (s : Sight) (operand : Expr) (line : ℕ) → judged s (expr.Negate operand line) ≡ judge_step s (map-Expr Expr Judged (judged s) (Expr-F.Negate operand line))
unfolding judged
judged_negate s operand line = ap (judged s) (sym (expr.rolls-Negate operand line)) ∙ fold-roll-Expr Judged (judge_step s) (Expr-F.Negate operand line)

pub judged_binary : (s : Sight) (operator : Operator) (left right : Expr) (line : ℕ) → judged s (expr.Binary operator left right line) ≡ judge_step s (map-Expr Expr Judged (judged s) (Expr-F.Binary operator left right line))
unfolding judged
judged_binary s operator left right line = ap (judged s) (sym (expr.rolls-Binary operator left right line)) ∙ fold-roll-Expr Judged (judge_step s) (Expr-F.Binary operator left right line)

pub judged_call : (s : Sight) (receiver : Expr) (method : Name) (arguments : List Expr) → judged s (expr.Call receiver method arguments) ≡ judge_step s (map-Expr Expr Judged (judged s) (Expr-F.Call receiver method arguments))
unfolding judged
judged_call s receiver method arguments = ap (judged s) (sym (expr.rolls-Call receiver method arguments)) ∙ fold-roll-Expr Judged (judge_step s) (Expr-F.Call receiver method arguments)

pub ruled_var : (type_name : TypeName) (name : Name) (line : ℕ) (e : Expr) → ruled (stmt.Var type_name name line e) ≡ rule_step (map-Stmt Stmt Ruled ruled (Stmt-F.Var type_name name line e))
unfolding ruled
ruled_var type_name name line e = ap ruled (sym (stmt.rolls-Var type_name name line e)) ∙ fold-roll-Stmt Ruled rule_step (Stmt-F.Var type_name name line e)

pub names_var : (type_name : TypeName) (name : Name) (line : ℕ) (e : Expr) → names_declared (stmt.Var type_name name line e) ≡ names_at (map-Stmt Stmt (List Name) names_declared (Stmt-F.Var type_name name line e))
unfolding names_declared
names_var type_name name line e = ap names_declared (sym (stmt.rolls-Var type_name name line e)) ∙ fold-roll-Stmt (List Name) names_at (Stmt-F.Var type_name name line e)

pub ruled_assign : (name : Name) (line : ℕ) (e : Expr) → ruled (stmt.Assign name line e) ≡ rule_step (map-Stmt Stmt Ruled ruled (Stmt-F.Assign name line e))
unfolding ruled
ruled_assign name line e = ap ruled (sym (stmt.rolls-Assign name line e)) ∙ fold-roll-Stmt Ruled rule_step (Stmt-F.Assign name line e)

pub names_assign : (name : Name) (line : ℕ) (e : Expr) → names_declared (stmt.Assign name line e) ≡ names_at (map-Stmt Stmt (List Name) names_declared (Stmt-F.Assign name line e))
unfolding names_declared
names_assign name line e = ap names_declared (sym (stmt.rolls-Assign name line e)) ∙ fold-roll-Stmt (List Name) names_at (Stmt-F.Assign name line e)

pub ruled_field_assign : (field : Name) (line : ℕ) (e : Expr) → ruled (stmt.FieldAssign field line e) ≡ rule_step (map-Stmt Stmt Ruled ruled (Stmt-F.FieldAssign field line e))
unfolding ruled
ruled_field_assign field line e = ap ruled (sym (stmt.rolls-FieldAssign field line e)) ∙ fold-roll-Stmt Ruled rule_step (Stmt-F.FieldAssign field line e)

pub names_field_assign : (field : Name) (line : ℕ) (e : Expr) → names_declared (stmt.FieldAssign field line e) ≡ names_at (map-Stmt Stmt (List Name) names_declared (Stmt-F.FieldAssign field line e))
unfolding names_declared
names_field_assign field line e = ap names_declared (sym (stmt.rolls-FieldAssign field line e)) ∙ fold-roll-Stmt (List Name) names_at (Stmt-F.FieldAssign field line e)

pub ruled_return : (e : Expr) → ruled (stmt.Return e) ≡ rule_step (map-Stmt Stmt Ruled ruled (Stmt-F.Return e))
unfolding ruled
ruled_return e = ap ruled (sym (stmt.rolls-Return e)) ∙ fold-roll-Stmt Ruled rule_step (Stmt-F.Return e)

pub names_return : (e : Expr) → names_declared (stmt.Return e) ≡ names_at (map-Stmt Stmt (List Name) names_declared (Stmt-F.Return e))
unfolding names_declared
names_return e = ap names_declared (sym (stmt.rolls-Return e)) ∙ fold-roll-Stmt (List Name) names_at (Stmt-F.Return e)

pub ruled_if : (condition : Expr) (body : List Stmt) → ruled (stmt.If condition body) ≡ rule_step (map-Stmt Stmt Ruled ruled (Stmt-F.If condition body))
unfolding ruled
ruled_if condition body = ap ruled (sym (stmt.rolls-If condition body)) ∙ fold-roll-Stmt Ruled rule_step (Stmt-F.If condition body)

pub names_if : (condition : Expr) (body : List Stmt) → names_declared (stmt.If condition body) ≡ names_at (map-Stmt Stmt (List Name) names_declared (Stmt-F.If condition body))
unfolding names_declared
names_if condition body = ap names_declared (sym (stmt.rolls-If condition body)) ∙ fold-roll-Stmt (List Name) names_at (Stmt-F.If condition body)

pub ruled_if_else : (condition : Expr) (body otherwise : List Stmt) → ruled (stmt.IfElse condition body otherwise) ≡ rule_step (map-Stmt Stmt Ruled ruled (Stmt-F.IfElse condition body otherwise))
unfolding ruled
ruled_if_else condition body otherwise = ap ruled (sym (stmt.rolls-IfElse condition body otherwise)) ∙ fold-roll-Stmt Ruled rule_step (Stmt-F.IfElse condition body otherwise)

pub names_if_else : (condition : Expr) (body otherwise : List Stmt) → names_declared (stmt.IfElse condition body otherwise) ≡ names_at (map-Stmt Stmt (List Name) names_declared (Stmt-F.IfElse condition body otherwise))
unfolding names_declared
names_if_else condition body otherwise = ap names_declared (sym (stmt.rolls-IfElse condition body otherwise)) ∙ fold-roll-Stmt (List Name) names_at (Stmt-F.IfElse condition body otherwise)

pub ruled_while : (condition : Expr) (body : List Stmt) → ruled (stmt.While condition body) ≡ rule_step (map-Stmt Stmt Ruled ruled (Stmt-F.While condition body))
unfolding ruled
ruled_while condition body = ap ruled (sym (stmt.rolls-While condition body)) ∙ fold-roll-Stmt Ruled rule_step (Stmt-F.While condition body)

pub names_while : (condition : Expr) (body : List Stmt) → names_declared (stmt.While condition body) ≡ names_at (map-Stmt Stmt (List Name) names_declared (Stmt-F.While condition body))
unfolding names_declared
names_while condition body = ap names_declared (sym (stmt.rolls-While condition body)) ∙ fold-roll-Stmt (List Name) names_at (Stmt-F.While condition body)

pub ruled_print : (e : Expr) → ruled (stmt.Print e) ≡ rule_step (map-Stmt Stmt Ruled ruled (Stmt-F.Print e))
unfolding ruled
ruled_print e = ap ruled (sym (stmt.rolls-Print e)) ∙ fold-roll-Stmt Ruled rule_step (Stmt-F.Print e)

pub names_print : (e : Expr) → names_declared (stmt.Print e) ≡ names_at (map-Stmt Stmt (List Name) names_declared (Stmt-F.Print e))
unfolding names_declared
names_print e = ap names_declared (sym (stmt.rolls-Print e)) ∙ fold-roll-Stmt (List Name) names_at (Stmt-F.Print e)

pub ruled_evaluate : (e : Expr) → ruled (stmt.Evaluate e) ≡ rule_step (map-Stmt Stmt Ruled ruled (Stmt-F.Evaluate e))
unfolding ruled
ruled_evaluate e = ap ruled (sym (stmt.rolls-Evaluate e)) ∙ fold-roll-Stmt Ruled rule_step (Stmt-F.Evaluate e)

pub names_evaluate : (e : Expr) → names_declared (stmt.Evaluate e) ≡ names_at (map-Stmt Stmt (List Name) names_declared (Stmt-F.Evaluate e))
unfolding names_declared
names_evaluate e = ap names_declared (sym (stmt.rolls-Evaluate e)) ∙ fold-roll-Stmt (List Name) names_at (Stmt-F.Evaluate e)

pub out_literal : (value : Literal) (line : ℕ) → out-Expr (expr.Literal value line) ≡ Expr-F.Literal value line
out_literal value line = ap out-Expr (sym (expr.rolls-Literal value line)) ∙ out-roll-Expr (Expr-F.Literal value line)

pub out_null : (line : ℕ) → out-Expr (expr.Null line) ≡ Expr-F.Null line
out_null line = ap out-Expr (sym (expr.rolls-Null line)) ∙ out-roll-Expr (Expr-F.Null line)

pub out_this : (line : ℕ) → out-Expr (expr.This line) ≡ Expr-F.This line
out_this line = ap out-Expr (sym (expr.rolls-This line)) ∙ out-roll-Expr (Expr-F.This line)

pub out_field : (name : Name) → out-Expr (expr.Field name) ≡ Expr-F.Field name
out_field name = ap out-Expr (sym (expr.rolls-Field name)) ∙ out-roll-Expr (Expr-F.Field name)

pub out_variable : (name : Name) → out-Expr (expr.Variable name) ≡ Expr-F.Variable name
out_variable name = ap out-Expr (sym (expr.rolls-Variable name)) ∙ out-roll-Expr (Expr-F.Variable name)

pub out_new : (class : Name) (at : Option At) → out-Expr (expr.New class at) ≡ Expr-F.New class at
out_new class at = ap out-Expr (sym (expr.rolls-New class at)) ∙ out-roll-Expr (Expr-F.New class at)

pub out_parens : (inner : Expr) (line : ℕ) → out-Expr (expr.Parens inner line) ≡ Expr-F.Parens inner line
out_parens inner line = ap out-Expr (sym (expr.rolls-Parens inner line)) ∙ out-roll-Expr (Expr-F.Parens inner line)

pub out_negate : (operand : Expr) (line : ℕ) → out-Expr (expr.Negate operand line) ≡ Expr-F.Negate operand line
out_negate operand line = ap out-Expr (sym (expr.rolls-Negate operand line)) ∙ out-roll-Expr (Expr-F.Negate operand line)

pub out_binary : (operator : Operator) (left right : Expr) (line : ℕ) → out-Expr (expr.Binary operator left right line) ≡ Expr-F.Binary operator left right line
out_binary operator left right line = ap out-Expr (sym (expr.rolls-Binary operator left right line)) ∙ out-roll-Expr (Expr-F.Binary operator left right line)

pub out_call : (receiver : Expr) (method : Name) (arguments : List Expr) → out-Expr (expr.Call receiver method arguments) ≡ Expr-F.Call receiver method arguments
out_call receiver method arguments = ap out-Expr (sym (expr.rolls-Call receiver method arguments)) ∙ out-roll-Expr (Expr-F.Call receiver method arguments)

-- the forms of both
pub ruleset the_forms = (judged_literal, judged_null, judged_this, judged_field, judged_variable, judged_new, judged_parens, judged_negate, judged_binary, judged_call, ruled_var, names_var, ruled_assign, names_assign, ruled_field_assign, names_field_assign, ruled_return, names_return, ruled_if, names_if, ruled_if_else, names_if_else, ruled_while, names_while, ruled_print, names_print, ruled_evaluate, names_evaluate, out_literal, out_null, out_this, out_field, out_variable, out_new, out_parens, out_negate, out_binary, out_call)
