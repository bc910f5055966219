-- Runs, computed: the outermost form of each expression and statement, the type of each expression, and the meaning and
-- the loop unrolled as often as a small run needs. Below that nothing is computed.
use Rattle.std.proofs.Common.{◌≡◌, ℕ, suc, List, [], ◌∷◌, Option, ap, ◌∙◌, refl, sym}
use Rattle.class_defs.specs.Expressions.{expression}
use Rattle.class_defs.specs.Run.{Meaning, meaning}
use Rattle.class_defs.specs.Statements.{block_of, repeat, statement, turn}
use Rattle.class_defs.specs.Steps.{Action, World, step, ◌>>=◌, ◌>>◌}
use Rattle.class_defs.specs.Types.{Scope, type_of, type_step}
use Rattle.thor_value.specs.declared.values.Value.{Value}
use Rattle.class_defs.specs.declared.expressions.At.{At}
use Rattle.class_defs.specs.declared.expressions.Expr.{Expr, map-Expr}
use Rattle.class_defs.specs.declared.expressions.Expr.TheFolds.{fold-roll-Expr}
use Rattle.class_defs.specs.declared.expressions.Expr.TheOpen.{Expr-F}
use Rattle.class_defs.specs.declared.expressions.Expr.TheVariants as expr
use Rattle.class_defs.specs.declared.expressions.Name.{Name}
use Rattle.class_defs.specs.declared.expressions.TypeName.{TypeName}
use Rattle.class_defs.specs.declared.machine.Flow.{Flow}
use Rattle.class_defs.specs.declared.statements.Stmt.{Stmt, out-Stmt}
use Rattle.class_defs.specs.declared.statements.Stmt.TheOpen.{Stmt-F}
use Rattle.class_defs.specs.declared.statements.Stmt.TheVariants as stmt
use Rattle.class_defs.specs.declared.statements.Stmt.TheViews.{out-roll-Stmt}
use Rattle.class_defs.specs.declared.types.ExprType.{ExprType}

module _ (s : Scope) where
  abbrev layer : Expr-F Expr → ExprType
  layer e = type_step s (map-Expr Expr ExprType (type_of s) e)

  pub type_null : (line : ℕ) → type_of s (expr.Null line) ≡ layer (Expr-F.Null line)
  unfolding type_of
  type_null line = ap (type_of s) (sym (expr.rolls-Null line)) ∙ fold-roll-Expr ExprType (type_step s) (Expr-F.Null line)

  pub type_this : (line : ℕ) → type_of s (expr.This line) ≡ layer (Expr-F.This line)
  unfolding type_of
  type_this line = ap (type_of s) (sym (expr.rolls-This line)) ∙ fold-roll-Expr ExprType (type_step s) (Expr-F.This line)

  pub type_field : (name : Name) → type_of s (expr.Field name) ≡ layer (Expr-F.Field name)
  unfolding type_of
  type_field name = ap (type_of s) (sym (expr.rolls-Field name)) ∙ fold-roll-Expr ExprType (type_step s) (Expr-F.Field name)

  pub type_variable : (name : Name) → type_of s (expr.Variable name) ≡ layer (Expr-F.Variable name)
  unfolding type_of
  type_variable name = ap (type_of s) (sym (expr.rolls-Variable name)) ∙ fold-roll-Expr ExprType (type_step s) (Expr-F.Variable name)

  pub type_new : (class : Name) (at : Option At) → type_of s (expr.New class at) ≡ layer (Expr-F.New class at)
  unfolding type_of
  type_new class at = ap (type_of s) (sym (expr.rolls-New class at)) ∙ fold-roll-Expr ExprType (type_step s) (Expr-F.New class at)

  pub type_parens : (inner : Expr) (line : ℕ) → type_of s (expr.Parens inner line) ≡ layer (Expr-F.Parens inner line)
  unfolding type_of
  type_parens inner line = ap (type_of s) (sym (expr.rolls-Parens inner line)) ∙ fold-roll-Expr ExprType (type_step s) (Expr-F.Parens inner line)

pub out_var : (t : TypeName) (name : Name) (line : ℕ) (e : Expr) → out-Stmt (stmt.Var t name line e) ≡ Stmt-F.Var t name line e
out_var t name line e = ap out-Stmt (sym (stmt.rolls-Var t name line e)) ∙ out-roll-Stmt (Stmt-F.Var t name line e)

pub out_assign : (name : Name) (line : ℕ) (e : Expr) → out-Stmt (stmt.Assign name line e) ≡ Stmt-F.Assign name line e
out_assign name line e = ap out-Stmt (sym (stmt.rolls-Assign name line e)) ∙ out-roll-Stmt (Stmt-F.Assign name line e)

pub out_field_assign : (name : Name) (line : ℕ) (e : Expr) → out-Stmt (stmt.FieldAssign name line e) ≡ Stmt-F.FieldAssign name line e
out_field_assign name line e = ap out-Stmt (sym (stmt.rolls-FieldAssign name line e)) ∙ out-roll-Stmt (Stmt-F.FieldAssign name line e)

pub out_return : (e : Expr) → out-Stmt (stmt.Return e) ≡ Stmt-F.Return e
out_return e = ap out-Stmt (sym (stmt.rolls-Return e)) ∙ out-roll-Stmt (Stmt-F.Return e)

pub out_if : (e : Expr) (body : List Stmt) → out-Stmt (stmt.If e body) ≡ Stmt-F.If e body
out_if e body = ap out-Stmt (sym (stmt.rolls-If e body)) ∙ out-roll-Stmt (Stmt-F.If e body)

pub out_if_else : (e : Expr) (body otherwise : List Stmt) → out-Stmt (stmt.IfElse e body otherwise) ≡ Stmt-F.IfElse e body otherwise
out_if_else e body otherwise = ap out-Stmt (sym (stmt.rolls-IfElse e body otherwise)) ∙ out-roll-Stmt (Stmt-F.IfElse e body otherwise)

pub out_while : (e : Expr) (body : List Stmt) → out-Stmt (stmt.While e body) ≡ Stmt-F.While e body
out_while e body = ap out-Stmt (sym (stmt.rolls-While e body)) ∙ out-roll-Stmt (Stmt-F.While e body)

pub out_print : (e : Expr) → out-Stmt (stmt.Print e) ≡ Stmt-F.Print e
out_print e = ap out-Stmt (sym (stmt.rolls-Print e)) ∙ out-roll-Stmt (Stmt-F.Print e)

pub out_evaluate : (e : Expr) → out-Stmt (stmt.Evaluate e) ≡ Stmt-F.Evaluate e
out_evaluate e = ap out-Stmt (sym (stmt.rolls-Evaluate e)) ∙ out-roll-Stmt (Stmt-F.Evaluate e)

-- a number that is greater by the length of a list
abbrev raised : List ℕ → ℕ → ℕ
raised [] n = n
raised (x ∷ k) n = suc (raised k n)

-- the meaning with as many levels in sight as the list is long, and n below them
unfoldable pub deep : World → List ℕ → ℕ → Meaning
deep w [] n = meaning w n
deep w (x ∷ k) n = record {
  value_of = expression w (deep w k n).value_of (block_of (deep w k n).execute);
  execute = statement w (deep w k n).value_of (block_of (deep w k n).execute);
}

deep_is : (w : World) (k : List ℕ) (n : ℕ) → meaning w (raised k n) ≡ deep w k n
unfolding deep meaning
deep_is w [] n = refl
deep_is w (x ∷ k) n = ap (λ (d : Meaning). record {
  value_of = expression w d.value_of (block_of d.execute);
  execute = statement w d.value_of (block_of d.execute);
}) (deep_is w k n)

abbrev pub six : List ℕ
six = 0 ∷ 0 ∷ 0 ∷ 0 ∷ 0 ∷ 0 ∷ []

abbrev two : List ℕ
two = 0 ∷ 0 ∷ []

pub deep_enough : (w : World) → meaning w 100001 ≡ deep w six 99995
deep_enough w = deep_is w six 99995

module _ (w : World) (value_of : Expr → Action Value) (block : List Stmt → Action Flow) where
  -- a loop with as many turns in sight, and n behind them
  unfoldable pub turns : List ℕ → ℕ → Expr → List Stmt → Action Flow
  turns [] n condition body = repeat w value_of block n condition body
  turns (x ∷ k) n condition body = step >> value_of condition >>= (λ v. turn w value_of block v body (turns k n condition body))

  turns_are : (k : List ℕ) (n : ℕ) (condition : Expr) (body : List Stmt)
      → repeat w value_of block (raised k n) condition body ≡ turns k n condition body
  unfolding turns repeat
  turns_are [] n condition body = refl
  turns_are (x ∷ k) n condition body =
      ap (λ (again : Action Flow). step >> value_of condition >>= (λ v. turn w value_of block v body again)) (turns_are k n condition body)

  pub turns_enough : (condition : Expr) (body : List Stmt) → repeat w value_of block 100001 condition body ≡ turns two 99999 condition body
  turns_enough condition body = turns_are two 99999 condition body

pub ruleset types = (type_null, type_this, type_field, type_variable, type_new, type_parens)

pub ruleset statements = (out_var, out_assign, out_field_assign, out_return, out_if, out_if_else, out_while, out_print, out_evaluate)

pub ruleset run_forms = (types, statements, deep_enough, turns_enough)
