use Rattle.std.proofs.Common.{◌≡◌, refl, ap, sym, ◌∙◌}
use Rattle.class_defs.proofs.RuleForms.{the_forms}
use Rattle.law_type_soundness.proofs.rows.stuck.Goals as goal
use Rattle.class_defs.specs.Calls.{owners_at}
use Rattle.class_defs.specs.Objects.{field_value, named_value, scope_at, seen, touch}
use Rattle.class_defs.specs.Steps.{step}
use Rattle.law_type_soundness.specs.Strict.{strict_block, strict_body, strict_call, strict_expression, strict_meaning, strict_object, strict_statement}
use Rattle.class_defs.specs.Types.{Scope, name_type, type_of, type_step}
use Rattle.class_defs.specs.declared.expressions.Expr.TheFolds.{fold-roll-Expr}
use Rattle.class_defs.specs.declared.expressions.Expr.TheOpen.{Expr-F}
use Rattle.class_defs.specs.declared.expressions.Expr.TheVariants as expr
use Rattle.class_defs.specs.declared.expressions.Name.{Name}
use Rattle.class_defs.specs.declared.statements.Stmt.{out-Stmt}
use Rattle.class_defs.specs.declared.expressions.Expr.{Expr}
use Rattle.class_defs.specs.declared.statements.Stmt.TheOpen.{Stmt-F}
use Rattle.class_defs.specs.declared.statements.Stmt.TheVariants as stmt
use Rattle.class_defs.specs.declared.statements.Stmt.TheViews.{out-roll-Stmt}
use Rattle.class_defs.specs.declared.types.ExprType.{ExprType}

type_variable : (s : Scope) (name : Name) → type_of s (expr.Variable name) ≡ name_type s name.text
unfolding type_of
type_variable s name = ap (type_of s) (sym (expr.rolls-Variable name)) ∙ fold-roll-Expr ExprType (type_step s) (Expr-F.Variable name)

out_print : (e : Expr) → out-Stmt (stmt.Print e) ≡ Stmt-F.Print e
out_print e = ap out-Stmt (sym (stmt.rolls-Print e)) ∙ out-roll-Stmt (Stmt-F.Print e)

out_evaluate : (e : Expr) → out-Stmt (stmt.Evaluate e) ≡ Stmt-F.Evaluate e
out_evaluate e = ap out-Stmt (sym (stmt.rolls-Evaluate e)) ∙ out-roll-Stmt (Stmt-F.Evaluate e)

out_return : (e : Expr) → out-Stmt (stmt.Return e) ≡ Stmt-F.Return e
out_return e = ap out-Stmt (sym (stmt.rolls-Return e)) ∙ out-roll-Stmt (Stmt-F.Return e)

ruleset forms = (the_forms, type_variable, out_print, out_evaluate, out_return)

pub returns : goal.returns
unfolding strict_meaning strict_statement strict_expression step named_value scope_at strict_call strict_object strict_block strict_body touch seen owners_at field_value
returns c = record {
  null_is_no_number = simp forms refl;
  number_is_one = simp forms refl;
  name_not_declared = simp forms refl;
  name_declared = simp forms refl;
  class_not_declared = simp forms refl;
  method_there = simp forms refl;
  method_not_there = simp forms refl;
  argument_missing = simp forms refl;
  field_of_a_wrong_kind = simp forms refl;
}
