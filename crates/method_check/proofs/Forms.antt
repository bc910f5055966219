-- What a check says of an expression, by the form of the expression.
use Rattle.std.proofs.Common.{◌≡◌, ℕ, List, map, refl, ap, ◌∙◌, sym}
use Rattle.class_defs.specs.ExpressionRules.{Judged, judged, judge_step, line_at, null_at, negate_rules, binary_rules, call_rules}
use Rattle.class_defs.specs.Rules.{Sight}
use Rattle.class_defs.specs.declared.expressions.Expr.{Expr, out-Expr, map-Expr}
use Rattle.class_defs.specs.declared.expressions.Name.{Name}
use Rattle.class_defs.specs.declared.expressions.Expr.TheVariants.{Negate, Binary, Call, rolls-Negate, rolls-Binary, rolls-Call}
use Rattle.class_defs.specs.declared.expressions.Expr.TheFolds.{fold_out-Expr, fold-roll-Expr}
use Rattle.class_defs.specs.declared.expressions.Expr.TheOpen.{Expr-F}
use Rattle.class_defs.specs.declared.expressions.Operator.{Operator}
use Rattle.class_defs.specs.declared.rules.Position.{Position}

line_mapped : (f : Expr → Judged) (x : Expr-F Expr) → line_at (map-Expr Expr Judged f x) ≡ line_at x
line_mapped f (Expr-F.Literal value line) = refl
line_mapped f (Expr-F.Null line) = refl
line_mapped f (Expr-F.This line) = refl
line_mapped f (Expr-F.Field name) = refl
line_mapped f (Expr-F.Variable name) = refl
line_mapped f (Expr-F.New class at) = refl
line_mapped f (Expr-F.Parens inner line) = refl
line_mapped f (Expr-F.Negate operand line) = refl
line_mapped f (Expr-F.Binary operator left right line) = refl
line_mapped f (Expr-F.Call receiver method arguments) = refl

null_mapped : (f : Expr → Judged) (x : Expr-F Expr) → null_at (map-Expr Expr Judged f x) ≡ null_at x
null_mapped f (Expr-F.Literal value line) = refl
null_mapped f (Expr-F.Null line) = refl
null_mapped f (Expr-F.This line) = refl
null_mapped f (Expr-F.Field name) = refl
null_mapped f (Expr-F.Variable name) = refl
null_mapped f (Expr-F.New class at) = refl
null_mapped f (Expr-F.Parens inner line) = refl
null_mapped f (Expr-F.Negate operand line) = refl
null_mapped f (Expr-F.Binary operator left right line) = refl
null_mapped f (Expr-F.Call receiver method arguments) = refl

pub judged_out : (s : Sight) (e : Expr) → judged s e ≡ judge_step s (map-Expr Expr Judged (judged s) (out-Expr e))
unfolding judged
judged_out s e = fold_out-Expr Judged (judge_step s) e

pub line_judged : (s : Sight) (e : Expr) → (judged s e).line ≡ line_at (out-Expr e)
line_judged s e = ap (λ j. j.line) (judged_out s e) ∙ line_mapped (judged s) (out-Expr e)

pub null_judged : (s : Sight) (e : Expr) → (judged s e).null ≡ null_at (out-Expr e)
null_judged s e = ap (λ j. j.null) (judged_out s e) ∙ null_mapped (judged s) (out-Expr e)

pub judged_negate : (s : Sight) (e : Expr) (line : ℕ) (place : Position) → (judged s (Negate e line)).broken place ≡ negate_rules (judged s e) line
unfolding judged
judged_negate s e line place = ap (λ j. j.broken place) (ap (judged s) (sym (rolls-Negate e line)) ∙ fold-roll-Expr Judged (judge_step s) (Expr-F.Negate e line))

pub judged_binary : (s : Sight) (o : Operator) (a b : Expr) (line : ℕ) (place : Position) → (judged s (Binary o a b line)).broken place ≡ binary_rules s o (judged s a) (judged s b) line
unfolding judged
judged_binary s o a b line place = ap (λ j. j.broken place) (ap (judged s) (sym (rolls-Binary o a b line)) ∙ fold-roll-Expr Judged (judge_step s) (Expr-F.Binary o a b line))

pub judged_call : (s : Sight) (r : Expr) (m : Name) (more : List Expr) (place : Position) → (judged s (Call r m more)).broken place ≡ call_rules s (judged s r) m (map (judged s) more)
unfolding judged
judged_call s r m more place = ap (λ j. j.broken place) (ap (judged s) (sym (rolls-Call r m more)) ∙ fold-roll-Expr Judged (judge_step s) (Expr-F.Call r m more))
