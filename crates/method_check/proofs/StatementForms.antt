-- What a check says of a statement, by the form of the statement.
use Rattle.std.proofs.Common.{◌≡◌, List, ◌++◌, ap, ◌∙◌, sym}
use Rattle.class_defs.specs.Rules.{Sight}
use Rattle.class_defs.specs.StatementRules.{Ruled, ruled, rule_step, block_rules, must_be_number}
use Rattle.class_defs.specs.declared.expressions.Expr.{Expr}
use Rattle.class_defs.specs.declared.statements.Stmt.{Stmt}
use Rattle.class_defs.specs.declared.statements.Stmt.TheVariants.{If, IfElse, While, rolls-If, rolls-IfElse, rolls-While}
use Rattle.class_defs.specs.declared.statements.Stmt.TheFolds.{fold-roll-Stmt}
use Rattle.class_defs.specs.declared.statements.Stmt.TheOpen.{Stmt-F}

pub ruled_if : (s : Sight) (e : Expr) (b : List Stmt) → (ruled (If e b)).broken s ≡ must_be_number s e ++ block_rules s b
unfolding ruled
ruled_if s e b = ap (λ j. j.broken s) (ap ruled (sym (rolls-If e b)) ∙ fold-roll-Stmt Ruled rule_step (Stmt-F.If e b))

pub ruled_if_else : (s : Sight) (e : Expr) (b d : List Stmt) → (ruled (IfElse e b d)).broken s ≡ must_be_number s e ++ block_rules s b ++ block_rules s d
unfolding ruled
ruled_if_else s e b d = ap (λ j. j.broken s) (ap ruled (sym (rolls-IfElse e b d)) ∙ fold-roll-Stmt Ruled rule_step (Stmt-F.IfElse e b d))

pub ruled_while : (s : Sight) (e : Expr) (b : List Stmt) → (ruled (While e b)).broken s ≡ must_be_number s e ++ block_rules s b
unfolding ruled
ruled_while s e b = ap (λ j. j.broken s) (ap ruled (sym (rolls-While e b)) ∙ fold-roll-Stmt Ruled rule_step (Stmt-F.While e b))
