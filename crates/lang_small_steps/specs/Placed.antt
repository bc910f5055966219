-- The statement at a place of a block (this project's).
use Rattle.std.specs.Prelude.{ℕ, zero, suc, List, [], ◌∷◌}
use Rattle.class_defs.specs.declared.expressions.Expr.TheVariants.{Null}
use Rattle.class_defs.specs.declared.statements.Stmt.{Stmt}
use Rattle.class_defs.specs.declared.statements.Stmt.TheVariants.{Evaluate}

-- the statement at a place, from 0; past the last one a statement that does nothing
abbrev pub stmt_at : List Stmt → ℕ → Stmt
stmt_at [] n = Evaluate (Null 0)
stmt_at (s ∷ ss) zero = s
stmt_at (s ∷ ss) (suc n) = stmt_at ss n
