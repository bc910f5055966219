-- The names that a statement declares, by the form of the statement.
use Rattle.std.proofs.Common.{◌≡◌, List, ◌++◌, map, ap, ◌∙◌, sym, refl}
use Rattle.std.specs.List.{flat_map}
use Rattle.std.proofs.lemmas.List.Folds.{flat_map-map}
use Rattle.class_defs.specs.StatementRules.{names_at, names_declared, names_in}
use Rattle.class_defs.specs.declared.expressions.Expr.{Expr}
use Rattle.class_defs.specs.declared.expressions.Name.{Name}
use Rattle.class_defs.specs.declared.statements.Stmt.{Stmt}
use Rattle.class_defs.specs.declared.statements.Stmt.TheVariants.{If, IfElse, While, rolls-If, rolls-IfElse, rolls-While}
use Rattle.class_defs.specs.declared.statements.Stmt.TheFolds.{fold-roll-Stmt}
use Rattle.class_defs.specs.declared.statements.Stmt.TheOpen.{Stmt-F}

joined : (b : List Stmt) → flat_map (λ ns. ns) (map names_declared b) ≡ names_in b
joined b = flat_map-map (λ (ns : List Name). ns) names_declared b

pub names_if : (e : Expr) (b : List Stmt) → names_declared (If e b) ≡ names_in b
unfolding names_declared
names_if e b = ap names_declared (sym (rolls-If e b)) ∙ fold-roll-Stmt (List Name) names_at (Stmt-F.If e b) ∙ joined b

pub names_if_else : (e : Expr) (b d : List Stmt) → names_declared (IfElse e b d) ≡ names_in b ++ names_in d
unfolding names_declared
names_if_else e b d = ap names_declared (sym (rolls-IfElse e b d)) ∙ fold-roll-Stmt (List Name) names_at (Stmt-F.IfElse e b d) ∙ rw (joined b, joined d) refl

pub names_while : (e : Expr) (b : List Stmt) → names_declared (While e b) ≡ names_in b
unfolding names_declared
names_while e b = ap names_declared (sym (rolls-While e b)) ∙ fold-roll-Stmt (List Name) names_at (Stmt-F.While e b) ∙ joined b
