-- The words and the shape of each form of an expression and of a statement.
use Rattle.std.proofs.Common.{◌≡◌, ℕ, ℤ, List, map, Option, sym, ap, ◌∙◌}
use Rattle.class_defs.specs.declared.expressions.Name.{Name}
use Rattle.class_defs.specs.declared.expressions.At.{At}
use Rattle.class_defs.specs.declared.expressions.TypeName.{TypeName}
use Rattle.class_defs.specs.declared.expressions.Operator.{Operator}
use Rattle.class_defs.specs.declared.expressions.Expr.{Expr}
use Rattle.class_defs.specs.declared.expressions.Expr.TheOpen.{Expr-F}
use Rattle.class_defs.specs.declared.expressions.Expr.TheVariants as e
use Rattle.class_defs.specs.declared.expressions.Expr.TheFolds.{fold-roll-Expr}
use Rattle.class_defs.specs.declared.literals.Literal.{Literal}
use Rattle.class_defs.specs.declared.statements.Stmt.{Stmt}
use Rattle.class_defs.specs.declared.statements.Stmt.TheOpen.{Stmt-F}
use Rattle.class_defs.specs.declared.statements.Stmt.TheVariants as s
use Rattle.class_defs.specs.declared.statements.Stmt.TheFolds.{fold-roll-Stmt}
use Rattle.class_defs.specs.declared.places.Place.{Place}
use Rattle.class_defs.specs.Words.{Word}
use Rattle.class_defs.specs.Spelling.{expr_step, expr_words, stmt_step, stmt_words}
use Rattle.class_defs.specs.Shape.{Shape, shape_step, shape, Form, form_step, form}

pub words-Literal : (v : Literal) (l : ℕ) → expr_words (e.Literal v l) ≡ expr_step (Expr-F.Literal v l)
words-Literal v l = ap expr_words (sym (e.rolls-Literal v l)) ∙ fold-roll-Expr (List Word) expr_step (Expr-F.Literal v l)

pub shape-Literal : (p : Place) (v : Literal) (l : ℕ) → shape p (e.Literal v l) ≡ shape_step p (Expr-F.Literal v l)
shape-Literal p v l = ap (shape p) (sym (e.rolls-Literal v l)) ∙ fold-roll-Expr Shape (shape_step p) (Expr-F.Literal v l)

pub words-Null : (l : ℕ) → expr_words (e.Null l) ≡ expr_step (Expr-F.Null l)
words-Null l = ap expr_words (sym (e.rolls-Null l)) ∙ fold-roll-Expr (List Word) expr_step (Expr-F.Null l)

pub shape-Null : (p : Place) (l : ℕ) → shape p (e.Null l) ≡ shape_step p (Expr-F.Null l)
shape-Null p l = ap (shape p) (sym (e.rolls-Null l)) ∙ fold-roll-Expr Shape (shape_step p) (Expr-F.Null l)

pub words-This : (l : ℕ) → expr_words (e.This l) ≡ expr_step (Expr-F.This l)
words-This l = ap expr_words (sym (e.rolls-This l)) ∙ fold-roll-Expr (List Word) expr_step (Expr-F.This l)

pub shape-This : (p : Place) (l : ℕ) → shape p (e.This l) ≡ shape_step p (Expr-F.This l)
shape-This p l = ap (shape p) (sym (e.rolls-This l)) ∙ fold-roll-Expr Shape (shape_step p) (Expr-F.This l)

pub words-Field : (n : Name) → expr_words (e.Field n) ≡ expr_step (Expr-F.Field n)
words-Field n = ap expr_words (sym (e.rolls-Field n)) ∙ fold-roll-Expr (List Word) expr_step (Expr-F.Field n)

pub shape-Field : (p : Place) (n : Name) → shape p (e.Field n) ≡ shape_step p (Expr-F.Field n)
shape-Field p n = ap (shape p) (sym (e.rolls-Field n)) ∙ fold-roll-Expr Shape (shape_step p) (Expr-F.Field n)

pub words-Variable : (n : Name) → expr_words (e.Variable n) ≡ expr_step (Expr-F.Variable n)
words-Variable n = ap expr_words (sym (e.rolls-Variable n)) ∙ fold-roll-Expr (List Word) expr_step (Expr-F.Variable n)

pub shape-Variable : (p : Place) (n : Name) → shape p (e.Variable n) ≡ shape_step p (Expr-F.Variable n)
shape-Variable p n = ap (shape p) (sym (e.rolls-Variable n)) ∙ fold-roll-Expr Shape (shape_step p) (Expr-F.Variable n)

pub words-New : (n : Name) (a : Option At) → expr_words (e.New n a) ≡ expr_step (Expr-F.New n a)
words-New n a = ap expr_words (sym (e.rolls-New n a)) ∙ fold-roll-Expr (List Word) expr_step (Expr-F.New n a)

pub shape-New : (p : Place) (n : Name) (a : Option At) → shape p (e.New n a) ≡ shape_step p (Expr-F.New n a)
shape-New p n a = ap (shape p) (sym (e.rolls-New n a)) ∙ fold-roll-Expr Shape (shape_step p) (Expr-F.New n a)

pub words-Parens : (x : Expr) (l : ℕ) → expr_words (e.Parens x l) ≡ expr_step (Expr-F.Parens (expr_words x) l)
words-Parens x l = ap expr_words (sym (e.rolls-Parens x l)) ∙ fold-roll-Expr (List Word) expr_step (Expr-F.Parens x l)

pub shape-Parens : (p : Place) (x : Expr) (l : ℕ) → shape p (e.Parens x l) ≡ shape_step p (Expr-F.Parens (shape p x) l)
shape-Parens p x l = ap (shape p) (sym (e.rolls-Parens x l)) ∙ fold-roll-Expr Shape (shape_step p) (Expr-F.Parens x l)

pub words-Negate : (x : Expr) (l : ℕ) → expr_words (e.Negate x l) ≡ expr_step (Expr-F.Negate (expr_words x) l)
words-Negate x l = ap expr_words (sym (e.rolls-Negate x l)) ∙ fold-roll-Expr (List Word) expr_step (Expr-F.Negate x l)

pub shape-Negate : (p : Place) (x : Expr) (l : ℕ) → shape p (e.Negate x l) ≡ shape_step p (Expr-F.Negate (shape p x) l)
shape-Negate p x l = ap (shape p) (sym (e.rolls-Negate x l)) ∙ fold-roll-Expr Shape (shape_step p) (Expr-F.Negate x l)

pub words-Binary : (o : Operator) (x y : Expr) (l : ℕ) → expr_words (e.Binary o x y l) ≡ expr_step (Expr-F.Binary o (expr_words x) (expr_words y) l)
words-Binary o x y l = ap expr_words (sym (e.rolls-Binary o x y l)) ∙ fold-roll-Expr (List Word) expr_step (Expr-F.Binary o x y l)

pub shape-Binary : (p : Place) (o : Operator) (x y : Expr) (l : ℕ) → shape p (e.Binary o x y l) ≡ shape_step p (Expr-F.Binary o (shape p x) (shape p y) l)
shape-Binary p o x y l = ap (shape p) (sym (e.rolls-Binary o x y l)) ∙ fold-roll-Expr Shape (shape_step p) (Expr-F.Binary o x y l)

pub words-Call : (x : Expr) (n : Name) (xs : List Expr) → expr_words (e.Call x n xs) ≡ expr_step (Expr-F.Call (expr_words x) n (map (expr_words) xs))
words-Call x n xs = ap expr_words (sym (e.rolls-Call x n xs)) ∙ fold-roll-Expr (List Word) expr_step (Expr-F.Call x n xs)

pub shape-Call : (p : Place) (x : Expr) (n : Name) (xs : List Expr) → shape p (e.Call x n xs) ≡ shape_step p (Expr-F.Call (shape p x) n (map (shape p) xs))
shape-Call p x n xs = ap (shape p) (sym (e.rolls-Call x n xs)) ∙ fold-roll-Expr Shape (shape_step p) (Expr-F.Call x n xs)

pub words-Var : (t : TypeName) (n : Name) (l : ℕ) (x : Expr) → stmt_words (s.Var t n l x) ≡ stmt_step (Stmt-F.Var t n l x)
words-Var t n l x = ap stmt_words (sym (s.rolls-Var t n l x)) ∙ fold-roll-Stmt (List Word) stmt_step (Stmt-F.Var t n l x)

pub form-Var : (p : Place) (t : TypeName) (n : Name) (l : ℕ) (x : Expr) → form p (s.Var t n l x) ≡ form_step p (Stmt-F.Var t n l x)
form-Var p t n l x = ap (form p) (sym (s.rolls-Var t n l x)) ∙ fold-roll-Stmt Form (form_step p) (Stmt-F.Var t n l x)

pub words-Assign : (n : Name) (l : ℕ) (x : Expr) → stmt_words (s.Assign n l x) ≡ stmt_step (Stmt-F.Assign n l x)
words-Assign n l x = ap stmt_words (sym (s.rolls-Assign n l x)) ∙ fold-roll-Stmt (List Word) stmt_step (Stmt-F.Assign n l x)

pub form-Assign : (p : Place) (n : Name) (l : ℕ) (x : Expr) → form p (s.Assign n l x) ≡ form_step p (Stmt-F.Assign n l x)
form-Assign p n l x = ap (form p) (sym (s.rolls-Assign n l x)) ∙ fold-roll-Stmt Form (form_step p) (Stmt-F.Assign n l x)

pub words-FieldAssign : (n : Name) (l : ℕ) (x : Expr) → stmt_words (s.FieldAssign n l x) ≡ stmt_step (Stmt-F.FieldAssign n l x)
words-FieldAssign n l x = ap stmt_words (sym (s.rolls-FieldAssign n l x)) ∙ fold-roll-Stmt (List Word) stmt_step (Stmt-F.FieldAssign n l x)

pub form-FieldAssign : (p : Place) (n : Name) (l : ℕ) (x : Expr) → form p (s.FieldAssign n l x) ≡ form_step p (Stmt-F.FieldAssign n l x)
form-FieldAssign p n l x = ap (form p) (sym (s.rolls-FieldAssign n l x)) ∙ fold-roll-Stmt Form (form_step p) (Stmt-F.FieldAssign n l x)

pub words-Return : (x : Expr) → stmt_words (s.Return x) ≡ stmt_step (Stmt-F.Return x)
words-Return x = ap stmt_words (sym (s.rolls-Return x)) ∙ fold-roll-Stmt (List Word) stmt_step (Stmt-F.Return x)

pub form-Return : (p : Place) (x : Expr) → form p (s.Return x) ≡ form_step p (Stmt-F.Return x)
form-Return p x = ap (form p) (sym (s.rolls-Return x)) ∙ fold-roll-Stmt Form (form_step p) (Stmt-F.Return x)

pub words-If : (x : Expr) (b : List Stmt) → stmt_words (s.If x b) ≡ stmt_step (Stmt-F.If x (map (stmt_words) b))
words-If x b = ap stmt_words (sym (s.rolls-If x b)) ∙ fold-roll-Stmt (List Word) stmt_step (Stmt-F.If x b)

pub form-If : (p : Place) (x : Expr) (b : List Stmt) → form p (s.If x b) ≡ form_step p (Stmt-F.If x (map (form p) b))
form-If p x b = ap (form p) (sym (s.rolls-If x b)) ∙ fold-roll-Stmt Form (form_step p) (Stmt-F.If x b)

pub words-IfElse : (x : Expr) (b c : List Stmt) → stmt_words (s.IfElse x b c) ≡ stmt_step (Stmt-F.IfElse x (map (stmt_words) b) (map (stmt_words) c))
words-IfElse x b c = ap stmt_words (sym (s.rolls-IfElse x b c)) ∙ fold-roll-Stmt (List Word) stmt_step (Stmt-F.IfElse x b c)

pub form-IfElse : (p : Place) (x : Expr) (b c : List Stmt) → form p (s.IfElse x b c) ≡ form_step p (Stmt-F.IfElse x (map (form p) b) (map (form p) c))
form-IfElse p x b c = ap (form p) (sym (s.rolls-IfElse x b c)) ∙ fold-roll-Stmt Form (form_step p) (Stmt-F.IfElse x b c)

pub words-While : (x : Expr) (b : List Stmt) → stmt_words (s.While x b) ≡ stmt_step (Stmt-F.While x (map (stmt_words) b))
words-While x b = ap stmt_words (sym (s.rolls-While x b)) ∙ fold-roll-Stmt (List Word) stmt_step (Stmt-F.While x b)

pub form-While : (p : Place) (x : Expr) (b : List Stmt) → form p (s.While x b) ≡ form_step p (Stmt-F.While x (map (form p) b))
form-While p x b = ap (form p) (sym (s.rolls-While x b)) ∙ fold-roll-Stmt Form (form_step p) (Stmt-F.While x b)

pub words-Print : (x : Expr) → stmt_words (s.Print x) ≡ stmt_step (Stmt-F.Print x)
words-Print x = ap stmt_words (sym (s.rolls-Print x)) ∙ fold-roll-Stmt (List Word) stmt_step (Stmt-F.Print x)

pub form-Print : (p : Place) (x : Expr) → form p (s.Print x) ≡ form_step p (Stmt-F.Print x)
form-Print p x = ap (form p) (sym (s.rolls-Print x)) ∙ fold-roll-Stmt Form (form_step p) (Stmt-F.Print x)

pub words-Evaluate : (x : Expr) → stmt_words (s.Evaluate x) ≡ stmt_step (Stmt-F.Evaluate x)
words-Evaluate x = ap stmt_words (sym (s.rolls-Evaluate x)) ∙ fold-roll-Stmt (List Word) stmt_step (Stmt-F.Evaluate x)

pub form-Evaluate : (p : Place) (x : Expr) → form p (s.Evaluate x) ≡ form_step p (Stmt-F.Evaluate x)
form-Evaluate p x = ap (form p) (sym (s.rolls-Evaluate x)) ∙ fold-roll-Stmt Form (form_step p) (Stmt-F.Evaluate x)
