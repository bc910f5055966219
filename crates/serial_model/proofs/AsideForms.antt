-- Trees on line 1, by their form; and that two trees are the same where their parts are.
use Rattle.std.proofs.Common.{◌≡◌, Bool, true, false, IsTrue, ℕ, List, map, ap, sym, ◌∙◌}
use Rattle.class_defs.specs.LinesAside.{expr_on_line_1, expr_step_on_line_1, name_on_line_1, stmt_on_line_1, stmt_step_on_line_1}
use Rattle.class_defs.specs.UpgradeLinesAside.{tf_on_line_1, tf_step_on_line_1}
use Rattle.class_defs.specs.declared.expressions.Expr.{Expr, out-Expr}
use Rattle.class_defs.specs.declared.expressions.Expr.TheFolds.{fold-roll-Expr}
use Rattle.class_defs.specs.declared.expressions.Expr.TheOpen.{Expr-F}
use Rattle.class_defs.specs.declared.expressions.Expr.TheVariants as e
use Rattle.class_defs.specs.declared.expressions.Expr.TheViews.{out-roll-Expr}
use Rattle.class_defs.specs.declared.expressions.Name.{Name}
use Rattle.class_defs.specs.declared.expressions.Operator.{Operator}
use Rattle.class_defs.specs.declared.statements.Stmt.{Stmt, out-Stmt}
use Rattle.class_defs.specs.declared.statements.Stmt.TheFolds.{fold-roll-Stmt}
use Rattle.class_defs.specs.declared.statements.Stmt.TheOpen.{Stmt-F}
use Rattle.class_defs.specs.declared.statements.Stmt.TheVariants as s
use Rattle.class_defs.specs.declared.statements.Stmt.TheViews.{out-roll-Stmt}
use Rattle.class_defs.specs.declared.upgrades.Tf.{Tf, out-Tf}
use Rattle.class_defs.specs.declared.upgrades.Tf.TheFolds.{fold-roll-Tf}
use Rattle.class_defs.specs.declared.upgrades.Tf.TheOpen.{Tf-F}
use Rattle.class_defs.specs.declared.upgrades.Tf.TheVariants as tf
use Rattle.class_defs.specs.declared.upgrades.Tf.TheViews.{out-roll-Tf}

-- ---- answers of tests that stand one behind the other

-- the answer tells whether something holds
abbrev pub Tells : Bool → Type 0 → Type 0
Tells b E = (IsTrue b → E) × (E → IsTrue b)

pub told_false : (b : Bool) (E : Type 0) → b ≡ false → Tells b E → E → ⊥
told_false b E is t x = let is_true : b ≡ true = t.1 x in cc

-- a test wasn't passed that stands for a part
pub refused : (A E : Type 0) (r : Bool) → Tells r A → r ≡ false → (E → A) → Tells false E
refused A E r t is part = (λ h. cc, λ x. absurd (told_false r A is t (part x)))

-- the first was passed, and the second tells
pub second : (A B E : Type 0) (r : Bool) → A → Tells r B → (A → B → E) → (E → A × B) → Tells r E
second A B E r a told make parts = (λ h. make a (told.0 h), λ x. told.1 (parts x).1)

-- the first two were passed, and the third tells
pub third : (A B C E : Type 0) (r : Bool) → A → B → Tells r C → (A → B → C → E) → (E → A × B × C) → Tells r E
third A B C E r a b told make parts = (λ h. make a b (told.0 h), λ x. told.1 (parts x).2)

-- the same of other trees, which are these
pub of_these : {X Y : Type 0} (f : X → Y) (x y a b : X) (r : Bool) → x ≡ a → y ≡ b → Tells r (f a ≡ f b) → Tells r (f x ≡ f y)
of_these f x y a b r e d t = (λ h. ap f e ∙ t.0 h ∙ sym (ap f d), λ h. t.1 (sym (ap f e) ∙ h ∙ ap f d))

-- ---- expressions of new fields

tf_parens_is : (a : Tf) (k : ℕ) → tf_on_line_1 (tf.Parens a k) ≡ tf.Parens (tf_on_line_1 a) 1
tf_parens_is a k = ap tf_on_line_1 (sym (tf.rolls-Parens a k)) ∙ fold-roll-Tf Tf tf_step_on_line_1 (Tf-F.Parens a k)

tf_parens_out : (a : Tf) (k : ℕ) → out-Tf (tf.Parens a k) ≡ Tf-F.Parens a k
tf_parens_out a k = ap out-Tf (sym (tf.rolls-Parens a k)) ∙ out-roll-Tf (Tf-F.Parens a k)

pub tf_parens : (a : Tf) (k : ℕ) (a2 : Tf) (k2 : ℕ)
    → ((tf_on_line_1 a ≡ tf_on_line_1 a2) → tf_on_line_1 (tf.Parens a k) ≡ tf_on_line_1 (tf.Parens a2 k2))
    × (tf_on_line_1 (tf.Parens a k) ≡ tf_on_line_1 (tf.Parens a2 k2) → tf_on_line_1 a ≡ tf_on_line_1 a2)
tf_parens a k a2 k2 = (
  λ h0. tf_parens_is a k ∙ ap (λ (z : Tf). tf.Parens z 1) h0 ∙ sym (tf_parens_is a2 k2),
  λ h.
      let d : Tf-F.Parens (tf_on_line_1 a) 1 ≡ Tf-F.Parens (tf_on_line_1 a2) 1 =
      sym (tf_parens_out (tf_on_line_1 a) 1) ∙ ap out-Tf (sym (tf_parens_is a k) ∙ h ∙ tf_parens_is a2 k2) ∙ tf_parens_out (tf_on_line_1 a2) 1 in
      cc,
)

tf_negate_is : (a : Tf) (k : ℕ) → tf_on_line_1 (tf.Negate a k) ≡ tf.Negate (tf_on_line_1 a) 1
tf_negate_is a k = ap tf_on_line_1 (sym (tf.rolls-Negate a k)) ∙ fold-roll-Tf Tf tf_step_on_line_1 (Tf-F.Negate a k)

tf_negate_out : (a : Tf) (k : ℕ) → out-Tf (tf.Negate a k) ≡ Tf-F.Negate a k
tf_negate_out a k = ap out-Tf (sym (tf.rolls-Negate a k)) ∙ out-roll-Tf (Tf-F.Negate a k)

pub tf_negate : (a : Tf) (k : ℕ) (a2 : Tf) (k2 : ℕ)
    → ((tf_on_line_1 a ≡ tf_on_line_1 a2) → tf_on_line_1 (tf.Negate a k) ≡ tf_on_line_1 (tf.Negate a2 k2))
    × (tf_on_line_1 (tf.Negate a k) ≡ tf_on_line_1 (tf.Negate a2 k2) → tf_on_line_1 a ≡ tf_on_line_1 a2)
tf_negate a k a2 k2 = (
  λ h0. tf_negate_is a k ∙ ap (λ (z : Tf). tf.Negate z 1) h0 ∙ sym (tf_negate_is a2 k2),
  λ h.
      let d : Tf-F.Negate (tf_on_line_1 a) 1 ≡ Tf-F.Negate (tf_on_line_1 a2) 1 =
      sym (tf_negate_out (tf_on_line_1 a) 1) ∙ ap out-Tf (sym (tf_negate_is a k) ∙ h ∙ tf_negate_is a2 k2) ∙ tf_negate_out (tf_on_line_1 a2) 1 in
      cc,
)

tf_binary_is : (o : Operator) (a : Tf) (b : Tf) (k : ℕ) → tf_on_line_1 (tf.Binary o a b k) ≡ tf.Binary o (tf_on_line_1 a) (tf_on_line_1 b) 1
tf_binary_is o a b k = ap tf_on_line_1 (sym (tf.rolls-Binary o a b k)) ∙ fold-roll-Tf Tf tf_step_on_line_1 (Tf-F.Binary o a b k)

tf_binary_out : (o : Operator) (a : Tf) (b : Tf) (k : ℕ) → out-Tf (tf.Binary o a b k) ≡ Tf-F.Binary o a b k
tf_binary_out o a b k = ap out-Tf (sym (tf.rolls-Binary o a b k)) ∙ out-roll-Tf (Tf-F.Binary o a b k)

pub tf_binary : (o : Operator) (a : Tf) (b : Tf) (k : ℕ) (o2 : Operator) (a2 : Tf) (b2 : Tf) (k2 : ℕ)
    → ((o ≡ o2) → (tf_on_line_1 a ≡ tf_on_line_1 a2) → (tf_on_line_1 b ≡ tf_on_line_1 b2) → tf_on_line_1 (tf.Binary o a b k) ≡ tf_on_line_1 (tf.Binary o2 a2 b2 k2))
    × (tf_on_line_1 (tf.Binary o a b k) ≡ tf_on_line_1 (tf.Binary o2 a2 b2 k2) → (o ≡ o2) × (tf_on_line_1 a ≡ tf_on_line_1 a2) × (tf_on_line_1 b ≡ tf_on_line_1 b2))
tf_binary o a b k o2 a2 b2 k2 = (
  λ h0 h1 h2. tf_binary_is o a b k ∙ ap (λ (z : Operator). tf.Binary z (tf_on_line_1 a) (tf_on_line_1 b) 1) h0 ∙ ap (λ (z : Tf). tf.Binary o2 z (tf_on_line_1 b) 1) h1 ∙ ap (λ (z : Tf). tf.Binary o2 (tf_on_line_1 a2) z 1) h2 ∙ sym (tf_binary_is o2 a2 b2 k2),
  λ h.
      let d : Tf-F.Binary o (tf_on_line_1 a) (tf_on_line_1 b) 1 ≡ Tf-F.Binary o2 (tf_on_line_1 a2) (tf_on_line_1 b2) 1 =
      sym (tf_binary_out o (tf_on_line_1 a) (tf_on_line_1 b) 1) ∙ ap out-Tf (sym (tf_binary_is o a b k) ∙ h ∙ tf_binary_is o2 a2 b2 k2) ∙ tf_binary_out o2 (tf_on_line_1 a2) (tf_on_line_1 b2) 1 in
      (cc, cc, cc),
)

-- ---- expressions

expr_parens_is : (a : Expr) (k : ℕ) → expr_on_line_1 (e.Parens a k) ≡ e.Parens (expr_on_line_1 a) 1
expr_parens_is a k = ap expr_on_line_1 (sym (e.rolls-Parens a k)) ∙ fold-roll-Expr Expr expr_step_on_line_1 (Expr-F.Parens a k)

expr_parens_out : (a : Expr) (k : ℕ) → out-Expr (e.Parens a k) ≡ Expr-F.Parens a k
expr_parens_out a k = ap out-Expr (sym (e.rolls-Parens a k)) ∙ out-roll-Expr (Expr-F.Parens a k)

pub expr_parens : (a : Expr) (k : ℕ) (a2 : Expr) (k2 : ℕ)
    → ((expr_on_line_1 a ≡ expr_on_line_1 a2) → expr_on_line_1 (e.Parens a k) ≡ expr_on_line_1 (e.Parens a2 k2))
    × (expr_on_line_1 (e.Parens a k) ≡ expr_on_line_1 (e.Parens a2 k2) → expr_on_line_1 a ≡ expr_on_line_1 a2)
expr_parens a k a2 k2 = (
  λ h0. expr_parens_is a k ∙ ap (λ (z : Expr). e.Parens z 1) h0 ∙ sym (expr_parens_is a2 k2),
  λ h.
      let d : Expr-F.Parens (expr_on_line_1 a) 1 ≡ Expr-F.Parens (expr_on_line_1 a2) 1 =
      sym (expr_parens_out (expr_on_line_1 a) 1) ∙ ap out-Expr (sym (expr_parens_is a k) ∙ h ∙ expr_parens_is a2 k2) ∙ expr_parens_out (expr_on_line_1 a2) 1 in
      cc,
)

expr_negate_is : (a : Expr) (k : ℕ) → expr_on_line_1 (e.Negate a k) ≡ e.Negate (expr_on_line_1 a) 1
expr_negate_is a k = ap expr_on_line_1 (sym (e.rolls-Negate a k)) ∙ fold-roll-Expr Expr expr_step_on_line_1 (Expr-F.Negate a k)

expr_negate_out : (a : Expr) (k : ℕ) → out-Expr (e.Negate a k) ≡ Expr-F.Negate a k
expr_negate_out a k = ap out-Expr (sym (e.rolls-Negate a k)) ∙ out-roll-Expr (Expr-F.Negate a k)

pub expr_negate : (a : Expr) (k : ℕ) (a2 : Expr) (k2 : ℕ)
    → ((expr_on_line_1 a ≡ expr_on_line_1 a2) → expr_on_line_1 (e.Negate a k) ≡ expr_on_line_1 (e.Negate a2 k2))
    × (expr_on_line_1 (e.Negate a k) ≡ expr_on_line_1 (e.Negate a2 k2) → expr_on_line_1 a ≡ expr_on_line_1 a2)
expr_negate a k a2 k2 = (
  λ h0. expr_negate_is a k ∙ ap (λ (z : Expr). e.Negate z 1) h0 ∙ sym (expr_negate_is a2 k2),
  λ h.
      let d : Expr-F.Negate (expr_on_line_1 a) 1 ≡ Expr-F.Negate (expr_on_line_1 a2) 1 =
      sym (expr_negate_out (expr_on_line_1 a) 1) ∙ ap out-Expr (sym (expr_negate_is a k) ∙ h ∙ expr_negate_is a2 k2) ∙ expr_negate_out (expr_on_line_1 a2) 1 in
      cc,
)

expr_binary_is : (o : Operator) (a : Expr) (b : Expr) (k : ℕ) → expr_on_line_1 (e.Binary o a b k) ≡ e.Binary o (expr_on_line_1 a) (expr_on_line_1 b) 1
expr_binary_is o a b k = ap expr_on_line_1 (sym (e.rolls-Binary o a b k)) ∙ fold-roll-Expr Expr expr_step_on_line_1 (Expr-F.Binary o a b k)

expr_binary_out : (o : Operator) (a : Expr) (b : Expr) (k : ℕ) → out-Expr (e.Binary o a b k) ≡ Expr-F.Binary o a b k
expr_binary_out o a b k = ap out-Expr (sym (e.rolls-Binary o a b k)) ∙ out-roll-Expr (Expr-F.Binary o a b k)

pub expr_binary : (o : Operator) (a : Expr) (b : Expr) (k : ℕ) (o2 : Operator) (a2 : Expr) (b2 : Expr) (k2 : ℕ)
    → ((o ≡ o2) → (expr_on_line_1 a ≡ expr_on_line_1 a2) → (expr_on_line_1 b ≡ expr_on_line_1 b2) → expr_on_line_1 (e.Binary o a b k) ≡ expr_on_line_1 (e.Binary o2 a2 b2 k2))
    × (expr_on_line_1 (e.Binary o a b k) ≡ expr_on_line_1 (e.Binary o2 a2 b2 k2) → (o ≡ o2) × (expr_on_line_1 a ≡ expr_on_line_1 a2) × (expr_on_line_1 b ≡ expr_on_line_1 b2))
expr_binary o a b k o2 a2 b2 k2 = (
  λ h0 h1 h2. expr_binary_is o a b k ∙ ap (λ (z : Operator). e.Binary z (expr_on_line_1 a) (expr_on_line_1 b) 1) h0 ∙ ap (λ (z : Expr). e.Binary o2 z (expr_on_line_1 b) 1) h1 ∙ ap (λ (z : Expr). e.Binary o2 (expr_on_line_1 a2) z 1) h2 ∙ sym (expr_binary_is o2 a2 b2 k2),
  λ h.
      let d : Expr-F.Binary o (expr_on_line_1 a) (expr_on_line_1 b) 1 ≡ Expr-F.Binary o2 (expr_on_line_1 a2) (expr_on_line_1 b2) 1 =
      sym (expr_binary_out o (expr_on_line_1 a) (expr_on_line_1 b) 1) ∙ ap out-Expr (sym (expr_binary_is o a b k) ∙ h ∙ expr_binary_is o2 a2 b2 k2) ∙ expr_binary_out o2 (expr_on_line_1 a2) (expr_on_line_1 b2) 1 in
      (cc, cc, cc),
)

expr_call_is : (r : Expr) (n : Name) (xs : List Expr) → expr_on_line_1 (e.Call r n xs) ≡ e.Call (expr_on_line_1 r) (name_on_line_1 n) (map expr_on_line_1 xs)
expr_call_is r n xs = ap expr_on_line_1 (sym (e.rolls-Call r n xs)) ∙ fold-roll-Expr Expr expr_step_on_line_1 (Expr-F.Call r n xs)

expr_call_out : (r : Expr) (n : Name) (xs : List Expr) → out-Expr (e.Call r n xs) ≡ Expr-F.Call r n xs
expr_call_out r n xs = ap out-Expr (sym (e.rolls-Call r n xs)) ∙ out-roll-Expr (Expr-F.Call r n xs)

pub expr_call : (r : Expr) (n : Name) (xs : List Expr) (r2 : Expr) (n2 : Name) (xs2 : List Expr)
    → ((expr_on_line_1 r ≡ expr_on_line_1 r2) → (name_on_line_1 n ≡ name_on_line_1 n2) → (map expr_on_line_1 xs ≡ map expr_on_line_1 xs2) → expr_on_line_1 (e.Call r n xs) ≡ expr_on_line_1 (e.Call r2 n2 xs2))
    × (expr_on_line_1 (e.Call r n xs) ≡ expr_on_line_1 (e.Call r2 n2 xs2) → (expr_on_line_1 r ≡ expr_on_line_1 r2) × (name_on_line_1 n ≡ name_on_line_1 n2) × (map expr_on_line_1 xs ≡ map expr_on_line_1 xs2))
expr_call r n xs r2 n2 xs2 = (
  λ h0 h1 h2. expr_call_is r n xs ∙ ap (λ (z : Expr). e.Call z (name_on_line_1 n) (map expr_on_line_1 xs)) h0 ∙ ap (λ (z : Name). e.Call (expr_on_line_1 r2) z (map expr_on_line_1 xs)) h1 ∙ ap (λ (z : List Expr). e.Call (expr_on_line_1 r2) (name_on_line_1 n2) z) h2 ∙ sym (expr_call_is r2 n2 xs2),
  λ h.
      let d : Expr-F.Call (expr_on_line_1 r) (name_on_line_1 n) (map expr_on_line_1 xs) ≡ Expr-F.Call (expr_on_line_1 r2) (name_on_line_1 n2) (map expr_on_line_1 xs2) =
      sym (expr_call_out (expr_on_line_1 r) (name_on_line_1 n) (map expr_on_line_1 xs)) ∙ ap out-Expr (sym (expr_call_is r n xs) ∙ h ∙ expr_call_is r2 n2 xs2) ∙ expr_call_out (expr_on_line_1 r2) (name_on_line_1 n2) (map expr_on_line_1 xs2) in
      (cc, cc, cc),
)

-- ---- statements

stmt_if_is : (c : Expr) (b : List Stmt) → stmt_on_line_1 (s.If c b) ≡ s.If (expr_on_line_1 c) (map stmt_on_line_1 b)
stmt_if_is c b = ap stmt_on_line_1 (sym (s.rolls-If c b)) ∙ fold-roll-Stmt Stmt stmt_step_on_line_1 (Stmt-F.If c b)

stmt_if_out : (c : Expr) (b : List Stmt) → out-Stmt (s.If c b) ≡ Stmt-F.If c b
stmt_if_out c b = ap out-Stmt (sym (s.rolls-If c b)) ∙ out-roll-Stmt (Stmt-F.If c b)

pub stmt_if : (c : Expr) (b : List Stmt) (c2 : Expr) (b2 : List Stmt)
    → ((expr_on_line_1 c ≡ expr_on_line_1 c2) → (map stmt_on_line_1 b ≡ map stmt_on_line_1 b2) → stmt_on_line_1 (s.If c b) ≡ stmt_on_line_1 (s.If c2 b2))
    × (stmt_on_line_1 (s.If c b) ≡ stmt_on_line_1 (s.If c2 b2) → (expr_on_line_1 c ≡ expr_on_line_1 c2) × (map stmt_on_line_1 b ≡ map stmt_on_line_1 b2))
stmt_if c b c2 b2 = (
  λ h0 h1. stmt_if_is c b ∙ ap (λ (z : Expr). s.If z (map stmt_on_line_1 b)) h0 ∙ ap (λ (z : List Stmt). s.If (expr_on_line_1 c2) z) h1 ∙ sym (stmt_if_is c2 b2),
  λ h.
      let d : Stmt-F.If (expr_on_line_1 c) (map stmt_on_line_1 b) ≡ Stmt-F.If (expr_on_line_1 c2) (map stmt_on_line_1 b2) =
      sym (stmt_if_out (expr_on_line_1 c) (map stmt_on_line_1 b)) ∙ ap out-Stmt (sym (stmt_if_is c b) ∙ h ∙ stmt_if_is c2 b2) ∙ stmt_if_out (expr_on_line_1 c2) (map stmt_on_line_1 b2) in
      (cc, cc),
)

stmt_if_else_is : (c : Expr) (b : List Stmt) (d : List Stmt) → stmt_on_line_1 (s.IfElse c b d) ≡ s.IfElse (expr_on_line_1 c) (map stmt_on_line_1 b) (map stmt_on_line_1 d)
stmt_if_else_is c b d = ap stmt_on_line_1 (sym (s.rolls-IfElse c b d)) ∙ fold-roll-Stmt Stmt stmt_step_on_line_1 (Stmt-F.IfElse c b d)

stmt_if_else_out : (c : Expr) (b : List Stmt) (d : List Stmt) → out-Stmt (s.IfElse c b d) ≡ Stmt-F.IfElse c b d
stmt_if_else_out c b d = ap out-Stmt (sym (s.rolls-IfElse c b d)) ∙ out-roll-Stmt (Stmt-F.IfElse c b d)

pub stmt_if_else : (c : Expr) (b : List Stmt) (d : List Stmt) (c2 : Expr) (b2 : List Stmt) (d2 : List Stmt)
    → ((expr_on_line_1 c ≡ expr_on_line_1 c2) → (map stmt_on_line_1 b ≡ map stmt_on_line_1 b2) → (map stmt_on_line_1 d ≡ map stmt_on_line_1 d2) → stmt_on_line_1 (s.IfElse c b d) ≡ stmt_on_line_1 (s.IfElse c2 b2 d2))
    × (stmt_on_line_1 (s.IfElse c b d) ≡ stmt_on_line_1 (s.IfElse c2 b2 d2) → (expr_on_line_1 c ≡ expr_on_line_1 c2) × (map stmt_on_line_1 b ≡ map stmt_on_line_1 b2) × (map stmt_on_line_1 d ≡ map stmt_on_line_1 d2))
stmt_if_else c b d c2 b2 d2 = (
  λ h0 h1 h2. stmt_if_else_is c b d ∙ ap (λ (z : Expr). s.IfElse z (map stmt_on_line_1 b) (map stmt_on_line_1 d)) h0 ∙ ap (λ (z : List Stmt). s.IfElse (expr_on_line_1 c2) z (map stmt_on_line_1 d)) h1 ∙ ap (λ (z : List Stmt). s.IfElse (expr_on_line_1 c2) (map stmt_on_line_1 b2) z) h2 ∙ sym (stmt_if_else_is c2 b2 d2),
  λ h.
      let d : Stmt-F.IfElse (expr_on_line_1 c) (map stmt_on_line_1 b) (map stmt_on_line_1 d) ≡ Stmt-F.IfElse (expr_on_line_1 c2) (map stmt_on_line_1 b2) (map stmt_on_line_1 d2) =
      sym (stmt_if_else_out (expr_on_line_1 c) (map stmt_on_line_1 b) (map stmt_on_line_1 d)) ∙ ap out-Stmt (sym (stmt_if_else_is c b d) ∙ h ∙ stmt_if_else_is c2 b2 d2) ∙ stmt_if_else_out (expr_on_line_1 c2) (map stmt_on_line_1 b2) (map stmt_on_line_1 d2) in
      (cc, cc, cc),
)

stmt_while_is : (c : Expr) (b : List Stmt) → stmt_on_line_1 (s.While c b) ≡ s.While (expr_on_line_1 c) (map stmt_on_line_1 b)
stmt_while_is c b = ap stmt_on_line_1 (sym (s.rolls-While c b)) ∙ fold-roll-Stmt Stmt stmt_step_on_line_1 (Stmt-F.While c b)

stmt_while_out : (c : Expr) (b : List Stmt) → out-Stmt (s.While c b) ≡ Stmt-F.While c b
stmt_while_out c b = ap out-Stmt (sym (s.rolls-While c b)) ∙ out-roll-Stmt (Stmt-F.While c b)

pub stmt_while : (c : Expr) (b : List Stmt) (c2 : Expr) (b2 : List Stmt)
    → ((expr_on_line_1 c ≡ expr_on_line_1 c2) → (map stmt_on_line_1 b ≡ map stmt_on_line_1 b2) → stmt_on_line_1 (s.While c b) ≡ stmt_on_line_1 (s.While c2 b2))
    × (stmt_on_line_1 (s.While c b) ≡ stmt_on_line_1 (s.While c2 b2) → (expr_on_line_1 c ≡ expr_on_line_1 c2) × (map stmt_on_line_1 b ≡ map stmt_on_line_1 b2))
stmt_while c b c2 b2 = (
  λ h0 h1. stmt_while_is c b ∙ ap (λ (z : Expr). s.While z (map stmt_on_line_1 b)) h0 ∙ ap (λ (z : List Stmt). s.While (expr_on_line_1 c2) z) h1 ∙ sym (stmt_while_is c2 b2),
  λ h.
      let d : Stmt-F.While (expr_on_line_1 c) (map stmt_on_line_1 b) ≡ Stmt-F.While (expr_on_line_1 c2) (map stmt_on_line_1 b2) =
      sym (stmt_while_out (expr_on_line_1 c) (map stmt_on_line_1 b)) ∙ ap out-Stmt (sym (stmt_while_is c b) ∙ h ∙ stmt_while_is c2 b2) ∙ stmt_while_out (expr_on_line_1 c2) (map stmt_on_line_1 b2) in
      (cc, cc),
)
