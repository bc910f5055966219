-- The words of a text of the grammar open and close their braces in turn.
use Rattle.std.proofs.Common.{◌≡◌, ℕ, zero, suc, Option, Some, None, List, [], ◌∷◌, ◌++◌, map, refl, sym, ap, ◌∙◌, subst, append_assoc}
use Rattle.std.specs.Prelude.{codes, if◌then◌else◌}
use Rattle.std.specs.List.{AllByRecursion}
use Rattle.std.specs.Str.{bytes_eq}
use Rattle.class_defs.specs.declared.classes.Class.{Class}
use Rattle.class_defs.specs.declared.classes.Field.{Field}
use Rattle.class_defs.specs.declared.classes.Method.{Method}
use Rattle.class_defs.specs.declared.classes.Parameter.{Parameter}
use Rattle.class_defs.specs.declared.expressions.At.{At}
use Rattle.class_defs.specs.declared.expressions.Name.{Name}
use Rattle.class_defs.specs.declared.expressions.TypeName.{TypeName}
use Rattle.class_defs.specs.declared.expressions.TypeName.TheVariants as type_name
use Rattle.class_defs.specs.declared.expressions.Operator.{Operator}
use Rattle.class_defs.specs.declared.expressions.Operator.TheVariants as operators
use Rattle.class_defs.specs.declared.expressions.Expr.{Expr, map-Expr, roll-Expr}
use Rattle.class_defs.specs.declared.expressions.Expr.TheFolds.{fold-roll-Expr, ind-Expr}
use Rattle.class_defs.specs.declared.expressions.Expr.TheOpen.{Expr-F}
use Rattle.class_defs.specs.declared.literals.Literal.TheVariants as literal
use Rattle.class_defs.specs.declared.statements.Stmt.{Stmt, map-Stmt, roll-Stmt}
use Rattle.class_defs.specs.declared.statements.Stmt.TheFolds.{fold-roll-Stmt, ind-Stmt}
use Rattle.class_defs.specs.declared.statements.Stmt.TheOpen.{Stmt-F}
use Rattle.class_defs.specs.declared.upgrades.ClassUpgrade.{ClassUpgrade}
use Rattle.class_defs.specs.declared.upgrades.FieldUpgrade.{FieldUpgrade}
use Rattle.class_defs.specs.declared.upgrades.Tf.{Tf, map-Tf, roll-Tf}
use Rattle.class_defs.specs.declared.upgrades.Tf.TheFolds.{fold-roll-Tf, ind-Tf}
use Rattle.class_defs.specs.declared.upgrades.Tf.TheOpen.{Tf-F}
use Rattle.class_defs.specs.Spelling.{type_word, at_words, expr_step, expr_words, ended, condition_words, braces, stmt_step, stmt_words, block_words, field_words, parameter_words, method_words}
use Rattle.class_defs.specs.Words.{Word, Fixed, FixedAt, Named, Numbered, Quoted, name_word, symbol_of, behind_commas, with_commas, in_turn}
use Rattle.script_text.specs.declared.mark.Mark.{Mark}
use Rattle.script_text.specs.declared.mark.Mark.TheVariants as marks
use Rattle.script_text.specs.Marks.{keyword_mark}
use Rattle.upgrade_defs.specs.Spelling.{dot_name, tf_step, tf_words, field_upgrade_words, class_upgrade_words}

-- what a keyword or symbol is for the parts of a script
abbrev pub text_mark : List ℕ → Mark
text_mark text =
    if bytes_eq text (codes "{") then marks.Open
    else (if bytes_eq text (codes "}") then marks.Close
    else (if bytes_eq text (codes ";") then marks.End
    else keyword_mark text))

abbrev pub word_mark : Word → Mark
word_mark (Fixed text) = text_mark text
word_mark (FixedAt text line) = text_mark text
word_mark (Named text line) = marks.Other
word_mark (Numbered value line) = marks.Other
word_mark (Quoted text line) = marks.Other

-- how many braces are open behind a word; none may close that wasn't opened, and no part of a script may begin
abbrev pub turn : Mark → ℕ → Option ℕ
turn marks.Open d = Some (suc d)
turn marks.Close zero = None
turn marks.Close (suc d) = Some d
turn marks.End d = Some d
turn marks.Other d = Some d
turn marks.Setup d = None
turn marks.Client d = None
turn marks.Tx d = None
turn marks.Upgrade d = None
turn marks.Schedule d = None

abbrev pub onward : Option ℕ → (ℕ → Option ℕ) → Option ℕ
onward None next = None
onward (Some d) next = next d

abbrev pub walk : List Word → ℕ → Option ℕ
walk [] d = Some d
walk (word ∷ words) d = onward (turn (word_mark word) d) (λ k. walk words k)

abbrev pub Balanced : List Word → Type 0
Balanced words = (d : ℕ) → walk words d ≡ Some d

turn_both : (o : Option ℕ) (v w : List Word) → ((k : ℕ) → walk (v ++ w) k ≡ onward (walk v k) (λ j. walk w j))
    → onward o (λ k. walk (v ++ w) k) ≡ onward (onward o (λ k. walk v k)) (λ k. walk w k)
turn_both None v w both = refl
turn_both (Some k) v w both = both k

walk_both : (v w : List Word) (d : ℕ) → walk (v ++ w) d ≡ onward (walk v d) (λ k. walk w k)
walk_both [] w d = refl
walk_both (x ∷ v) w d = turn_both (turn (word_mark x) d) v w (λ k. walk_both v w k)

pub balanced_both : (v w : List Word) → Balanced v → Balanced w → Balanced (v ++ w)
balanced_both v w p q = λ d. walk_both v w d ∙ ap (λ (o : Option ℕ). onward o (λ k. walk w k)) (p d) ∙ q d

balanced_none : Balanced []
balanced_none = λ d. refl

-- between braces
pub balanced_braces : (w : List Word) → Balanced w → Balanced (Fixed (codes "{") ∷ (w ++ Fixed (codes "}") ∷ []))
balanced_braces w p = λ d. walk_both w (Fixed (codes "}") ∷ []) (suc d) ∙ ap (λ (o : Option ℕ). onward o (λ k. walk (Fixed (codes "}") ∷ []) k)) (p (suc d))

pub balanced_turns : (ws : List (List Word)) → AllByRecursion Balanced ws → Balanced (in_turn ws)
balanced_turns [] all = balanced_none
balanced_turns (w ∷ ws) all = balanced_both w (in_turn ws) all.0 (balanced_turns ws all.1)

balanced_behind : (ws : List (List Word)) → AllByRecursion Balanced ws → Balanced (behind_commas ws)
balanced_behind [] all = balanced_none
balanced_behind (w ∷ ws) all = balanced_both w (behind_commas ws) all.0 (balanced_behind ws all.1)

balanced_commas : (ws : List (List Word)) → AllByRecursion Balanced ws → Balanced (with_commas ws)
balanced_commas [] all = balanced_none
balanced_commas (w ∷ ws) all = balanced_both w (behind_commas ws) all.0 (balanced_behind ws all.1)

module _ {X : Type 0} (words : X → List Word) (law : (x : X) → Balanced (words x)) where
  pub balanced_each : (xs : List X) → AllByRecursion Balanced (map words xs)
  balanced_each [] = tt
  balanced_each (x ∷ xs) = (law x, balanced_each xs)

-- ---- expressions

balanced_type : (t : TypeName) (w : List Word) → Balanced w → Balanced (type_word t ∷ w)
balanced_type (type_name.Int line) w p = p
balanced_type (type_name.Class name) w p = p

balanced_at : (at : Option At) → Balanced (at_words at)
balanced_at None = λ d. refl
balanced_at (Some at) = λ d. refl

balanced_symbol : (o : Operator) (line : ℕ) (w : List Word) → Balanced w → Balanced (FixedAt (symbol_of o) line ∷ w)
balanced_symbol operators.Add line w p = p
balanced_symbol operators.Subtract line w p = p
balanced_symbol operators.Multiply line w p = p
balanced_symbol operators.Equal line w p = p
balanced_symbol operators.Unequal line w p = p
balanced_symbol operators.Less line w p = p

abbrev HeldExpr : Type 0
HeldExpr = (x : Expr) × Balanced (expr_words x)

abbrev bare_expr : Expr-F HeldExpr → Expr-F Expr
bare_expr y = map-Expr HeldExpr Expr (λ p. p.0) y

abbrev exprs_in : List HeldExpr → List Expr
exprs_in ps = map (λ (p : HeldExpr). p.0) ps

each_expr : (ps : List HeldExpr) → AllByRecursion Balanced (map expr_words (exprs_in ps))
each_expr [] = tt
each_expr (p ∷ ps) = (p.1, each_expr ps)

expr_steps : (y : Expr-F HeldExpr) → Balanced (expr_step (map-Expr Expr (List Word) expr_words (bare_expr y)))
expr_steps (Expr-F.Literal (literal.Int n) line) = λ d. refl
expr_steps (Expr-F.Literal (literal.Text w) line) = λ d. refl
expr_steps (Expr-F.Null line) = λ d. refl
expr_steps (Expr-F.This line) = λ d. refl
expr_steps (Expr-F.Field name) = λ d. refl
expr_steps (Expr-F.Variable name) = λ d. refl
expr_steps (Expr-F.New class at) = balanced_at at
expr_steps (Expr-F.Parens inner line) = balanced_both (expr_words inner.0) (Fixed (codes ")") ∷ []) inner.1 (λ d. refl)
expr_steps (Expr-F.Negate operand line) = operand.1
expr_steps (Expr-F.Binary operator left right line) =
    balanced_both (expr_words left.0) (FixedAt (symbol_of operator) line ∷ expr_words right.0) left.1 (balanced_symbol operator line (expr_words right.0) right.1)
expr_steps (Expr-F.Call receiver method arguments) =
    let listed : List Word = with_commas (map expr_words (exprs_in arguments)) in
    balanced_both (expr_words receiver.0) (Fixed (codes ".") ∷ name_word method ∷ Fixed (codes "(") ∷ (listed ++ Fixed (codes ")") ∷ [])) receiver.1
    (balanced_both listed (Fixed (codes ")") ∷ []) (balanced_commas (map expr_words (exprs_in arguments)) (each_expr arguments)) (λ d. refl))

abbrev ExprBalanced : Expr → Type 0
ExprBalanced x = Balanced (expr_words x)

expr_rolls : (y : Expr-F HeldExpr) → ExprBalanced (roll-Expr (bare_expr y))
expr_rolls y = subst (λ (w : List Word). Balanced w) (sym (fold-roll-Expr (List Word) expr_step (bare_expr y))) (expr_steps y)

balanced_expr : (x : Expr) → ExprBalanced x
balanced_expr = ind-Expr ExprBalanced (λ x y is. subst (λ z. ExprBalanced (roll-Expr z)) is (expr_rolls y))

balanced_ended : (x : Expr) → Balanced (ended x)
balanced_ended x = balanced_both (expr_words x) (Fixed (codes ";") ∷ []) (balanced_expr x) (λ d. refl)

balanced_condition : (x : Expr) (w : List Word) → Balanced w → Balanced (condition_words x ++ w)
balanced_condition x w p =
    balanced_both (condition_words x) w (balanced_both (expr_words x) (Fixed (codes ")") ∷ []) (balanced_expr x) (λ d. refl)) p

-- ---- statements

abbrev StmtBalanced : Stmt → Type 0
StmtBalanced x = Balanced (stmt_words x)

abbrev HeldStmt : Type 0
HeldStmt = (x : Stmt) × StmtBalanced x

abbrev bare_stmt : Stmt-F HeldStmt → Stmt-F Stmt
bare_stmt y = map-Stmt HeldStmt Stmt (λ p. p.0) y

abbrev stmts_in : List HeldStmt → List Stmt
stmts_in ps = map (λ (p : HeldStmt). p.0) ps

each_stmt : (ps : List HeldStmt) → AllByRecursion Balanced (map stmt_words (stmts_in ps))
each_stmt [] = tt
each_stmt (p ∷ ps) = (p.1, each_stmt ps)

held_braces : (ps : List HeldStmt) → Balanced (braces (map stmt_words (stmts_in ps)))
held_braces ps = balanced_braces (in_turn (map stmt_words (stmts_in ps))) (balanced_turns (map stmt_words (stmts_in ps)) (each_stmt ps))

stmt_steps : (y : Stmt-F HeldStmt) → Balanced (stmt_step (map-Stmt Stmt (List Word) stmt_words (bare_stmt y)))
stmt_steps (Stmt-F.Var type name line value) = balanced_type type (name_word name ∷ FixedAt (codes "=") line ∷ ended value) (balanced_ended value)
stmt_steps (Stmt-F.Assign name line value) = balanced_ended value
stmt_steps (Stmt-F.FieldAssign field line value) = balanced_ended value
stmt_steps (Stmt-F.Return value) = balanced_ended value
stmt_steps (Stmt-F.If condition then_block) = balanced_condition condition (braces (map stmt_words (stmts_in then_block))) (held_braces then_block)
stmt_steps (Stmt-F.IfElse condition then_block otherwise) =
    let first : List Word = braces (map stmt_words (stmts_in then_block)) in
    let second : List Word = braces (map stmt_words (stmts_in otherwise)) in
    balanced_condition condition (first ++ Fixed (codes "else") ∷ second) (balanced_both first (Fixed (codes "else") ∷ second) (held_braces then_block) (held_braces otherwise))
stmt_steps (Stmt-F.While condition body) = balanced_condition condition (braces (map stmt_words (stmts_in body))) (held_braces body)
stmt_steps (Stmt-F.Print value) = balanced_ended value
stmt_steps (Stmt-F.Evaluate value) = balanced_ended value

stmt_rolls : (y : Stmt-F HeldStmt) → StmtBalanced (roll-Stmt (bare_stmt y))
stmt_rolls y = subst (λ (w : List Word). Balanced w) (sym (fold-roll-Stmt (List Word) stmt_step (bare_stmt y))) (stmt_steps y)

balanced_stmt : (x : Stmt) → StmtBalanced x
balanced_stmt = ind-Stmt StmtBalanced (λ x y is. subst (λ z. StmtBalanced (roll-Stmt z)) is (stmt_rolls y))

-- the statements between the braces of a block
pub balanced_stmts : (block : List Stmt) → Balanced (in_turn (map stmt_words block))
balanced_stmts block = balanced_turns (map stmt_words block) (balanced_each stmt_words balanced_stmt block)

-- ---- classes

balanced_field : (x : Field) → Balanced (field_words x)
balanced_field x = balanced_type x.type_name (name_word x.name ∷ Fixed (codes ";") ∷ []) (λ d. refl)

balanced_parameter : (x : Parameter) → Balanced (parameter_words x)
balanced_parameter x = balanced_type x.type_name (name_word x.name ∷ []) (λ d. refl)

balanced_method : (x : Method) → Balanced (method_words x)
balanced_method x =
    let listed : List Word = with_commas (map parameter_words x.parameters) in
    balanced_type x.result (name_word x.name ∷ Fixed (codes "(") ∷ (listed ++ Fixed (codes ")") ∷ block_words x.body))
    (balanced_both listed (Fixed (codes ")") ∷ block_words x.body)
    (balanced_commas (map parameter_words x.parameters) (balanced_each parameter_words balanced_parameter x.parameters))
    (balanced_braces (in_turn (map stmt_words x.body)) (balanced_stmts x.body)))

balanced_methods : (xs : List Method) → Balanced (in_turn (map method_words xs))
balanced_methods xs = balanced_turns (map method_words xs) (balanced_each method_words balanced_method xs)

-- what stands between the braces of a class
abbrev pub in_class : Class → List Word
in_class x = in_turn (map field_words x.fields) ++ in_turn (map method_words x.methods)

pub balanced_class : (x : Class) → Balanced (in_class x)
balanced_class x =
    balanced_both (in_turn (map field_words x.fields)) (in_turn (map method_words x.methods))
    (balanced_turns (map field_words x.fields) (balanced_each field_words balanced_field x.fields)) (balanced_methods x.methods)

-- ---- upgrades

balanced_name : (x : Name) → Balanced (dot_name x)
balanced_name x = λ d. refl

abbrev TfBalanced : Tf → Type 0
TfBalanced x = Balanced (tf_words x)

abbrev HeldTf : Type 0
HeldTf = (x : Tf) × TfBalanced x

abbrev bare_tf : Tf-F HeldTf → Tf-F Tf
bare_tf y = map-Tf HeldTf Tf (λ p. p.0) y

tf_steps : (y : Tf-F HeldTf) → Balanced (tf_step (map-Tf Tf (List Word) tf_words (bare_tf y)))
tf_steps (Tf-F.Null line) = λ d. refl
tf_steps (Tf-F.Literal (literal.Int n) line) = λ d. refl
tf_steps (Tf-F.Literal (literal.Text w) line) = λ d. refl
tf_steps (Tf-F.Path names line) = balanced_turns (map dot_name names) (balanced_each dot_name balanced_name names)
tf_steps (Tf-F.Parens inner line) = balanced_both (tf_words inner.0) (Fixed (codes ")") ∷ []) inner.1 (λ d. refl)
tf_steps (Tf-F.Negate operand line) = operand.1
tf_steps (Tf-F.Binary operator left right line) =
    balanced_both (tf_words left.0) (FixedAt (symbol_of operator) line ∷ tf_words right.0) left.1 (balanced_symbol operator line (tf_words right.0) right.1)

tf_rolls : (y : Tf-F HeldTf) → TfBalanced (roll-Tf (bare_tf y))
tf_rolls y = subst (λ (w : List Word). Balanced w) (sym (fold-roll-Tf (List Word) tf_step (bare_tf y))) (tf_steps y)

balanced_tf : (x : Tf) → TfBalanced x
balanced_tf = ind-Tf TfBalanced (λ x y is. subst (λ z. TfBalanced (roll-Tf z)) is (tf_rolls y))

balanced_field_upgrade : (x : FieldUpgrade) → Balanced (field_upgrade_words x)
balanced_field_upgrade x =
    balanced_type x.type_name (name_word x.name ∷ Fixed (codes "=") ∷ (tf_words x.value ++ Fixed (codes ";") ∷ []))
    (balanced_both (tf_words x.value) (Fixed (codes ";") ∷ []) (balanced_tf x.value) (λ d. refl))

balanced_class_upgrade : (x : ClassUpgrade) → Balanced (class_upgrade_words x)
balanced_class_upgrade x =
    let fields : List Word = in_turn (map field_upgrade_words x.fields) in
    let methods : List Word = in_turn (map method_words x.methods) in
    let same : (fields ++ methods) ++ Fixed (codes "}") ∷ [] ≡ fields ++ (methods ++ Fixed (codes "}") ∷ []) = append_assoc fields methods (Fixed (codes "}") ∷ []) in
    subst (λ (w : List Word). Balanced (Fixed (codes "class") ∷ name_word x.name ∷ Fixed (codes "{") ∷ w)) same
    (balanced_braces (fields ++ methods)
    (balanced_both fields methods (balanced_turns (map field_upgrade_words x.fields) (balanced_each field_upgrade_words balanced_field_upgrade x.fields)) (balanced_methods x.methods)))

-- the classes between the braces of an upgrade
pub balanced_classes : (xs : List ClassUpgrade) → Balanced (in_turn (map class_upgrade_words xs))
balanced_classes xs = balanced_turns (map class_upgrade_words xs) (balanced_each class_upgrade_words balanced_class_upgrade xs)
