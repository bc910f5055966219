-- A statement, a block and a class on line 1 have the same words, on line 1, and are in the grammar where they were.
use Rattle.std.proofs.Common.{◌≡◌, ◌≤◌, ℕ, Bool, List, [], ◌∷◌, ◌++◌, map, refl, sym, ap, ap₂, subst, ◌∙◌}
use Rattle.std.specs.Prelude.{codes, ◌&&◌, max, ◌+◌}
use Rattle.std.specs.List.{AllByRecursion}
use Rattle.std.proofs.lemmas.List.{length-map}
use Rattle.class_defs.specs.declared.classes.Class.{Class}
use Rattle.class_defs.specs.declared.classes.Field.{Field}
use Rattle.class_defs.specs.declared.classes.Method.{Method}
use Rattle.class_defs.specs.declared.classes.Parameter.{Parameter}
use Rattle.class_defs.specs.declared.expressions.Expr.{Expr}
use Rattle.class_defs.specs.declared.statements.Stmt.{Stmt, map-Stmt, roll-Stmt}
use Rattle.class_defs.specs.declared.statements.Stmt.TheFolds.{fold-roll-Stmt, ind-Stmt}
use Rattle.class_defs.specs.declared.statements.Stmt.TheOpen.{Stmt-F}
use Rattle.class_defs.specs.declared.places.Place.{Place}
use Rattle.class_defs.specs.declared.places.Place.TheVariants as places
use Rattle.class_defs.specs.Words.{Word, Fixed, FixedAt, name_word, with_commas, in_turn}
use Rattle.class_defs.specs.Spelling.{expr_words, ended, condition_words, braces, stmt_step, stmt_words, block_words, field_words, parameter_words}
use Rattle.class_defs.specs.Spelling.{method_words, kind_text, class_words}
use Rattle.class_defs.specs.Shape.{Shape, Form, form_step, form, in_braces, with_value, with_condition, both, in_method, in_item, block_form}
use Rattle.class_defs.specs.Grammar.{IsBlock, IsMethod, IsClass, max_depth, max_nesting}
use Rattle.class_defs.specs.LinesAside.{name_on_line_1, type_on_line_1, expr_on_line_1, stmt_step_on_line_1, stmt_on_line_1, block_on_line_1}
use Rattle.class_defs.specs.LinesAside.{field_on_line_1, parameter_on_line_1, method_on_line_1, class_on_line_1}
use Rattle.method_parse.proofs.ExpressionsAside.{lined, lined_both, lined_commas, lined_turns, type_lined, expr_aside}
use Rattle.method_parse.proofs.Equations.{words-Var, words-Assign, words-FieldAssign, words-Return, words-If, words-IfElse, words-While, words-Print}
use Rattle.method_parse.proofs.Equations.{words-Evaluate, form-Var, form-Assign, form-FieldAssign, form-Return, form-If, form-IfElse, form-While}
use Rattle.method_parse.proofs.Equations.{form-Print, form-Evaluate}

ended_lined : (x : Expr) → ended (expr_on_line_1 x) ≡ lined (ended x)
ended_lined x = ap (λ (w : List Word). w ++ Fixed (codes ";") ∷ []) (expr_aside x).0 ∙ sym (lined_both (expr_words x) (Fixed (codes ";") ∷ []))

condition_lined : (x : Expr) → condition_words (expr_on_line_1 x) ≡ lined (condition_words x)
condition_lined x =
    ap (λ (w : List Word). Fixed (codes "(") ∷ (w ++ Fixed (codes ")") ∷ [])) (expr_aside x).0
    ∙ ap (λ (w : List Word). Fixed (codes "(") ∷ w) (sym (lined_both (expr_words x) (Fixed (codes ")") ∷ [])))

braces_lined : (lists : List (List Word)) → braces (map lined lists) ≡ lined (braces lists)
braces_lined lists =
    ap (λ (w : List Word). Fixed (codes "{") ∷ (w ++ Fixed (codes "}") ∷ [])) (sym (lined_turns lists))
    ∙ ap (λ (w : List Word). Fixed (codes "{") ∷ w) (sym (lined_both (in_turn lists) (Fixed (codes "}") ∷ [])))

abbrev valued : Bool → Shape → Form
valued b i = record { depth = i.depth; nesting = i.nesting; proper = i.proper && b }

value_form : (place : Place) (x : Expr) (b : Bool) → with_value place (expr_on_line_1 x) b ≡ with_value place x b
value_form place x b = ap (valued b) ((expr_aside x).1 place)

abbrev conditioned : Form → Shape → Form
conditioned block i = record { depth = max i.depth block.depth; nesting = max (i.nesting + 1) block.nesting; proper = i.proper && block.proper }

condition_form : (place : Place) (x : Expr) (b c : Form) → b ≡ c → with_condition place (expr_on_line_1 x) b ≡ with_condition place x c
condition_form place x b c e = ap₂ conditioned e ((expr_aside x).1 place)

-- what holds of a statement
abbrev pub Aside : Stmt → Type 0
Aside x = (stmt_words (stmt_on_line_1 x) ≡ lined (stmt_words x)) × ((place : Place) → form place (stmt_on_line_1 x) ≡ form place x)

abbrev Held : Type 0
Held = (x : Stmt) × Aside x

abbrev bare : Stmt-F Held → Stmt-F Stmt
bare y = map-Stmt Held Stmt (λ p. p.0) y

abbrev stmts_in : List Held → List Stmt
stmts_in ps = map (λ (p : Held). p.0) ps

abbrev on_line_1 : Stmt-F Stmt → Stmt-F Stmt
on_line_1 x = map-Stmt Stmt Stmt stmt_on_line_1 x

block_lined : (ps : List Held) → map stmt_words (map stmt_on_line_1 (stmts_in ps)) ≡ map lined (map stmt_words (stmts_in ps))
block_lined [] = refl
block_lined (p ∷ ps) = ap₂ (λ (w : List Word) (ws : List (List Word)). w ∷ ws) p.1.0 (block_lined ps)

block_formed : (place : Place) (ps : List Held) → map (form place) (map stmt_on_line_1 (stmts_in ps)) ≡ map (form place) (stmts_in ps)
block_formed place [] = refl
block_formed place (p ∷ ps) = ap₂ (λ (w : Form) (ws : List Form). w ∷ ws) (p.1.1 place) (block_formed place ps)

inner_lined : (ps : List Held) → braces (map stmt_words (map stmt_on_line_1 (stmts_in ps))) ≡ lined (braces (map stmt_words (stmts_in ps)))
inner_lined ps = ap braces (block_lined ps) ∙ braces_lined (map stmt_words (stmts_in ps))

-- a word, a condition and what stands behind
behind_condition : (word : List ℕ) (x : Expr) (v w : List Word) → v ≡ lined w
    → Fixed word ∷ (condition_words (expr_on_line_1 x) ++ v) ≡ lined (Fixed word ∷ (condition_words x ++ w))
behind_condition word x v w e =
    ap₂ (λ (c d : List Word). Fixed word ∷ (c ++ d)) (condition_lined x) e
    ∙ ap (λ (c : List Word). Fixed word ∷ c) (sym (lined_both (condition_words x) w))

step_words : (y : Stmt-F Held) → stmt_words (stmt_step_on_line_1 (on_line_1 (bare y)))
    ≡ lined (stmt_step (map-Stmt Stmt (List Word) stmt_words (bare y)))
step_words (Stmt-F.Var type name line value) =
    words-Var (type_on_line_1 type) (name_on_line_1 name) 1 (expr_on_line_1 value)
    ∙ ap₂ (λ (t : Word) (w : List Word). Fixed (codes "var") ∷ t ∷ name_word (name_on_line_1 name) ∷ FixedAt (codes "=") 1 ∷ w)
    (type_lined type) (ended_lined value)
step_words (Stmt-F.Assign name line value) =
    words-Assign (name_on_line_1 name) 1 (expr_on_line_1 value)
    ∙ ap (λ (w : List Word). name_word (name_on_line_1 name) ∷ FixedAt (codes "=") 1 ∷ w) (ended_lined value)
step_words (Stmt-F.FieldAssign field line value) =
    words-FieldAssign (name_on_line_1 field) 1 (expr_on_line_1 value)
    ∙ ap (λ (w : List Word). Fixed (codes "this") ∷ Fixed (codes ".") ∷ name_word (name_on_line_1 field) ∷ FixedAt (codes "=") 1 ∷ w)
    (ended_lined value)
step_words (Stmt-F.Return value) =
    words-Return (expr_on_line_1 value) ∙ ap (λ (w : List Word). Fixed (codes "return") ∷ w) (ended_lined value)
step_words (Stmt-F.If condition then_block) =
    words-If (expr_on_line_1 condition) (map stmt_on_line_1 (stmts_in then_block))
    ∙ behind_condition (codes "if") condition _ (braces (map stmt_words (stmts_in then_block))) (inner_lined then_block)
step_words (Stmt-F.IfElse condition then_block otherwise) =
    let first : List Word = braces (map stmt_words (stmts_in then_block)) in
    let second : List Word = braces (map stmt_words (stmts_in otherwise)) in
    words-IfElse (expr_on_line_1 condition) (map stmt_on_line_1 (stmts_in then_block)) (map stmt_on_line_1 (stmts_in otherwise))
    ∙ behind_condition (codes "if") condition _ (first ++ Fixed (codes "else") ∷ second)
    (ap₂ (λ (v w : List Word). v ++ Fixed (codes "else") ∷ w) (inner_lined then_block) (inner_lined otherwise)
    ∙ sym (lined_both first (Fixed (codes "else") ∷ second)))
step_words (Stmt-F.While condition body) =
    words-While (expr_on_line_1 condition) (map stmt_on_line_1 (stmts_in body))
    ∙ behind_condition (codes "while") condition _ (braces (map stmt_words (stmts_in body))) (inner_lined body)
step_words (Stmt-F.Print value) =
    words-Print (expr_on_line_1 value) ∙ ap (λ (w : List Word). Fixed (codes "print") ∷ w) (ended_lined value)
step_words (Stmt-F.Evaluate value) = words-Evaluate (expr_on_line_1 value) ∙ ended_lined value

braces_form : (place : Place) (ps : List Held) → in_braces (map (form place) (map stmt_on_line_1 (stmts_in ps)))
    ≡ in_braces (map (form place) (stmts_in ps))
braces_form place ps = ap in_braces (block_formed place ps)

step_form : (place : Place) (y : Stmt-F Held) → form place (stmt_step_on_line_1 (on_line_1 (bare y)))
    ≡ form_step place (map-Stmt Stmt Form (form place) (bare y))
step_form place (Stmt-F.Var type name line value) =
    form-Var place (type_on_line_1 type) (name_on_line_1 name) 1 (expr_on_line_1 value) ∙ value_form place value _
step_form place (Stmt-F.Assign name line value) = form-Assign place (name_on_line_1 name) 1 (expr_on_line_1 value) ∙ value_form place value _
step_form place (Stmt-F.FieldAssign field line value) =
    form-FieldAssign place (name_on_line_1 field) 1 (expr_on_line_1 value) ∙ value_form place value (in_method place)
step_form place (Stmt-F.Return value) = form-Return place (expr_on_line_1 value) ∙ value_form place value (in_method place)
step_form place (Stmt-F.If condition then_block) =
    form-If place (expr_on_line_1 condition) (map stmt_on_line_1 (stmts_in then_block))
    ∙ condition_form place condition _ _ (braces_form place then_block)
step_form place (Stmt-F.IfElse condition then_block otherwise) =
    form-IfElse place (expr_on_line_1 condition) (map stmt_on_line_1 (stmts_in then_block)) (map stmt_on_line_1 (stmts_in otherwise))
    ∙ condition_form place condition _ _ (ap₂ both (braces_form place then_block) (braces_form place otherwise))
step_form place (Stmt-F.While condition body) =
    form-While place (expr_on_line_1 condition) (map stmt_on_line_1 (stmts_in body))
    ∙ condition_form place condition _ _ (braces_form place body)
step_form place (Stmt-F.Print value) = form-Print place (expr_on_line_1 value) ∙ value_form place value (in_item place)
step_form place (Stmt-F.Evaluate value) = form-Evaluate place (expr_on_line_1 value) ∙ value_form place value _

rolled : (x : Stmt-F Stmt) → stmt_on_line_1 (roll-Stmt x) ≡ stmt_step_on_line_1 (on_line_1 x)
rolled x = fold-roll-Stmt Stmt stmt_step_on_line_1 x

step : (y : Stmt-F Held) → Aside (roll-Stmt (bare y))
step y = (
  ap stmt_words (rolled (bare y)) ∙ step_words y ∙ ap lined (sym (fold-roll-Stmt (List Word) stmt_step (bare y))),
  λ place. ap (form place) (rolled (bare y)) ∙ step_form place y ∙ sym (fold-roll-Stmt Form (form_step place) (bare y)),
)

pub stmt_aside : (x : Stmt) → Aside x
stmt_aside = ind-Stmt Aside (λ x y is. subst (λ z. Aside (roll-Stmt z)) is (step y))

-- ---- blocks

module _ {X Y : Type 0} (f : X → X) (g : X → Y) (h : Y → Y) (law : (x : X) → g (f x) ≡ h (g x)) where
  pub each_aside : (xs : List X) → map g (map f xs) ≡ map h (map g xs)
  each_aside [] = refl
  each_aside (x ∷ xs) = ap₂ (λ (y : Y) (ys : List Y). y ∷ ys) (law x) (each_aside xs)

forms_aside : (place : Place) (xs : List Stmt) → map (form place) (map stmt_on_line_1 xs) ≡ map (form place) xs
forms_aside place [] = refl
forms_aside place (x ∷ xs) = ap₂ (λ (y : Form) (ys : List Form). y ∷ ys) ((stmt_aside x).1 place) (forms_aside place xs)

pub block_aside : (block : List Stmt) → block_words (block_on_line_1 block) ≡ lined (block_words block)
block_aside block =
    ap braces (each_aside stmt_on_line_1 stmt_words lined (λ x. (stmt_aside x).0) block) ∙ braces_lined (map stmt_words block)

pub block_stays : (place : Place) (block : List Stmt) → IsBlock place block → IsBlock place (block_on_line_1 block)
block_stays place block h =
    let same : block_form place block ≡ block_form place (block_on_line_1 block) = ap in_braces (sym (forms_aside place block)) in
    record {
      depth = subst (λ (f : Form). f.depth ≤ max_depth) same h.depth;
      nesting = subst (λ (f : Form). f.nesting ≤ max_nesting) same h.nesting;
      proper = sym (ap (λ (f : Form). f.proper) same) ∙ h.proper;
    }

-- ---- classes

field_aside : (x : Field) → field_words (field_on_line_1 x) ≡ lined (field_words x)
field_aside x = ap (λ (t : Word). t ∷ name_word (name_on_line_1 x.name) ∷ Fixed (codes ";") ∷ []) (type_lined x.type_name)

parameter_aside : (x : Parameter) → parameter_words (parameter_on_line_1 x) ≡ lined (parameter_words x)
parameter_aside x = ap (λ (t : Word). t ∷ name_word (name_on_line_1 x.name) ∷ []) (type_lined x.type_name)

pub method_aside : (x : Method) → method_words (method_on_line_1 x) ≡ lined (method_words x)
method_aside x =
    let listed : List Word = with_commas (map parameter_words x.parameters) in
    let front : Word → List Word → List Word = λ t w. Fixed (codes "method") ∷ t ∷ name_word (name_on_line_1 x.name) ∷ Fixed (codes "(") ∷ w in
    ap₂ front (type_lined x.result)
    (ap₂ (λ (ws : List (List Word)) (b : List Word). with_commas ws ++ Fixed (codes ")") ∷ b)
    (each_aside parameter_on_line_1 parameter_words lined parameter_aside x.parameters) (block_aside x.body)
    ∙ ap (λ (w : List Word). w ++ Fixed (codes ")") ∷ lined (block_words x.body)) (sym (lined_commas (map parameter_words x.parameters)))
    ∙ sym (lined_both listed (Fixed (codes ")") ∷ block_words x.body)))

pub class_aside : (x : Class) → class_words (class_on_line_1 x) ≡ lined (class_words x)
class_aside x =
    let fields : List Word = in_turn (map field_words x.fields) in
    let methods : List Word = in_turn (map method_words x.methods) in
    let front : List Word → List Word = λ w. Fixed (kind_text x.kind) ∷ Fixed (codes "class") ∷ name_word (name_on_line_1 x.name) ∷ Fixed (codes "{") ∷ w in
    ap front
    (ap₂ (λ (fs ms : List (List Word)). in_turn fs ++ (in_turn ms ++ Fixed (codes "}") ∷ []))
    (each_aside field_on_line_1 field_words lined field_aside x.fields) (each_aside method_on_line_1 method_words lined method_aside x.methods)
    ∙ ap₂ (λ (f m : List Word). f ++ (m ++ Fixed (codes "}") ∷ []))
    (sym (lined_turns (map field_words x.fields))) (sym (lined_turns (map method_words x.methods)))
    ∙ ap (λ (w : List Word). lined fields ++ w) (sym (lined_both methods (Fixed (codes "}") ∷ [])))
    ∙ sym (lined_both fields (methods ++ Fixed (codes "}") ∷ [])))

method_stays : (x : Method) → IsMethod x → IsMethod (method_on_line_1 x)
method_stays x h = record {
  parameters = subst (λ n. n ≤ 8) (sym (length-map x.parameters parameter_on_line_1)) h.parameters;
  body = block_stays places.Method x.body h.body;
}

pub methods_stay : (xs : List Method) → AllByRecursion IsMethod xs → AllByRecursion IsMethod (map method_on_line_1 xs)
methods_stay [] h = tt
methods_stay (x ∷ xs) h = (method_stays x h.0, methods_stay xs h.1)

pub class_stays : (x : Class) → IsClass x → IsClass (class_on_line_1 x)
class_stays x h = record {
  fields = subst (λ n. n ≤ 32) (sym (length-map x.fields field_on_line_1)) h.fields;
  methods = subst (λ n. n ≤ 64) (sym (length-map x.methods method_on_line_1)) h.methods;
  each = methods_stay x.methods h.each;
}
