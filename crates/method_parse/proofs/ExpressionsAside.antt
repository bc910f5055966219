-- An expression on line 1 has the same words, on line 1, and the same shape.
use Rattle.std.proofs.Common.{◌≡◌, List, [], ◌∷◌, ◌++◌, map, Option, Some, None, refl, sym, ap, ap₂, subst, ◌∙◌}
use Rattle.std.specs.Prelude.{codes}
use Rattle.std.proofs.lemmas.List.{map-append}
use Rattle.class_defs.specs.declared.expressions.At.{At}
use Rattle.class_defs.specs.declared.expressions.TypeName.{TypeName}
use Rattle.class_defs.specs.declared.expressions.TypeName.TheVariants as type_name
use Rattle.class_defs.specs.declared.expressions.Expr.{Expr, map-Expr, roll-Expr}
use Rattle.class_defs.specs.declared.expressions.Expr.TheFolds.{fold-roll-Expr, ind-Expr}
use Rattle.class_defs.specs.declared.expressions.Expr.TheOpen.{Expr-F}
use Rattle.class_defs.specs.declared.literals.Literal.TheVariants as literal
use Rattle.class_defs.specs.declared.places.Place.{Place}
use Rattle.class_defs.specs.Words.{Word, Fixed, FixedAt, name_word, symbol_of, behind_commas, with_commas, in_turn}
use Rattle.class_defs.specs.Spelling.{type_word, at_words, expr_step, expr_words}
use Rattle.class_defs.specs.Shape.{Shape, shape_step, shape}
use Rattle.class_defs.specs.LinesAside.{name_on_line_1, type_on_line_1, at_on_line_1, expr_step_on_line_1, expr_on_line_1}
use Rattle.method_parse.proofs.PrintedTokens.{first_line}
use Rattle.method_parse.proofs.Equations.{words-Literal, words-Null, words-This, words-Field, words-Variable, words-New, words-Parens, words-Negate}
use Rattle.method_parse.proofs.Equations.{words-Binary, words-Call, shape-Literal, shape-Null, shape-This, shape-Field, shape-Variable, shape-New}
use Rattle.method_parse.proofs.Equations.{shape-Parens, shape-Negate, shape-Binary, shape-Call}

-- words on line 1
abbrev pub lined : List Word → List Word
lined words = map first_line words

pub lined_both : (v w : List Word) → lined (v ++ w) ≡ lined v ++ lined w
lined_both v w = map-append first_line v w

lined_behind : (lists : List (List Word)) → lined (behind_commas lists) ≡ behind_commas (map lined lists)
lined_behind [] = refl
lined_behind (l ∷ ls) = ap (λ (w : List Word). Fixed (codes ",") ∷ w)
    (lined_both l (behind_commas ls) ∙ ap (λ (w : List Word). lined l ++ w) (lined_behind ls))

pub lined_commas : (lists : List (List Word)) → lined (with_commas lists) ≡ with_commas (map lined lists)
lined_commas [] = refl
lined_commas (l ∷ ls) = lined_both l (behind_commas ls) ∙ ap (λ (w : List Word). lined l ++ w) (lined_behind ls)

pub lined_turns : (lists : List (List Word)) → lined (in_turn lists) ≡ in_turn (map lined lists)
lined_turns [] = refl
lined_turns (l ∷ ls) = lined_both l (in_turn ls) ∙ ap (λ (w : List Word). lined l ++ w) (lined_turns ls)

pub type_lined : (t : TypeName) → type_word (type_on_line_1 t) ≡ first_line (type_word t)
type_lined (type_name.Int line) = refl
type_lined (type_name.Class name) = refl

at_lined : (at : Option At) → at_words (at_on_line_1 at) ≡ lined (at_words at)
at_lined None = refl
at_lined (Some at) = refl

-- what holds of an expression
abbrev pub Aside : Expr → Type 0
Aside x = (expr_words (expr_on_line_1 x) ≡ lined (expr_words x)) × ((place : Place) → shape place (expr_on_line_1 x) ≡ shape place x)

abbrev Held : Type 0
Held = (x : Expr) × Aside x

abbrev bare : Expr-F Held → Expr-F Expr
bare y = map-Expr Held Expr (λ p. p.0) y

abbrev exprs_in : List Held → List Expr
exprs_in ps = map (λ (p : Held). p.0) ps

abbrev on_line_1 : Expr-F Expr → Expr-F Expr
on_line_1 x = map-Expr Expr Expr expr_on_line_1 x

args_words : (ps : List Held) → map expr_words (map expr_on_line_1 (exprs_in ps)) ≡ map lined (map expr_words (exprs_in ps))
args_words [] = refl
args_words (p ∷ ps) = ap₂ (λ (w : List Word) (ws : List (List Word)). w ∷ ws) p.1.0 (args_words ps)

args_shape : (place : Place) (ps : List Held) → map (shape place) (map expr_on_line_1 (exprs_in ps)) ≡ map (shape place) (exprs_in ps)
args_shape place [] = refl
args_shape place (p ∷ ps) = ap₂ (λ (w : Shape) (ws : List Shape). w ∷ ws) (p.1.1 place) (args_shape place ps)

step_words : (y : Expr-F Held) → expr_words (expr_step_on_line_1 (on_line_1 (bare y)))
    ≡ lined (expr_step (map-Expr Expr (List Word) expr_words (bare y)))
step_words (Expr-F.Literal (literal.Int n) line) = words-Literal (literal.Int n) 1
step_words (Expr-F.Literal (literal.Text w) line) = words-Literal (literal.Text w) 1
step_words (Expr-F.Null line) = words-Null 1
step_words (Expr-F.This line) = words-This 1
step_words (Expr-F.Field name) = words-Field (name_on_line_1 name)
step_words (Expr-F.Variable name) = words-Variable (name_on_line_1 name)
step_words (Expr-F.New class at) =
    words-New (name_on_line_1 class) (at_on_line_1 at)
    ∙ ap (λ (w : List Word). Fixed (codes "new") ∷ name_word (name_on_line_1 class) ∷ Fixed (codes "(") ∷ Fixed (codes ")") ∷ w) (at_lined at)
step_words (Expr-F.Parens inner line) =
    words-Parens (expr_on_line_1 inner.0) 1
    ∙ ap (λ (w : List Word). FixedAt (codes "(") 1 ∷ (w ++ Fixed (codes ")") ∷ [])) inner.1.0
    ∙ ap (λ (w : List Word). FixedAt (codes "(") 1 ∷ w) (sym (lined_both (expr_words inner.0) (Fixed (codes ")") ∷ [])))
step_words (Expr-F.Negate operand line) =
    words-Negate (expr_on_line_1 operand.0) 1 ∙ ap (λ (w : List Word). FixedAt (codes "-") 1 ∷ w) operand.1.0
step_words (Expr-F.Binary operator left right line) =
    words-Binary operator (expr_on_line_1 left.0) (expr_on_line_1 right.0) 1
    ∙ ap₂ (λ (v w : List Word). v ++ FixedAt (symbol_of operator) 1 ∷ w) left.1.0 right.1.0
    ∙ sym (lined_both (expr_words left.0) (FixedAt (symbol_of operator) line ∷ expr_words right.0))
step_words (Expr-F.Call receiver method arguments) =
    let listed : List Word = with_commas (map expr_words (exprs_in arguments)) in
    let behind : List Word = Fixed (codes ".") ∷ name_word method ∷ Fixed (codes "(") ∷ (listed ++ Fixed (codes ")") ∷ []) in
    let front : List Word → List Word = λ w. Fixed (codes ".") ∷ name_word (name_on_line_1 method) ∷ Fixed (codes "(") ∷ w in
    words-Call (expr_on_line_1 receiver.0) (name_on_line_1 method) (map expr_on_line_1 (exprs_in arguments))
    ∙ ap₂ (λ (v : List Word) (ws : List (List Word)). v ++ front (with_commas ws ++ Fixed (codes ")") ∷ [])) receiver.1.0 (args_words arguments)
    ∙ ap (λ (w : List Word). lined (expr_words receiver.0) ++ front (w ++ Fixed (codes ")") ∷ []))
    (sym (lined_commas (map expr_words (exprs_in arguments))))
    ∙ ap (λ (w : List Word). lined (expr_words receiver.0) ++ front w) (sym (lined_both listed (Fixed (codes ")") ∷ [])))
    ∙ sym (lined_both (expr_words receiver.0) behind)

step_shape : (place : Place) (y : Expr-F Held) → shape place (expr_step_on_line_1 (on_line_1 (bare y)))
    ≡ shape_step place (map-Expr Expr Shape (shape place) (bare y))
step_shape place (Expr-F.Literal value line) = shape-Literal place value 1
step_shape place (Expr-F.Null line) = shape-Null place 1
step_shape place (Expr-F.This line) = shape-This place 1
step_shape place (Expr-F.Field name) = shape-Field place (name_on_line_1 name)
step_shape place (Expr-F.Variable name) = shape-Variable place (name_on_line_1 name)
step_shape place (Expr-F.New class at) = shape-New place (name_on_line_1 class) (at_on_line_1 at)
step_shape place (Expr-F.Parens inner line) =
    shape-Parens place (expr_on_line_1 inner.0) 1 ∙ ap (λ (i : Shape). shape_step place (Expr-F.Parens i 1)) (inner.1.1 place)
step_shape place (Expr-F.Negate operand line) =
    shape-Negate place (expr_on_line_1 operand.0) 1 ∙ ap (λ (i : Shape). shape_step place (Expr-F.Negate i 1)) (operand.1.1 place)
step_shape place (Expr-F.Binary operator left right line) =
    shape-Binary place operator (expr_on_line_1 left.0) (expr_on_line_1 right.0) 1
    ∙ ap₂ (λ (i j : Shape). shape_step place (Expr-F.Binary operator i j 1)) (left.1.1 place) (right.1.1 place)
step_shape place (Expr-F.Call receiver method arguments) =
    shape-Call place (expr_on_line_1 receiver.0) (name_on_line_1 method) (map expr_on_line_1 (exprs_in arguments))
    ∙ ap₂ (λ (i : Shape) (is : List Shape). shape_step place (Expr-F.Call i method is)) (receiver.1.1 place) (args_shape place arguments)

rolled : (x : Expr-F Expr) → expr_on_line_1 (roll-Expr x) ≡ expr_step_on_line_1 (on_line_1 x)
rolled x = fold-roll-Expr Expr expr_step_on_line_1 x

step : (y : Expr-F Held) → Aside (roll-Expr (bare y))
step y = (
  ap expr_words (rolled (bare y)) ∙ step_words y ∙ ap lined (sym (fold-roll-Expr (List Word) expr_step (bare y))),
  λ place. ap (shape place) (rolled (bare y)) ∙ step_shape place y ∙ sym (fold-roll-Expr Shape (shape_step place) (bare y)),
)

pub expr_aside : (x : Expr) → Aside x
expr_aside = ind-Expr Aside (λ x y is. subst (λ z. Aside (roll-Expr z)) is (step y))
