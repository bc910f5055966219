-- An upgrade on line 1 has the same words, on line 1, and is in the grammar where it was.
use Rattle.std.proofs.Common.{◌≡◌, ◌≤◌, List, [], ◌∷◌, ◌++◌, map, refl, sym, ap, ap₂, subst, ◌∙◌}
use Rattle.std.specs.Prelude.{codes}
use Rattle.std.specs.List.{AllByRecursion}
use Rattle.std.proofs.lemmas.List.{length-map}
use Rattle.class_defs.specs.Grammar.{max_depth, max_nesting}
use Rattle.class_defs.specs.Printed.{with_spaces}
use Rattle.class_defs.specs.Shape.{Shape, leaf}
use Rattle.class_defs.specs.Spelling.{method_words}
use Rattle.class_defs.specs.Words.{Word, Fixed, FixedAt, in_turn, name_word, symbol_of}
use Rattle.class_defs.specs.declared.expressions.Name.{Name}
use Rattle.class_defs.specs.declared.literals.Literal.TheVariants as literal
use Rattle.class_defs.specs.declared.upgrades.ClassUpgrade.{ClassUpgrade}
use Rattle.class_defs.specs.declared.upgrades.FieldUpgrade.{FieldUpgrade}
use Rattle.class_defs.specs.declared.upgrades.Tf.{Tf, map-Tf, roll-Tf}
use Rattle.class_defs.specs.declared.upgrades.Tf.TheFolds.{fold-roll-Tf, ind-Tf}
use Rattle.class_defs.specs.declared.upgrades.Tf.TheOpen.{Tf-F}
use Rattle.class_defs.specs.declared.upgrades.Upgrade.{Upgrade}
use Rattle.class_defs.specs.LinesAside.{method_on_line_1, name_on_line_1}
use Rattle.method_parse.specs.Matching.{AreWords}
use Rattle.method_parse.proofs.ExpressionsAside.{lined, lined_both, lined_turns, type_lined}
use Rattle.method_parse.proofs.PrintedTokens.{printed_lined, words_printed}
use Rattle.method_parse.proofs.StatementsAside.{each_aside, method_aside, methods_stay}
use Rattle.script_text.specs.Grammar.{AreTokensOf}
use Rattle.script_text.specs.Laws.{AreSpelled}
use Rattle.script_text.specs.declared.token.Token.{Token}
use Rattle.upgrade_defs.specs.Grammar.{IsClassUpgrade, IsFieldUpgrade, IsTf, IsUpgrade, has_names, tf_shape, tf_shape_step}
use Rattle.class_defs.specs.UpgradeLinesAside.{class_on_line_1, field_on_line_1, tf_on_line_1, tf_step_on_line_1, upgrade_on_line_1}
use Rattle.upgrade_defs.specs.Printed.{printed_upgrade}
use Rattle.upgrade_defs.specs.Spelling.{class_upgrade_words, dot_name, field_upgrade_words, tf_step, tf_words, upgrade_words}
use Rattle.upgrade_defs.specs.Texts.{SpellsUpgrade}
use Rattle.upgrade_defs.proofs.Equations as eq

-- ---- expressions

-- what holds of an expression
record Aside (x : Tf) : Type 0 where
  words : tf_words (tf_on_line_1 x) ≡ lined (tf_words x)
  shape : tf_shape (tf_on_line_1 x) ≡ tf_shape x

abbrev Held : Type 0
Held = (x : Tf) × Aside x

abbrev bare : Tf-F Held → Tf-F Tf
bare y = map-Tf Held Tf (λ p. p.0) y

abbrev on_line_1 : Tf-F Tf → Tf-F Tf
on_line_1 x = map-Tf Tf Tf tf_on_line_1 x

names_lined : (names : List Name) → in_turn (map dot_name (map name_on_line_1 names)) ≡ lined (in_turn (map dot_name names))
names_lined names =
    ap in_turn (each_aside name_on_line_1 dot_name lined (λ n. refl) names) ∙ sym (lined_turns (map dot_name names))

names_stay : (names : List Name) → has_names (map name_on_line_1 names) ≡ has_names names
names_stay [] = refl
names_stay (n ∷ ns) = refl

step_words : (y : Tf-F Held) → tf_words (tf_step_on_line_1 (on_line_1 (bare y))) ≡ lined (tf_step (map-Tf Tf (List Word) tf_words (bare y)))
step_words (Tf-F.Null line) = eq.words-Null 1
step_words (Tf-F.Literal (literal.Int n) line) = eq.words-Literal (literal.Int n) 1
step_words (Tf-F.Literal (literal.Text w) line) = eq.words-Literal (literal.Text w) 1
step_words (Tf-F.Path names line) =
    eq.words-Path (map name_on_line_1 names) 1 ∙ ap (λ (w : List Word). FixedAt (codes "old") 1 ∷ w) (names_lined names)
step_words (Tf-F.Parens inner line) =
    eq.words-Parens (tf_on_line_1 inner.0) 1
    ∙ ap (λ (w : List Word). FixedAt (codes "(") 1 ∷ (w ++ Fixed (codes ")") ∷ [])) inner.1.words
    ∙ ap (λ (w : List Word). FixedAt (codes "(") 1 ∷ w) (sym (lined_both (tf_words inner.0) (Fixed (codes ")") ∷ [])))
step_words (Tf-F.Negate operand line) =
    eq.words-Negate (tf_on_line_1 operand.0) 1 ∙ ap (λ (w : List Word). FixedAt (codes "-") 1 ∷ w) operand.1.words
step_words (Tf-F.Binary operator left right line) =
    eq.words-Binary operator (tf_on_line_1 left.0) (tf_on_line_1 right.0) 1
    ∙ ap₂ (λ (v w : List Word). v ++ FixedAt (symbol_of operator) 1 ∷ w) left.1.words right.1.words
    ∙ sym (lined_both (tf_words left.0) (FixedAt (symbol_of operator) line ∷ tf_words right.0))

step_shape : (y : Tf-F Held) → tf_shape (tf_step_on_line_1 (on_line_1 (bare y))) ≡ tf_shape_step (map-Tf Tf Shape tf_shape (bare y))
step_shape (Tf-F.Null line) = eq.shape-Null 1
step_shape (Tf-F.Literal value line) = eq.shape-Literal value 1
step_shape (Tf-F.Path names line) = eq.shape-Path (map name_on_line_1 names) 1 ∙ ap (leaf 0) (names_stay names)
step_shape (Tf-F.Parens inner line) =
    eq.shape-Parens (tf_on_line_1 inner.0) 1 ∙ ap (λ (i : Shape). tf_shape_step (Tf-F.Parens i 1)) inner.1.shape
step_shape (Tf-F.Negate operand line) =
    eq.shape-Negate (tf_on_line_1 operand.0) 1 ∙ ap (λ (i : Shape). tf_shape_step (Tf-F.Negate i 1)) operand.1.shape
step_shape (Tf-F.Binary operator left right line) =
    eq.shape-Binary operator (tf_on_line_1 left.0) (tf_on_line_1 right.0) 1
    ∙ ap₂ (λ (i j : Shape). tf_shape_step (Tf-F.Binary operator i j 1)) left.1.shape right.1.shape

rolled : (x : Tf-F Tf) → tf_on_line_1 (roll-Tf x) ≡ tf_step_on_line_1 (on_line_1 x)
rolled x = fold-roll-Tf Tf tf_step_on_line_1 x

step : (y : Tf-F Held) → Aside (roll-Tf (bare y))
step y = record {
  words = ap tf_words (rolled (bare y)) ∙ step_words y ∙ ap lined (sym (fold-roll-Tf (List Word) tf_step (bare y)));
  shape = ap tf_shape (rolled (bare y)) ∙ step_shape y ∙ sym (fold-roll-Tf Shape tf_shape_step (bare y));
}

tf_aside : (x : Tf) → Aside x
tf_aside = ind-Tf Aside (λ x y is. subst (λ z. Aside (roll-Tf z)) is (step y))

tf_stays : (x : Tf) → IsTf x → IsTf (tf_on_line_1 x)
tf_stays x h =
    let same : tf_shape x ≡ tf_shape (tf_on_line_1 x) = sym (tf_aside x).shape in
    record {
      depth = subst (λ (s : Shape). s.depth ≤ max_depth) same h.depth;
      nesting = subst (λ (s : Shape). s.nesting ≤ max_nesting) same h.nesting;
      proper = sym (ap (λ (s : Shape). s.proper) same) ∙ h.proper;
    }

-- ---- fields and classes

field_aside : (x : FieldUpgrade) → field_upgrade_words (field_on_line_1 x) ≡ lined (field_upgrade_words x)
field_aside x =
    let front : Word → List Word → List Word = λ t w. t ∷ name_word (name_on_line_1 x.name) ∷ Fixed (codes "=") ∷ w in
    ap₂ front (type_lined x.type_name)
    (ap (λ (w : List Word). w ++ Fixed (codes ";") ∷ []) (tf_aside x.value).words ∙ sym (lined_both (tf_words x.value) (Fixed (codes ";") ∷ [])))

class_aside : (x : ClassUpgrade) → class_upgrade_words (class_on_line_1 x) ≡ lined (class_upgrade_words x)
class_aside x =
    let fields : List Word = in_turn (map field_upgrade_words x.fields) in
    let methods : List Word = in_turn (map method_words x.methods) in
    let front : List Word → List Word = λ w. Fixed (codes "class") ∷ name_word (name_on_line_1 x.name) ∷ Fixed (codes "{") ∷ w in
    ap front
    (ap₂ (λ (fs ms : List (List Word)). in_turn fs ++ (in_turn ms ++ Fixed (codes "}") ∷ []))
    (each_aside field_on_line_1 field_upgrade_words lined field_aside x.fields)
    (each_aside method_on_line_1 method_words lined method_aside x.methods)
    ∙ ap₂ (λ (f m : List Word). f ++ (m ++ Fixed (codes "}") ∷ []))
    (sym (lined_turns (map field_upgrade_words x.fields))) (sym (lined_turns (map method_words x.methods)))
    ∙ ap (λ (w : List Word). lined fields ++ w) (sym (lined_both methods (Fixed (codes "}") ∷ [])))
    ∙ sym (lined_both fields (methods ++ Fixed (codes "}") ∷ [])))

fields_stay : (xs : List FieldUpgrade) → AllByRecursion IsFieldUpgrade xs → AllByRecursion IsFieldUpgrade (map field_on_line_1 xs)
fields_stay [] h = tt
fields_stay (x ∷ xs) h = (tf_stays x.value h.0, fields_stay xs h.1)

class_stays : (x : ClassUpgrade) → IsClassUpgrade x → IsClassUpgrade (class_on_line_1 x)
class_stays x h = record {
  fields = subst (λ n. n ≤ 32) (sym (length-map x.fields field_on_line_1)) h.fields;
  each_field = fields_stay x.fields h.each_field;
  methods = subst (λ n. n ≤ 64) (sym (length-map x.methods method_on_line_1)) h.methods;
  each_method = methods_stay x.methods h.each_method;
}

classes_stay : (xs : List ClassUpgrade) → AllByRecursion IsClassUpgrade xs → AllByRecursion IsClassUpgrade (map class_on_line_1 xs)
classes_stay [] h = tt
classes_stay (x ∷ xs) h = (class_stays x h.0, classes_stay xs h.1)

-- ---- upgrades

upgrade_aside : (x : Upgrade) → upgrade_words (upgrade_on_line_1 x) ≡ lined (upgrade_words x)
upgrade_aside x =
    let classes : List Word = in_turn (map class_upgrade_words x.classes) in
    let front : List Word → List Word = λ w. FixedAt (codes "upgrade") 1 ∷ Fixed (codes "{") ∷ w in
    ap front
    (ap (λ (cs : List (List Word)). in_turn cs ++ Fixed (codes "}") ∷ []) (each_aside class_on_line_1 class_upgrade_words lined class_aside x.classes)
    ∙ ap (λ (w : List Word). w ++ Fixed (codes "}") ∷ []) (sym (lined_turns (map class_upgrade_words x.classes)))
    ∙ sym (lined_both classes (Fixed (codes "}") ∷ [])))

upgrade_stays : (x : Upgrade) → IsUpgrade x → IsUpgrade (upgrade_on_line_1 x)
upgrade_stays x h = record {
  some = subst (λ n. 1 ≤ n) (sym (length-map x.classes class_on_line_1)) h.some;
  each = classes_stay x.classes h.each;
}

pub upgrade_read : (tokens : List Token) (upgrade : Upgrade) → AreSpelled tokens → SpellsUpgrade tokens upgrade
    → (printed : List Token) × AreTokensOf (printed_upgrade upgrade) printed × SpellsUpgrade printed (upgrade_on_line_1 upgrade)
upgrade_read tokens upgrade spelled spells =
    let p = words_printed tokens (upgrade_words upgrade) spelled spells.0 in
    (p.tokens, p.are, (subst (AreWords p.tokens) (sym (upgrade_aside upgrade)) p.spell, upgrade_stays upgrade spells.1))

pub upgrade_again : (upgrade : Upgrade) → printed_upgrade (upgrade_on_line_1 upgrade) ≡ printed_upgrade upgrade
upgrade_again upgrade = ap with_spaces (upgrade_aside upgrade) ∙ printed_lined (upgrade_words upgrade)
