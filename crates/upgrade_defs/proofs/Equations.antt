-- The words and the shape of each form of an expression.
use Rattle.std.proofs.Common.{◌≡◌, ℕ, ℤ, List, ap, sym, ◌∙◌}
use Rattle.class_defs.specs.Shape.{Shape}
use Rattle.class_defs.specs.Words.{Word}
use Rattle.class_defs.specs.declared.expressions.Name.{Name}
use Rattle.class_defs.specs.declared.expressions.Operator.{Operator}
use Rattle.class_defs.specs.declared.literals.Literal.{Literal}
use Rattle.class_defs.specs.declared.upgrades.Tf.{Tf}
use Rattle.class_defs.specs.declared.upgrades.Tf.TheFolds.{fold-roll-Tf}
use Rattle.class_defs.specs.declared.upgrades.Tf.TheOpen.{Tf-F}
use Rattle.class_defs.specs.declared.upgrades.Tf.TheVariants as tf
use Rattle.upgrade_defs.specs.Grammar.{tf_shape, tf_shape_step}
use Rattle.upgrade_defs.specs.Spelling.{tf_step, tf_words}

pub words-Null : (l : ℕ) → tf_words (tf.Null l) ≡ tf_step (Tf-F.Null l)
words-Null l = ap tf_words (sym (tf.rolls-Null l)) ∙ fold-roll-Tf (List Word) tf_step (Tf-F.Null l)

pub shape-Null : (l : ℕ) → tf_shape (tf.Null l) ≡ tf_shape_step (Tf-F.Null l)
shape-Null l = ap tf_shape (sym (tf.rolls-Null l)) ∙ fold-roll-Tf Shape tf_shape_step (Tf-F.Null l)

pub words-Literal : (v : Literal) (l : ℕ) → tf_words (tf.Literal v l) ≡ tf_step (Tf-F.Literal v l)
words-Literal v l = ap tf_words (sym (tf.rolls-Literal v l)) ∙ fold-roll-Tf (List Word) tf_step (Tf-F.Literal v l)

pub shape-Literal : (v : Literal) (l : ℕ) → tf_shape (tf.Literal v l) ≡ tf_shape_step (Tf-F.Literal v l)
shape-Literal v l = ap tf_shape (sym (tf.rolls-Literal v l)) ∙ fold-roll-Tf Shape tf_shape_step (Tf-F.Literal v l)

pub words-Path : (ns : List Name) (l : ℕ) → tf_words (tf.Path ns l) ≡ tf_step (Tf-F.Path ns l)
words-Path ns l = ap tf_words (sym (tf.rolls-Path ns l)) ∙ fold-roll-Tf (List Word) tf_step (Tf-F.Path ns l)

pub shape-Path : (ns : List Name) (l : ℕ) → tf_shape (tf.Path ns l) ≡ tf_shape_step (Tf-F.Path ns l)
shape-Path ns l = ap tf_shape (sym (tf.rolls-Path ns l)) ∙ fold-roll-Tf Shape tf_shape_step (Tf-F.Path ns l)

pub words-Parens : (x : Tf) (l : ℕ) → tf_words (tf.Parens x l) ≡ tf_step (Tf-F.Parens (tf_words x) l)
words-Parens x l = ap tf_words (sym (tf.rolls-Parens x l)) ∙ fold-roll-Tf (List Word) tf_step (Tf-F.Parens x l)

pub shape-Parens : (x : Tf) (l : ℕ) → tf_shape (tf.Parens x l) ≡ tf_shape_step (Tf-F.Parens (tf_shape x) l)
shape-Parens x l = ap tf_shape (sym (tf.rolls-Parens x l)) ∙ fold-roll-Tf Shape tf_shape_step (Tf-F.Parens x l)

pub words-Negate : (x : Tf) (l : ℕ) → tf_words (tf.Negate x l) ≡ tf_step (Tf-F.Negate (tf_words x) l)
words-Negate x l = ap tf_words (sym (tf.rolls-Negate x l)) ∙ fold-roll-Tf (List Word) tf_step (Tf-F.Negate x l)

pub shape-Negate : (x : Tf) (l : ℕ) → tf_shape (tf.Negate x l) ≡ tf_shape_step (Tf-F.Negate (tf_shape x) l)
shape-Negate x l = ap tf_shape (sym (tf.rolls-Negate x l)) ∙ fold-roll-Tf Shape tf_shape_step (Tf-F.Negate x l)

pub words-Binary : (o : Operator) (x y : Tf) (l : ℕ) → tf_words (tf.Binary o x y l) ≡ tf_step (Tf-F.Binary o (tf_words x) (tf_words y) l)
words-Binary o x y l = ap tf_words (sym (tf.rolls-Binary o x y l)) ∙ fold-roll-Tf (List Word) tf_step (Tf-F.Binary o x y l)

pub shape-Binary : (o : Operator) (x y : Tf) (l : ℕ) → tf_shape (tf.Binary o x y l) ≡ tf_shape_step (Tf-F.Binary o (tf_shape x) (tf_shape y) l)
shape-Binary o x y l = ap tf_shape (sym (tf.rolls-Binary o x y l)) ∙ fold-roll-Tf Shape tf_shape_step (Tf-F.Binary o x y l)

pub ruleset the_forms = (
  words-Null,
  words-Literal,
  words-Path,
  words-Parens,
  words-Negate,
  words-Binary,
  shape-Null,
  shape-Literal,
  shape-Path,
  shape-Parens,
  shape-Negate,
  shape-Binary,
)
