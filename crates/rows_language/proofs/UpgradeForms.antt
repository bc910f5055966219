-- An expression of an upgrade by its form: what a fold over it gives, and its outermost form.
use Rattle.std.proofs.Common.{◌≡◌, ℕ, ℤ, List, ap, ◌∙◌, sym}
use Rattle.class_defs.specs.declared.expressions.Name.{Name}
use Rattle.class_defs.specs.declared.expressions.Operator.{Operator}
use Rattle.class_defs.specs.declared.literals.Literal.{Literal}
use Rattle.class_defs.specs.declared.upgrades.Tf.{Tf, fold-Tf, map-Tf, out-Tf}
use Rattle.class_defs.specs.declared.upgrades.Tf.TheFolds.{fold-roll-Tf}
use Rattle.class_defs.specs.declared.upgrades.Tf.TheOpen.{Tf-F}
use Rattle.class_defs.specs.declared.upgrades.Tf.TheVariants as tf
use Rattle.class_defs.specs.declared.upgrades.Tf.TheViews.{out-roll-Tf}

module _ (A : Type 0) (step : Tf-F A → A) where
  abbrev result : Tf → A
  result = fold-Tf A step

  abbrev layer : Tf-F Tf → A
  layer e = step (map-Tf Tf A result e)

  pub fold_null : (line : ℕ) → fold-Tf A step (tf.Null line) ≡ layer (Tf-F.Null line)
  fold_null line = ap result (sym (tf.rolls-Null line)) ∙ fold-roll-Tf A step (Tf-F.Null line)

  pub fold_literal : (n : Literal) (line : ℕ) → fold-Tf A step (tf.Literal n line) ≡ layer (Tf-F.Literal n line)
  fold_literal n line = ap result (sym (tf.rolls-Literal n line)) ∙ fold-roll-Tf A step (Tf-F.Literal n line)

  pub fold_path : (names : List Name) (line : ℕ) → fold-Tf A step (tf.Path names line) ≡ layer (Tf-F.Path names line)
  fold_path names line = ap result (sym (tf.rolls-Path names line)) ∙ fold-roll-Tf A step (Tf-F.Path names line)

  pub fold_parens : (inner : Tf) (line : ℕ) → fold-Tf A step (tf.Parens inner line) ≡ layer (Tf-F.Parens inner line)
  fold_parens inner line = ap result (sym (tf.rolls-Parens inner line)) ∙ fold-roll-Tf A step (Tf-F.Parens inner line)

  pub fold_negate : (operand : Tf) (line : ℕ) → fold-Tf A step (tf.Negate operand line) ≡ layer (Tf-F.Negate operand line)
  fold_negate operand line = ap result (sym (tf.rolls-Negate operand line)) ∙ fold-roll-Tf A step (Tf-F.Negate operand line)

  pub fold_binary : (operator : Operator) (left right : Tf) (line : ℕ)
      → fold-Tf A step (tf.Binary operator left right line) ≡ layer (Tf-F.Binary operator left right line)
  fold_binary operator left right line =
      ap result (sym (tf.rolls-Binary operator left right line)) ∙ fold-roll-Tf A step (Tf-F.Binary operator left right line)

pub is_null : (line : ℕ) → out-Tf (tf.Null line) ≡ Tf-F.Null line
is_null line = ap out-Tf (sym (tf.rolls-Null line)) ∙ out-roll-Tf (Tf-F.Null line)

pub is_literal : (n : Literal) (line : ℕ) → out-Tf (tf.Literal n line) ≡ Tf-F.Literal n line
is_literal n line = ap out-Tf (sym (tf.rolls-Literal n line)) ∙ out-roll-Tf (Tf-F.Literal n line)

pub is_path : (names : List Name) (line : ℕ) → out-Tf (tf.Path names line) ≡ Tf-F.Path names line
is_path names line = ap out-Tf (sym (tf.rolls-Path names line)) ∙ out-roll-Tf (Tf-F.Path names line)

pub is_parens : (inner : Tf) (line : ℕ) → out-Tf (tf.Parens inner line) ≡ Tf-F.Parens inner line
is_parens inner line = ap out-Tf (sym (tf.rolls-Parens inner line)) ∙ out-roll-Tf (Tf-F.Parens inner line)

pub is_negate : (operand : Tf) (line : ℕ) → out-Tf (tf.Negate operand line) ≡ Tf-F.Negate operand line
is_negate operand line = ap out-Tf (sym (tf.rolls-Negate operand line)) ∙ out-roll-Tf (Tf-F.Negate operand line)

pub is_binary : (operator : Operator) (left right : Tf) (line : ℕ)
    → out-Tf (tf.Binary operator left right line) ≡ Tf-F.Binary operator left right line
is_binary operator left right line = ap out-Tf (sym (tf.rolls-Binary operator left right line)) ∙ out-roll-Tf (Tf-F.Binary operator left right line)

pub ruleset upgrade_forms = (fold_null, fold_literal, fold_path, fold_parens, fold_negate, fold_binary, is_null, is_literal, is_path, is_parens, is_negate, is_binary)
