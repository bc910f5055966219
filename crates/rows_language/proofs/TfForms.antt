-- What an expression of an upgrade gives, by its form; and the same of what the rules say of it.
use Rattle.std.proofs.Common.{◌≡◌, ℕ, ℤ, Bool, List, Option, ap, ◌∙◌, sym}
use Rattle.thor_value.specs.declared.names.Oref.{Oref}
use Rattle.thor_value.specs.declared.values.Value.{Value}
use Rattle.class_defs.specs.KeptOwnership.{handed, handed_step, owned_step, reads_owned}
use Rattle.class_defs.specs.Upgrades.{tf_step, tf_value}
use Rattle.class_defs.specs.declared.classes.Class.{Class}
use Rattle.class_defs.specs.declared.expressions.Name.{Name}
use Rattle.class_defs.specs.declared.expressions.Operator.{Operator}
use Rattle.class_defs.specs.declared.literals.Literal.{Literal}
use Rattle.class_defs.specs.declared.store.Object.{Object}
use Rattle.class_defs.specs.declared.upgrades.Tf.{Tf, map-Tf}
use Rattle.class_defs.specs.declared.upgrades.Tf.TheFolds.{fold-roll-Tf}
use Rattle.class_defs.specs.declared.upgrades.Tf.TheOpen.{Tf-F}
use Rattle.class_defs.specs.declared.upgrades.Tf.TheVariants as tf

module _ (classes : List Class) (objects : Oref → Option Object) (o : Object) where
  abbrev given : Tf → Option Value
  given = tf_value classes objects o

  abbrev layer : Tf-F Tf → Option Value
  layer e = tf_step classes objects o (map-Tf Tf (Option Value) given e)

  pub value_null : (line : ℕ) → tf_value classes objects o (tf.Null line) ≡ layer (Tf-F.Null line)
  unfolding tf_value
  value_null line = ap given (sym (tf.rolls-Null line)) ∙ fold-roll-Tf (Option Value) (tf_step classes objects o) (Tf-F.Null line)

  pub value_literal : (n : Literal) (line : ℕ) → tf_value classes objects o (tf.Literal n line) ≡ layer (Tf-F.Literal n line)
  unfolding tf_value
  value_literal n line = ap given (sym (tf.rolls-Literal n line)) ∙ fold-roll-Tf (Option Value) (tf_step classes objects o) (Tf-F.Literal n line)

  pub value_path : (names : List Name) (line : ℕ) → tf_value classes objects o (tf.Path names line) ≡ layer (Tf-F.Path names line)
  unfolding tf_value
  value_path names line = ap given (sym (tf.rolls-Path names line)) ∙ fold-roll-Tf (Option Value) (tf_step classes objects o) (Tf-F.Path names line)

  pub value_parens : (inner : Tf) (line : ℕ) → tf_value classes objects o (tf.Parens inner line) ≡ layer (Tf-F.Parens inner line)
  unfolding tf_value
  value_parens inner line = ap given (sym (tf.rolls-Parens inner line)) ∙ fold-roll-Tf (Option Value) (tf_step classes objects o) (Tf-F.Parens inner line)

  pub value_negate : (operand : Tf) (line : ℕ) → tf_value classes objects o (tf.Negate operand line) ≡ layer (Tf-F.Negate operand line)
  unfolding tf_value
  value_negate operand line =
      ap given (sym (tf.rolls-Negate operand line)) ∙ fold-roll-Tf (Option Value) (tf_step classes objects o) (Tf-F.Negate operand line)

  pub value_binary : (operator : Operator) (left right : Tf) (line : ℕ)
      → tf_value classes objects o (tf.Binary operator left right line) ≡ layer (Tf-F.Binary operator left right line)
  unfolding tf_value
  value_binary operator left right line =
      ap given (sym (tf.rolls-Binary operator left right line))
      ∙ fold-roll-Tf (Option Value) (tf_step classes objects o) (Tf-F.Binary operator left right line)

module _ (classes : List Class) (c : ℕ) where
  abbrev owned_layer : Tf-F Tf → Bool
  owned_layer e = owned_step classes c (map-Tf Tf Bool (reads_owned classes c) e)

  pub reads_literal : (n : Literal) (line : ℕ) → reads_owned classes c (tf.Literal n line) ≡ owned_layer (Tf-F.Literal n line)
  unfolding reads_owned
  reads_literal n line = ap (reads_owned classes c) (sym (tf.rolls-Literal n line)) ∙ fold-roll-Tf Bool (owned_step classes c) (Tf-F.Literal n line)

  pub reads_path : (names : List Name) (line : ℕ) → reads_owned classes c (tf.Path names line) ≡ owned_layer (Tf-F.Path names line)
  unfolding reads_owned
  reads_path names line = ap (reads_owned classes c) (sym (tf.rolls-Path names line)) ∙ fold-roll-Tf Bool (owned_step classes c) (Tf-F.Path names line)

  pub reads_binary : (operator : Operator) (left right : Tf) (line : ℕ)
      → reads_owned classes c (tf.Binary operator left right line) ≡ owned_layer (Tf-F.Binary operator left right line)
  unfolding reads_owned
  reads_binary operator left right line =
      ap (reads_owned classes c) (sym (tf.rolls-Binary operator left right line))
      ∙ fold-roll-Tf Bool (owned_step classes c) (Tf-F.Binary operator left right line)

  abbrev handed_layer : Tf-F Tf → Option (Option ℕ)
  handed_layer e = handed_step classes c (map-Tf Tf (Option (Option ℕ)) (handed classes c) e)

  pub hands_path : (names : List Name) (line : ℕ) → handed classes c (tf.Path names line) ≡ handed_layer (Tf-F.Path names line)
  unfolding handed
  hands_path names line = ap (handed classes c) (sym (tf.rolls-Path names line)) ∙ fold-roll-Tf (Option (Option ℕ)) (handed_step classes c) (Tf-F.Path names line)

pub ruleset tf_forms = (value_null, value_literal, value_path, value_parens, value_negate, value_binary, reads_literal, reads_path, reads_binary, hands_path)
