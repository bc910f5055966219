-- No reader of upgrades looks further than the next token.
use Rattle.std.proofs.Common.{ℕ, zero, suc, List, []}
use Rattle.std.specs.Prelude.{codes}
use Rattle.class_defs.specs.declared.expressions.Name.{Name}
use Rattle.class_defs.specs.declared.upgrades.ClassUpgrade.{ClassUpgrade}
use Rattle.method_parse.specs.Expressions.{operator, tighter}
use Rattle.method_parse.specs.Reader.{word}
use Rattle.method_parse.specs.declared.deep.Level.{Level}
use Rattle.method_parse.specs.declared.deep.Level.TheVariants as levels
use Rattle.method_parse.proofs.Local.{Local, Strict, local_bind, local_give, local_if, local_name, local_number, local_one, local_quoted, local_repeat, local_repeat_all, local_stuck, local_type, local_word, strict_bind, strict_word}
use Rattle.method_parse.proofs.LocalReaders.{local_methods}
use Rattle.upgrade_defs.specs.Expressions.{Parts, all_names, at_level, dotted, expression_in, integer, is_dot, is_join, joined, joins, more_names, parens, path, primary, sum, term, text_literal, unary, value}
use Rattle.upgrade_defs.specs.Upgrades.{all_classes, class, field, fields, is_class, more_classes, more_fields, upgrade}
use Rattle.upgrade_defs.specs.declared.deep.Deep.{Deep}

-- ---- expressions

local_dotted : Local dotted
unfolding dotted
local_dotted = local_bind (local_word _) (λ d. local_bind local_name (λ n. local_give _))

strict_dotted : Strict dotted
unfolding dotted
strict_dotted = strict_bind (word (codes ".")) _ (strict_word _) (λ d. local_bind local_name (λ n. local_give _))

local_more : (ns : List Name) → Local (more_names ns)
unfolding more_names
local_more ns = local_bind local_dotted (λ n. local_give _)

strict_more : (ns : List Name) → Strict (more_names ns)
unfolding more_names
strict_more ns = strict_bind dotted _ strict_dotted (λ n. local_give _)

local_names : (ns : List Name) → Local (all_names ns)
unfolding all_names
local_names ns = local_repeat_all is_dot more_names strict_more local_more ns

local_path : Local path
unfolding path
local_path = local_bind (local_word _) (λ l. local_bind (local_more []) (λ one. local_bind (local_names one) (λ ns. local_give _)))

local_integer : Local integer
unfolding integer
local_integer = local_bind local_number (λ n. local_give _)

module _ (room : ℕ) (parts : Parts) (parts_local : (l : Level) → Local (parts l)) where
  local_parens : Local (parens (parts levels.Sum))
  unfolding parens
  local_parens = local_bind (local_word _) (λ l. local_bind (parts_local levels.Sum) (λ d. local_bind (local_word _) (λ c. local_give _)))

  local_primary : Local (primary room (parts levels.Sum))
  unfolding primary
  local_primary = local_if _ local_path (local_if _ local_parens local_integer)

  local_unary : Local (unary room parts)
  unfolding unary
  local_unary = local_if _ (local_bind (local_word _) (λ l. local_bind (parts_local levels.Unary) (λ d. local_give _))) local_primary

  local_operator : (l : Level) → Local (operator l)
  unfolding operator
  local_operator l = local_one _

  local_joined : (l : Level) (d : Deep) → Local (joined l parts d)
  unfolding joined
  local_joined l d = local_bind (local_operator l) (λ o. local_bind (parts_local (tighter l)) (λ r. local_give _))

  local_joins : (l : Level) (d : Deep) → Local (joins l room parts d)
  unfolding joins
  local_joins l d = local_repeat (is_join l room) (joined l parts) (local_joined l) room d

  local_term : Local (term room parts)
  unfolding term
  local_term = local_bind local_unary (local_joins levels.Term)

  local_sum : Local (sum room parts)
  unfolding sum
  local_sum = local_bind local_term (local_joins levels.Sum)

  local_level : (l : Level) → Local (at_level room parts l)
  unfolding at_level
  local_level levels.Unary = local_unary
  local_level levels.Term = local_term
  local_level levels.Sum = local_sum
  local_level levels.Comparison = local_sum

local_expression : (depth : ℕ) (l : Level) → Local (expression_in depth l)
unfolding expression_in
local_expression zero l = local_stuck
local_expression (suc depth) l = local_level (suc depth) (expression_in depth) (local_expression depth) l

local_value : Local value
unfolding value text_literal
local_value =
    local_if _ (local_bind (local_word _) (λ l. local_give _))
    (local_if _ (local_bind local_quoted (λ t. local_give _)) (local_bind (local_expression 32 levels.Sum) (λ d. local_give _)))

-- ---- classes

local_field : Local field
unfolding field
local_field = local_bind local_type
    (λ t. local_bind local_name (λ n. local_bind (local_word _) (λ q. local_bind local_value (λ v. local_bind (local_word _) (λ e. local_give _)))))

local_fields : Local fields
unfolding fields more_fields
local_fields = local_repeat _ _ (λ xs. local_bind local_field (λ x. local_give _)) 32 []

local_class : Local class
unfolding class
local_class =
    local_bind (local_word _) (λ l. local_bind local_name
    (λ n. local_bind (local_word _)
    (λ o. local_bind local_fields (λ fs. local_bind local_methods (λ ms. local_bind (local_word _) (λ c. local_give _))))))

strict_class : Strict class
unfolding class
strict_class =
    strict_bind (word (codes "class")) _ (strict_word _)
    (λ l. local_bind local_name (λ n. local_bind (local_word _)
    (λ o. local_bind local_fields (λ fs. local_bind local_methods (λ ms. local_bind (local_word _) (λ c. local_give _))))))

local_more_classes : (cs : List ClassUpgrade) → Local (more_classes cs)
unfolding more_classes
local_more_classes cs = local_bind local_class (λ c. local_give _)

strict_more_classes : (cs : List ClassUpgrade) → Strict (more_classes cs)
unfolding more_classes
strict_more_classes cs = strict_bind class _ strict_class (λ c. local_give _)

local_classes : (cs : List ClassUpgrade) → Local (all_classes cs)
unfolding all_classes
local_classes cs = local_repeat_all is_class more_classes strict_more_classes local_more_classes cs

pub local_upgrade : Local upgrade
unfolding upgrade
local_upgrade =
    local_bind (local_word _) (λ l. local_bind (local_word _)
    (λ o. local_bind (local_more_classes []) (λ one. local_bind (local_classes one) (λ all. local_bind (local_word _) (λ c. local_give _)))))
