-- How the expressions of new fields are read.
use Rattle.std.specs.Prelude.{◌+◌, ◌-◌, max, pos, ℕ, zero, suc, Bool, ◌&&◌, nat_lt, List, [], ◌∷◌, ◌++◌, codes}
use Rattle.std.specs.Option.{is_some}
use Rattle.class_defs.specs.Grammar.{max_depth}
use Rattle.class_defs.specs.declared.expressions.Name.{Name}
use Rattle.class_defs.specs.declared.literals.Literal.TheVariants as literal
use Rattle.class_defs.specs.declared.upgrades.Tf.{Tf}
use Rattle.class_defs.specs.declared.upgrades.Tf.TheVariants as tf
use Rattle.script_text.specs.declared.token.Token.{Token}
use Rattle.method_parse.specs.Expressions.{operator, operator_in, tighter}
use Rattle.method_parse.specs.Matching.{is, is_quoted}
use Rattle.method_parse.specs.Reader.{Reader, ◌>>=◌, give, if_next, name, number, quoted, repeat, repeat_all, stuck, word}
use Rattle.method_parse.specs.declared.deep.Level.{Level}
use Rattle.method_parse.specs.declared.deep.Level.TheVariants as levels
use Rattle.upgrade_defs.specs.declared.deep.Deep.{Deep}

abbrev pub leaf : Tf → Deep
leaf value = record { value = value; depth = 1 }

-- a name behind a dot
unfoldable pub dotted : Reader Name
dotted = do
  dot ← word (codes ".")
  one ← name
  give one

-- one more name of a path
unfoldable pub more_names : List Name → Reader (List Name)
more_names names = do
  one ← dotted
  give (names ++ one ∷ [])

abbrev pub is_dot : List Name → Token → Bool
is_dot names = is (codes ".")

-- the names behind the first
unfoldable pub all_names : List Name → Reader (List Name)
all_names first = repeat_all is_dot more_names first

unfoldable pub path : Reader Deep
path = do
  line ← word (codes "old")
  first ← more_names []
  names ← all_names first
  give (leaf (tf.Path names line))

unfoldable pub integer : Reader Deep
integer = do
  n ← number
  give (leaf (tf.Literal (literal.Int (pos n.0)) n.1))

abbrev pub in_parens : Deep → ℕ → Deep
in_parens deep line = record { value = tf.Parens deep.value line; depth = deep.depth + 1 }

unfoldable pub parens : Reader Deep → Reader Deep
parens inner = do
  line ← word (codes "(")
  read ← inner
  close_line ← word (codes ")")
  give (in_parens read line)

-- whether a parenthesis may open, with room for so much depth
abbrev pub is_open : ℕ → Token → Bool
is_open room token = is (codes "(") token && nat_lt 1 room

unfoldable pub primary : ℕ → Reader Deep → Reader Deep
primary room inner = if_next (is (codes "old")) path (if_next (is_open room) (parens inner) integer)

-- what the operands of an expression may be, at each level
abbrev pub Parts : Type 0
Parts = Level → Reader Deep

abbrev pub is_minus : ℕ → Token → Bool
is_minus room token = is (codes "-") token && nat_lt 1 room

abbrev pub negated : Deep → ℕ → Deep
negated deep line = record { value = tf.Negate deep.value line; depth = deep.depth + 1 }

unfoldable pub unary : ℕ → Parts → Reader Deep
unary room parts = if_next (is_minus room)
    (do
      line ← word (codes "-")
      operand ← parts levels.Unary
      give (negated operand line))
    (primary room (parts levels.Sum))

-- one more operator and its right operand
unfoldable pub joined : Level → Parts → Deep → Reader Deep
joined level parts left = do
  o ← operator level
  right ← parts (tighter level)
  give (record { value = tf.Binary o.0 left.value right.value o.1; depth = max left.depth right.depth + 1 })

abbrev pub is_join : Level → ℕ → Deep → Token → Bool
is_join level room left token = is_some (operator_in level token) && nat_lt left.depth room

-- as many operators in a row as the depth allows
unfoldable pub joins : Level → ℕ → Parts → Deep → Reader Deep
joins level room parts left = repeat room (is_join level room) (joined level parts) left

unfoldable pub term : ℕ → Parts → Reader Deep
term room parts = unary room parts >>= joins levels.Term room parts

unfoldable pub sum : ℕ → Parts → Reader Deep
sum room parts = term room parts >>= joins levels.Sum room parts

-- an expression of a level; there are no comparisons, so the loosest is a sum
unfoldable pub at_level : ℕ → Parts → Level → Reader Deep
at_level room parts levels.Unary = unary room parts
at_level room parts levels.Term = term room parts
at_level room parts levels.Sum = sum room parts
at_level room parts levels.Comparison = sum room parts

-- an expression of a level, with room for its depth
unfoldable pub expression_in : ℕ → Level → Reader Deep
expression_in zero level = stuck
expression_in (suc depth) level = at_level (suc depth) (expression_in depth) level

-- what the operands may be of an expression with so much room
abbrev pub parts_of : ℕ → Parts
parts_of room = expression_in (room - 1)

-- a text
unfoldable pub text_literal : Reader Tf
text_literal = do
  text ← quoted
  give (tf.Literal (literal.Text text.0) text.1)

-- `null`, a text, or a sum
unfoldable pub value : Reader Tf
value = if_next (is (codes "null"))
    (do
      line ← word (codes "null")
      give (tf.Null line))
    (if_next is_quoted text_literal
    (do
      read ← expression_in max_depth levels.Sum
      give read.value))
