-- How expressions are read.
use Rattle.std.specs.Prelude.{◌+◌, ◌-◌, max, pos, ℕ, zero, suc, Bool, ◌&&◌, nat_lt, List, [], ◌∷◌, ◌++◌, Option, Some, None, if◌then◌else◌, codes}
use Rattle.class_defs.specs.declared.expressions.Name.{Name}
use Rattle.class_defs.specs.declared.expressions.At.{At}
use Rattle.class_defs.specs.declared.expressions.Operator.{Operator}
use Rattle.class_defs.specs.declared.expressions.Operator.TheVariants as operators
use Rattle.class_defs.specs.declared.expressions.Expr.{Expr}
use Rattle.class_defs.specs.declared.expressions.Expr.TheVariants as e
use Rattle.class_defs.specs.declared.literals.Literal.TheVariants as literal
use Rattle.class_defs.specs.declared.places.Place.{Place}
use Rattle.class_defs.specs.Shape.{in_method}
use Rattle.script_text.specs.declared.token.Token.{Token}
use Rattle.script_text.specs.declared.token.TokenKind.{TokenKind}
use Rattle.script_text.specs.declared.token.TokenKind.TheVariants as kinds
use Rattle.std.specs.Str.{bytes_eq}
use Rattle.std.specs.Option.{is_some}
use Rattle.method_parse.specs.declared.deep.Deep.{Deep}
use Rattle.method_parse.specs.declared.deep.Arguments.{Arguments}
use Rattle.method_parse.specs.declared.deep.Level.{Level}
use Rattle.method_parse.specs.declared.deep.Level.TheVariants as levels
use Rattle.method_parse.specs.declared.deep.Start.{Start}
use Rattle.method_parse.specs.declared.deep.Start.TheVariants as starts
use Rattle.method_parse.specs.declared.deep.Room.{Room}
use Rattle.method_parse.specs.Matching.{is}
use Rattle.method_parse.specs.Reader.{Reader, ◌>>=◌, give, stuck, take_by, word, name, number, quoted, if_next, repeat, repeat_all}

abbrev pub leaf : Expr → Deep
leaf expr = record { expr = expr; depth = 1 }

-- `at` and a number, or nothing
unfoldable pub at : Reader (Option At)
at = if_next (is (codes "at"))
    (do
      line ← word (codes "at")
      n ← number
      give (Some (record { line = line; number = n.0; number_line = n.1 })))
    (give None)

-- one more argument
abbrev pub with_argument : Arguments → Deep → Arguments
with_argument arguments argument =
    record { exprs = arguments.exprs ++ argument.expr ∷ []; depth = max arguments.depth argument.depth }

abbrev pub first_argument : Deep → Arguments
first_argument argument = record { exprs = argument.expr ∷ []; depth = argument.depth }

unfoldable pub argument : Reader Deep → Arguments → Reader Arguments
argument inner arguments = do
  comma ← word (codes ",")
  more ← inner
  give (with_argument arguments more)

abbrev pub is_comma : Arguments → Token → Bool
is_comma arguments = is (codes ",")

unfoldable pub more_arguments : Reader Deep → Arguments → Reader Arguments
more_arguments inner first = repeat_all is_comma (argument inner) first

unfoldable pub some_arguments : Reader Deep → Reader Arguments
some_arguments inner = do
  first ← inner
  more_arguments inner (first_argument first)

-- the arguments of a call, up to the `)`
unfoldable pub listed : Reader Deep → Reader Arguments
listed inner = if_next (is (codes ")")) (give (record { exprs = []; depth = 0 })) (some_arguments inner)

-- the arguments of a call, with their parentheses
unfoldable pub arguments : Reader Deep → Reader Arguments
arguments inner = do
  open_line ← word (codes "(")
  read ← listed inner
  close_line ← word (codes ")")
  give read

abbrev pub call : Deep → Name → Arguments → Deep
call receiver method arguments =
    record { expr = e.Call receiver.expr method arguments.exprs; depth = max receiver.depth arguments.depth + 1 }

-- whether a bracket may open, and an expression have parts
abbrev pub may_call : Room → Bool
may_call room = nat_lt 0 room.brackets && nat_lt 1 room.depth

-- whether a call of an expression may stand
abbrev pub may_call_on : Room → Deep → Bool
may_call_on room deep = nat_lt 0 room.brackets && nat_lt deep.depth room.depth

abbrev pub is_field_call : Room → Token → Bool
is_field_call room token = is (codes "(") token && may_call room

-- what stands behind `this` and a name
unfoldable pub after_field : Room → Reader Deep → ℕ → Name → Reader Deep
after_field room inner line field = if_next (is_field_call room)
    (do
      read ← arguments inner
      give (call (leaf (e.This line)) field read))
    (give (leaf (e.Field field)))

-- what stands behind `this`
unfoldable pub after_this : Room → Reader Deep → ℕ → Reader Deep
after_this room inner line = if_next (is (codes "."))
    (do
      dot ← word (codes ".")
      field ← name
      after_field room inner line field)
    (give (leaf (e.This line)))

-- how an expression without operators and calls begins
abbrev pub fixed_start : Place → Room → List ℕ → Start
fixed_start place room text =
    if bytes_eq text (codes "null") then starts.Null
    else (if bytes_eq text (codes "this") && in_method place then starts.This
    else (if bytes_eq text (codes "new") && nat_lt 0 room.brackets then starts.New
    else (if bytes_eq text (codes "(") && may_call room then starts.Parens
    else starts.Other)))

abbrev pub start_by : Place → Room → TokenKind → List ℕ → Start
start_by place room kinds.Name text = starts.Name
start_by place room kinds.Number text = starts.Number
start_by place room kinds.Quoted text = starts.Quoted
start_by place room kinds.Keyword text = fixed_start place room text
start_by place room kinds.Symbol text = fixed_start place room text

unfoldable pub start : Place → Room → List Token → Start
start place room [] = starts.Other
start place room (token ∷ tokens) = start_by place room token.kind token.text

-- `new`, a class, and where the object is to lie
unfoldable pub created : Reader Deep
created = do
  line ← word (codes "new")
  class ← name
  open_line ← word (codes "(")
  close_line ← word (codes ")")
  place ← at
  give (leaf (e.New class place))

-- an expression in its parentheses
unfoldable pub parens : Reader Deep → Reader Deep
parens inner = do
  line ← word (codes "(")
  read ← inner
  close_line ← word (codes ")")
  give (record { expr = e.Parens read.expr line; depth = read.depth + 1 })

unfoldable pub primary_by : Room → Reader Deep → Start → Reader Deep
primary_by room inner starts.Number = do
  n ← number
  give (leaf (e.Literal (literal.Int (pos n.0)) n.1))
primary_by room inner starts.Quoted = do
  text ← quoted
  give (leaf (e.Literal (literal.Text text.0) text.1))
primary_by room inner starts.Name = do
  variable ← name
  give (leaf (e.Variable variable))
primary_by room inner starts.Null = do
  line ← word (codes "null")
  give (leaf (e.Null line))
primary_by room inner starts.This = do
  line ← word (codes "this")
  after_this room inner line
primary_by room inner starts.New = created
primary_by room inner starts.Parens = parens inner
primary_by room inner starts.Other = stuck

unfoldable pub primary : Place → Room → Reader Deep → Reader Deep
primary place room inner = λ tokens. primary_by room inner (start place room tokens) tokens

-- one more call
unfoldable pub called : Reader Deep → Deep → Reader Deep
called inner receiver = do
  dot ← word (codes ".")
  method ← name
  read ← arguments inner
  give (call receiver method read)

abbrev pub is_call : Room → Deep → Token → Bool
is_call room deep token = is (codes ".") token && may_call_on room deep

unfoldable pub calls : Room → Reader Deep → Deep → Reader Deep
calls room inner receiver = repeat room.depth (is_call room) (called inner) receiver

unfoldable pub postfix : Place → Room → Reader Deep → Reader Deep
postfix place room inner = primary place room inner >>= calls room inner

-- the parts of an expression in a room: what each may be at a level, and what stands in parentheses
abbrev pub Parts : Type 0
Parts = Level → Reader Deep

abbrev pub is_minus : Room → Token → Bool
is_minus room token = is (codes "-") token && nat_lt 1 room.depth

unfoldable pub unary : Place → Room → Reader Deep → Parts → Reader Deep
unary place room inner parts = if_next (is_minus room)
    (do
      line ← word (codes "-")
      operand ← parts levels.Unary
      give (record { expr = e.Negate operand.expr line; depth = operand.depth + 1 }))
    (postfix place room inner)

-- the operator of a level that a text is
abbrev pub operator_of : Level → List ℕ → Option Operator
operator_of levels.Unary text = None
operator_of levels.Term text = if bytes_eq text (codes "*") then Some operators.Multiply else None
operator_of levels.Sum text =
    if bytes_eq text (codes "+") then Some operators.Add
    else (if bytes_eq text (codes "-") then Some operators.Subtract else None)
operator_of levels.Comparison text =
    if bytes_eq text (codes "==") then Some operators.Equal
    else (if bytes_eq text (codes "!=") then Some operators.Unequal
    else (if bytes_eq text (codes "<") then Some operators.Less else None))

abbrev pub operator_by : Level → TokenKind → List ℕ → Option Operator
operator_by level kinds.Name text = None
operator_by level kinds.Number text = None
operator_by level kinds.Quoted text = None
operator_by level kinds.Keyword text = operator_of level text
operator_by level kinds.Symbol text = operator_of level text

abbrev pub operator_in : Level → Token → Option Operator
operator_in level token = operator_by level token.kind token.text

abbrev pub with_operator_line : Option Operator → ℕ → Option (Operator × ℕ)
with_operator_line (Some o) line = Some (o, line)
with_operator_line None line = None

unfoldable pub operator : Level → Reader (Operator × ℕ)
operator level = take_by (λ token. with_operator_line (operator_in level token) token.line)

-- the level of what stands to the right of an operator
abbrev pub tighter : Level → Level
tighter levels.Comparison = levels.Sum
tighter levels.Sum = levels.Term
tighter levels.Term = levels.Unary
tighter levels.Unary = levels.Unary

-- one more operator and its right operand
unfoldable pub joined : Level → Parts → Deep → Reader Deep
joined level parts left = do
  o ← operator level
  right ← parts (tighter level)
  give (record { expr = e.Binary o.0 left.expr right.expr o.1; depth = max left.depth right.depth + 1 })

abbrev pub is_join : Level → Room → Deep → Token → Bool
is_join level room left token = is_some (operator_in level token) && nat_lt left.depth room.depth

-- a comparison has one operator; a sum and a term have as many as their depth allows
abbrev pub most_joins : Level → Room → ℕ
most_joins levels.Comparison room = 1
most_joins levels.Sum room = room.depth
most_joins levels.Term room = room.depth
most_joins levels.Unary room = 0

unfoldable pub joins : Level → Room → Parts → Deep → Reader Deep
joins level room parts left = repeat (most_joins level room) (is_join level room) (joined level parts) left

-- an expression of a level
unfoldable pub at_level : Place → Room → Reader Deep → Parts → Level → Reader Deep
at_level place room inner parts levels.Unary = unary place room inner parts
at_level place room inner parts levels.Term = unary place room inner parts >>= joins levels.Term room parts
at_level place room inner parts levels.Sum =
    (unary place room inner parts >>= joins levels.Term room parts) >>= joins levels.Sum room parts
at_level place room inner parts levels.Comparison =
    ((unary place room inner parts >>= joins levels.Term room parts) >>= joins levels.Sum room parts) >>= joins levels.Comparison room parts

-- an expression of a level, with room for brackets and for its depth
unfoldable pub expression_in : Place → ℕ → ℕ → Level → Reader Deep
expression_in place brackets zero level = stuck
expression_in place brackets (suc depth) level =
    at_level place (record { brackets = brackets; depth = suc depth })
    (expression_in place (brackets - 1) depth levels.Comparison)
    (expression_in place brackets depth) level

-- what stands in parentheses in an expression of a room, and what its operands may be
abbrev pub inner_of : Place → Room → Reader Deep
inner_of place room = expression_in place (room.brackets - 1) (room.depth - 1) levels.Comparison

abbrev pub parts_of : Place → Room → Parts
parts_of place room = expression_in place room.brackets (room.depth - 1)
