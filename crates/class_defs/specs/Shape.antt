-- What the grammar asks of a tree beside its words: how deep it is, how far its brackets nest, how its
-- operators group, and where its words may stand. This project's.
use Rattle.std.specs.Prelude.{ℕ, ◌+◌, max, Bool, true, false, ◌&&◌, nat_le, List, [], ◌∷◌, map}
use Rattle.class_defs.specs.declared.expressions.Operator.{Operator}
use Rattle.class_defs.specs.declared.expressions.Operator.TheVariants.{Add, Subtract, Multiply, Equal, Unequal, Less}
use Rattle.class_defs.specs.declared.expressions.Expr.{Expr}
use Rattle.class_defs.specs.declared.expressions.Expr.TheOpen.{Expr-F}
use Rattle.class_defs.specs.declared.expressions.Expr.TheFolds.{fold-Expr}
use Rattle.class_defs.specs.declared.statements.Stmt.{Stmt}
use Rattle.class_defs.specs.declared.statements.Stmt.TheOpen.{Stmt-F}
use Rattle.class_defs.specs.declared.statements.Stmt.TheFolds.{fold-Stmt}
use Rattle.class_defs.specs.declared.places.Place.{Place}
use Rattle.class_defs.specs.declared.places.Place.TheVariants.{Method, Item}

-- How tightly an expression holds together: a comparison 0, a sum 1, a term 2, a unary minus 3, a call 4,
-- all else 5.
abbrev pub level_of : Operator → ℕ
level_of Equal = 0
level_of Unequal = 0
level_of Less = 0
level_of Add = 1
level_of Subtract = 1
level_of Multiply = 2

-- The least level of an operator's left operand: sums and terms group to the left, and a comparison
-- compares two sums.
abbrev pub left_level : Operator → ℕ
left_level Equal = 1
left_level Unequal = 1
left_level Less = 1
left_level Add = 1
left_level Subtract = 1
left_level Multiply = 2

-- the least level of its right operand
abbrev pub right_level : Operator → ℕ
right_level operator = level_of operator + 1

-- `return` and `this` stand in methods alone, `print` in items alone
abbrev pub in_method : Place → Bool
in_method Method = true
in_method Item = false

abbrev pub in_item : Place → Bool
in_item Method = false
in_item Item = true

-- What is asked of an expression.
pub record Shape : Type 0 where
  -- how tightly it holds together
  pub level : ℕ
  -- its height as a tree; a leaf has 1
  pub depth : ℕ
  -- how many parentheses stand inside one another in it
  pub nesting : ℕ
  -- whether all operands hold together as tightly as their operators ask, and each word may stand here
  pub proper : Bool

-- the greatest depth, the greatest nesting of several, and whether all are proper
abbrev pub deepest : List Shape → ℕ
deepest [] = 0
deepest (shape ∷ shapes) = max shape.depth (deepest shapes)

abbrev pub most_nested : List Shape → ℕ
most_nested [] = 0
most_nested (shape ∷ shapes) = max shape.nesting (most_nested shapes)

abbrev pub all_proper : List Shape → Bool
all_proper [] = true
all_proper (shape ∷ shapes) = shape.proper && all_proper shapes

-- an expression without parts
abbrev pub leaf : ℕ → Bool → Shape
leaf nesting proper = record { level = 5; depth = 1; nesting = nesting; proper = proper }

-- an expression, with the shapes of its parts in their places
abbrev pub shape_step : Place → Expr-F Shape → Shape
shape_step place (Expr-F.Literal value line) = leaf 0 true
shape_step place (Expr-F.Null line) = leaf 0 true
shape_step place (Expr-F.This line) = leaf 0 (in_method place)
shape_step place (Expr-F.Field name) = leaf 0 (in_method place)
shape_step place (Expr-F.Variable name) = leaf 0 true
shape_step place (Expr-F.New class at) = leaf 1 true
shape_step place (Expr-F.Parens inner line) =
    record { level = 5; depth = inner.depth + 1; nesting = inner.nesting + 1; proper = inner.proper }
shape_step place (Expr-F.Negate operand line) =
    record { level = 3; depth = operand.depth + 1; nesting = operand.nesting; proper = operand.proper && nat_le 3 operand.level }
shape_step place (Expr-F.Binary operator left right line) =
    record {
      level = level_of operator;
      depth = max left.depth right.depth + 1;
      nesting = max left.nesting right.nesting;
      proper = (left.proper && nat_le (left_level operator) left.level) && (right.proper && nat_le (right_level operator) right.level);
    }
shape_step place (Expr-F.Call receiver method arguments) =
    record {
      level = 4;
      depth = max receiver.depth (deepest arguments) + 1;
      nesting = max receiver.nesting (most_nested arguments + 1);
      proper = (receiver.proper && nat_le 4 receiver.level) && all_proper arguments;
    }

-- the shape of an expression
abbrev pub shape : Place → Expr → Shape
shape place = fold-Expr Shape (shape_step place)

-- What is asked of a statement, or of a block.
pub record Form : Type 0 where
  -- the greatest depth of an expression in it
  pub depth : ℕ
  -- how many brackets stand inside one another in it
  pub nesting : ℕ
  pub proper : Bool

-- what is asked of statements between braces
abbrev pub inside : List Form → Form
inside [] = record { depth = 0; nesting = 0; proper = true }
inside (form ∷ forms) =
    record {
      depth = max form.depth (inside forms).depth;
      nesting = max form.nesting (inside forms).nesting;
      proper = form.proper && (inside forms).proper;
    }

abbrev pub in_braces : List Form → Form
in_braces forms = record (inside forms) { nesting = (inside forms).nesting + 1 }

-- a statement that has an expression
abbrev pub with_value : Place → Expr → Bool → Form
with_value place value proper =
    record { depth = (shape place value).depth; nesting = (shape place value).nesting; proper = (shape place value).proper && proper }

-- a statement that has a condition in parentheses, and a block
abbrev pub with_condition : Place → Expr → Form → Form
with_condition place condition block =
    record {
      depth = max (shape place condition).depth block.depth;
      nesting = max ((shape place condition).nesting + 1) block.nesting;
      proper = (shape place condition).proper && block.proper;
    }

abbrev pub both : Form → Form → Form
both a b = record { depth = max a.depth b.depth; nesting = max a.nesting b.nesting; proper = a.proper && b.proper }

-- a statement, with the forms of the statements inside in their places
abbrev pub form_step : Place → Stmt-F Form → Form
form_step place (Stmt-F.Var type name line value) = with_value place value true
form_step place (Stmt-F.Assign name line value) = with_value place value true
form_step place (Stmt-F.FieldAssign field line value) = with_value place value (in_method place)
form_step place (Stmt-F.Return value) = with_value place value (in_method place)
form_step place (Stmt-F.If condition then) = with_condition place condition (in_braces then)
form_step place (Stmt-F.IfElse condition then otherwise) =
    with_condition place condition (both (in_braces then) (in_braces otherwise))
form_step place (Stmt-F.While condition body) = with_condition place condition (in_braces body)
form_step place (Stmt-F.Print value) = with_value place value (in_item place)
form_step place (Stmt-F.Evaluate value) = with_value place value true

-- the form of a statement
abbrev pub form : Place → Stmt → Form
form place = fold-Stmt Form (form_step place)

-- the form of a block
abbrev pub block_form : Place → List Stmt → Form
block_form place block = in_braces (map (form place) block)
