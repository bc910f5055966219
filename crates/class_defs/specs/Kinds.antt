-- What is known of each kind of value, a row for each (this project's): what a field of a type begins as, what a value
-- counts as in such a field, what a literal is, and what is printed.
use Rattle.std.specs.Prelude.{ℕ, ℤ, pos, List, [], ◌∷◌, length, map}
use Rattle.thor_value.specs.declared.values.Value.{Value}
use Rattle.thor_value.specs.declared.values.Value.TheVariants as value
use Rattle.class_defs.specs.declared.literals.Literal.{Literal}
use Rattle.class_defs.specs.declared.literals.Literal.TheVariants as literal
use Rattle.class_defs.specs.declared.types.ExprType.{ExprType}
use Rattle.class_defs.specs.declared.types.ExprType.TheVariants as type

-- ---- values of one kind: any other value counts as the one with which a field of the kind begins

abbrev pub as_int : Value → Value
as_int (value.Int n) = value.Int n
as_int (value.Ref x) = value.Int (pos 0)
as_int value.Null = value.Int (pos 0)
as_int (value.Text w) = value.Int (pos 0)

abbrev pub as_text : Value → Value
as_text (value.Int n) = value.Text []
as_text (value.Ref x) = value.Text []
as_text value.Null = value.Text []
as_text (value.Text w) = value.Text w

abbrev pub as_reference : Value → Value
as_reference (value.Int n) = value.Null
as_reference (value.Ref x) = value.Ref x
as_reference value.Null = value.Null
as_reference (value.Text w) = value.Null

-- ---- types

-- What is known of the values of a type.
pub record TypeRow : Type 0 where
  -- the value with which a field of the type begins, and the result of a method that ends without one
  pub begins : Value
  -- what a value counts as in a field of the type: itself, where it is of the type's kind
  pub counts : Value → Value

abbrev pub row_of : ExprType → TypeRow
row_of type.Int = record { begins = value.Int (pos 0); counts = as_int }
row_of type.Text = record { begins = value.Text []; counts = as_text }
row_of (type.Class c) = record { begins = value.Null; counts = as_reference }
row_of type.Null = record { begins = value.Null; counts = λ _. value.Null }
row_of type.Untold = record { begins = value.Null; counts = λ _. value.Null }

-- ---- literals

abbrev pub literal_value : Literal → Value
literal_value (literal.Int n) = value.Int n
literal_value (literal.Text w) = value.Text w

abbrev pub literal_type : Literal → ExprType
literal_type (literal.Int n) = type.Int
literal_type (literal.Text w) = type.Text

-- ---- printing

-- What printing a value adds to the answer: a number itself, and of a text how many bytes it has, and then these.
abbrev pub printed_as : Value → List ℤ
printed_as (value.Int n) = n ∷ []
printed_as (value.Ref x) = pos 0 ∷ []
printed_as value.Null = pos 0 ∷ []
printed_as (value.Text w) = pos (length w) ∷ map pos w
