-- Worked rows: what the definitions give for trees written out.
use Rattle.std.proofs.Common.{◌≡◌, ℕ, List, [], ◌∷◌, true, false}
use Rattle.std.specs.Prelude.{codes}
use Rattle.class_defs.specs.declared.expressions.Name.{Name}
use Rattle.class_defs.specs.declared.expressions.Operator.TheVariants.{Add, Subtract, Multiply, Less, Equal}
use Rattle.class_defs.specs.declared.expressions.Expr.{Expr}
use Rattle.class_defs.specs.declared.expressions.Expr.TheVariants as e
use Rattle.class_defs.specs.declared.statements.Stmt.TheVariants as s
use Rattle.class_defs.specs.declared.places.Place.TheVariants as places
use Rattle.class_defs.specs.Words.{Fixed, FixedAt, Named}
use Rattle.class_defs.specs.Spelling.{expr_words}
use Rattle.class_defs.specs.Shape.{shape, form}
use Rattle.method_parse.proofs.Equations as eq

abbrev named : List ℕ → Name
named text = record { text = text; line = 1 }

abbrev a : Expr
a = e.Variable (named (codes "a"))

abbrev b : Expr
b = e.Variable (named (codes "b"))

abbrev c : Expr
c = e.Variable (named (codes "c"))

-- a - b - c groups to the left
abbrev left_group : Expr
left_group = e.Binary Subtract (e.Binary Subtract a b 1) c 2

abbrev right_group : Expr
right_group = e.Binary Subtract a (e.Binary Subtract b c 2) 1

pub spelled_so : expr_words left_group ≡ Named (codes "a") 1 ∷ FixedAt (codes "-") 1 ∷ Named (codes "b") 1 ∷ FixedAt (codes "-") 2 ∷ Named (codes "c") 1 ∷ []
spelled_so = simp (eq.words-Binary, eq.words-Variable)

-- the other grouping has the same words, and is no tree of the grammar
pub spelled_as_well : expr_words right_group ≡ Named (codes "a") 1 ∷ FixedAt (codes "-") 1 ∷ Named (codes "b") 1 ∷ FixedAt (codes "-") 2 ∷ Named (codes "c") 1 ∷ []
spelled_as_well = simp (eq.words-Binary, eq.words-Variable)

pub left_is_proper : shape places.Item left_group ≡ record { level = 1; depth = 3; nesting = 0; proper = true }
left_is_proper = simp (eq.shape-Binary, eq.shape-Variable)

pub right_is_not : shape places.Item right_group ≡ record { level = 1; depth = 3; nesting = 0; proper = false }
right_is_not = simp (eq.shape-Binary, eq.shape-Variable)

-- a * (b + c): the parentheses are a node
pub parentheses : shape places.Item (e.Binary Multiply a (e.Parens (e.Binary Add b c 1) 1) 1) ≡ record { level = 2; depth = 4; nesting = 1; proper = true }
parentheses = simp (eq.shape-Binary, eq.shape-Variable, eq.shape-Parens)

-- without them the sum is no operand of a term
pub no_parentheses : shape places.Item (e.Binary Multiply a (e.Binary Add b c 1) 1) ≡ record { level = 2; depth = 3; nesting = 0; proper = false }
no_parentheses = simp (eq.shape-Binary, eq.shape-Variable)

-- `this` stands in methods alone
pub this_in_method : shape places.Method (e.This 1) ≡ record { level = 5; depth = 1; nesting = 0; proper = true }
this_in_method = simp eq.shape-This

pub this_in_item : shape places.Item (e.This 1) ≡ record { level = 5; depth = 1; nesting = 0; proper = false }
this_in_item = simp eq.shape-This

-- `this.f` is a leaf, and `this.f()` is not
pub field_words : expr_words (e.Field (named (codes "f"))) ≡ Fixed (codes "this") ∷ Fixed (codes ".") ∷ Named (codes "f") 1 ∷ []
field_words = simp eq.words-Field

pub call_shape : shape places.Method (e.Call (e.This 1) (named (codes "f")) (a ∷ e.Null 1 ∷ [])) ≡ record { level = 4; depth = 2; nesting = 1; proper = true }
call_shape = simp (eq.shape-Call, eq.shape-This, eq.shape-Variable, eq.shape-Null)

-- comparisons don't chain
pub no_chain : shape places.Item (e.Binary Equal (e.Binary Less a b 1) c 1) ≡ record { level = 0; depth = 3; nesting = 0; proper = false }
no_chain = simp (eq.shape-Binary, eq.shape-Variable)

-- - - a
pub minus_twice : shape places.Item (e.Negate (e.Negate a 1) 1) ≡ record { level = 3; depth = 3; nesting = 0; proper = true }
minus_twice = simp (eq.shape-Negate, eq.shape-Variable)

-- `print` stands in items alone
pub print_in_method : form places.Method (s.Print a) ≡ record { depth = 1; nesting = 0; proper = false }
print_in_method = simp (eq.form-Print, eq.shape-Variable)

pub print_in_item : form places.Item (s.Print a) ≡ record { depth = 1; nesting = 0; proper = true }
print_in_item = simp (eq.form-Print, eq.shape-Variable)
