-- The rules that an expression breaks (this project's).
use Rattle.std.specs.Prelude.{ℕ, ◌||◌, ◌&&◌, ◌==◌, nat_lt, not, List, [], ◌∷◌, ◌++◌, length, Bool, true, false, Option, Some, None, is_some, is_none, option_and_then, drop, slice_get}
use Rattle.class_defs.specs.Rules.{Sight, must, scope_of, type_in_sight, is_part, is_class, fits, is_told}
use Rattle.class_defs.specs.Types.{class_named, class_or_untold, field_of, field_type, method_of, type_named, type_step}
use Rattle.class_defs.specs.declared.classes.Class.{Class}
use Rattle.class_defs.specs.declared.classes.Method.{Method}
use Rattle.class_defs.specs.declared.classes.Parameter.{Parameter}
use Rattle.class_defs.specs.declared.expressions.At.{At}
use Rattle.class_defs.specs.declared.expressions.Expr.{Expr, fold-Expr, out-Expr}
use Rattle.class_defs.specs.declared.expressions.Expr.TheOpen.{Expr-F}
use Rattle.class_defs.specs.declared.expressions.Name.{Name}
use Rattle.class_defs.specs.declared.expressions.Operator.{Operator}
use Rattle.class_defs.specs.declared.expressions.Operator.TheVariants.{Add, Subtract, Multiply, Equal, Unequal, Less}
use Rattle.class_defs.specs.declared.rules.Position.{Position}
use Rattle.class_defs.specs.declared.rules.Position.TheVariants.{Receiver, BesideNull, IntoOwnedField, Value}
use Rattle.class_defs.specs.declared.rules.Rule.TheVariants.{T2, T3, T4, T6, T7, T8}
use Rattle.class_defs.specs.declared.rules.RuleFault.{RuleFault}
use Rattle.class_defs.specs.declared.types.ExprType.{ExprType}
use Rattle.class_defs.specs.declared.types.ExprType.TheVariants as type

-- What a check says of an expression.
pub record Judged : Type 0 where
  pub kind : ExprType
  -- the line of its own token
  pub line : ℕ
  -- whether it is the word `null`
  pub null : Bool
  -- the rules that it breaks where it stands
  pub broken : Position → List RuleFault

-- the line of an expression's own token
abbrev pub line_at : {A : Type 0} → Expr-F A → ℕ
line_at (Expr-F.Literal value line) = line
line_at (Expr-F.Null line) = line
line_at (Expr-F.This line) = line
line_at (Expr-F.Field name) = name.line
line_at (Expr-F.Variable name) = name.line
line_at (Expr-F.New class at) = class.line
line_at (Expr-F.Parens inner line) = line
line_at (Expr-F.Negate operand line) = line
line_at (Expr-F.Binary operator left right line) = line
line_at (Expr-F.Call receiver method arguments) = method.line

abbrev pub line_of : Expr → ℕ
line_of e = line_at (out-Expr e)

-- whether an expression is the word `null`
abbrev pub null_at : {A : Type 0} → Expr-F A → Bool
null_at (Expr-F.Null line) = true
null_at (Expr-F.Literal value line) = false
null_at (Expr-F.This line) = false
null_at (Expr-F.Field name) = false
null_at (Expr-F.Variable name) = false
null_at (Expr-F.New class at) = false
null_at (Expr-F.Parens inner line) = false
null_at (Expr-F.Negate operand line) = false
null_at (Expr-F.Binary operator left right line) = false
null_at (Expr-F.Call receiver method arguments) = false

-- the types of an expression's parts
abbrev pub kinds_at : Expr-F Judged → Expr-F ExprType
kinds_at (Expr-F.Literal value line) = Expr-F.Literal value line
kinds_at (Expr-F.Null line) = Expr-F.Null line
kinds_at (Expr-F.This line) = Expr-F.This line
kinds_at (Expr-F.Field name) = Expr-F.Field name
kinds_at (Expr-F.Variable name) = Expr-F.Variable name
kinds_at (Expr-F.New class at) = Expr-F.New class at
kinds_at (Expr-F.Parens inner line) = Expr-F.Parens inner.kind line
kinds_at (Expr-F.Negate operand line) = Expr-F.Negate operand.kind line
kinds_at (Expr-F.Binary operator left right line) = Expr-F.Binary operator left.kind right.kind line
kinds_at (Expr-F.Call receiver method arguments) = Expr-F.Call receiver.kind method []

-- ---- parts stay with their owner

-- where a part may name itself: as the receiver of a call
abbrev pub may_be_this : Position → Bool
may_be_this Receiver = true
may_be_this BesideNull = false
may_be_this IntoOwnedField = false
may_be_this Value = false

-- where an owned field may be read: as the receiver of a call and beside null
abbrev pub may_be_read : Position → Bool
may_be_read Receiver = true
may_be_read BesideNull = true
may_be_read IntoOwnedField = false
may_be_read Value = false

-- where a part may be made: right of the assignment to an owned field
abbrev pub may_be_made : Position → Bool
may_be_made Receiver = false
may_be_made BesideNull = false
may_be_made IntoOwnedField = true
may_be_made Value = false

-- ---- one node

-- T7: `this` of a part isn't handed on. (T2: in an item there is none; the text of an item can't say it.)
abbrev pub this_rules : Sight → ℕ → Position → List RuleFault
this_rules s line place =
    must (is_some s.this) T2 line ++ must (may_be_this place || not (is_part s.schema.classes (class_or_untold s.this))) T7 line

-- T2 and T6: the class has the field, and an owned one isn't handed on
abbrev pub field_rules : Sight → Name → Position → List RuleFault
field_rules s name place =
    must (is_some (option_and_then (λ c. field_of s.schema.classes c name.text) s.this)) T2 name.line
    ++ must (may_be_read place || not (is_part s.schema.classes (field_type (scope_of s) name.text))) T6 name.line

-- T8: `at` stands in items alone and names a repository
abbrev pub at_rules : Sight → Option At → List RuleFault
at_rules s None = []
at_rules s (Some at) = must (is_none s.this) T8 at.line ++ must (nat_lt at.number s.repos) T8 at.number_line

-- T2 and T8 of `new`
abbrev pub new_rules : Sight → Name → Option At → Position → List RuleFault
new_rules s class at place =
    is_class s.schema.classes class
    ++ must (may_be_made place || not (is_part s.schema.classes (class_or_untold (class_named s.schema.classes class.text)))) T8 class.line
    ++ at_rules s at

-- whether two values can be compared by `==` and `!=`: two numbers, two texts, two of one free class, or one and a null
abbrev pub comparable : List Class → ExprType → ExprType → Bool
comparable classes type.Int b = fits type.Int b
comparable classes type.Text b = fits type.Text b
comparable classes type.Null type.Int = false
comparable classes type.Null type.Text = false
comparable classes type.Null type.Null = false
comparable classes type.Null (type.Class d) = true
comparable classes type.Null type.Untold = true
comparable classes (type.Class c) type.Int = false
comparable classes (type.Class c) type.Text = false
comparable classes (type.Class c) type.Null = true
comparable classes (type.Class c) (type.Class d) = c == d && not (is_part classes (type.Class c))
comparable classes (type.Class c) type.Untold = true
comparable classes type.Untold b = true

abbrev pub is_number : ExprType → Bool
is_number t = fits type.Int t

-- whether a value of this type can be printed: a number or a text
abbrev pub is_printable : ExprType → Bool
is_printable t = is_number t || fits type.Text t

-- whether an operator takes values of these types
abbrev pub takes : List Class → Operator → ExprType → ExprType → Bool
takes classes Add a b = is_number a && is_number b
takes classes Subtract a b = is_number a && is_number b
takes classes Multiply a b = is_number a && is_number b
takes classes Less a b = is_number a && is_number b
takes classes Equal a b = comparable classes a b
takes classes Unequal a b = comparable classes a b

-- T3 of the unary `-`
abbrev pub negate_rules : Judged → ℕ → List RuleFault
negate_rules operand line = operand.broken Value ++ must (is_number operand.kind) T3 line

-- the place beside an operator, with null on the other side or not
abbrev pub beside : Operator → Bool → Position
beside Equal true = BesideNull
beside Unequal true = BesideNull
beside Equal false = Value
beside Unequal false = Value
beside Add null = Value
beside Subtract null = Value
beside Multiply null = Value
beside Less null = Value

-- T3 of an operator
abbrev pub binary_rules : Sight → Operator → Judged → Judged → ℕ → List RuleFault
binary_rules s operator left right line =
    left.broken (beside operator right.null) ++ right.broken (beside operator left.null)
    ++ must (takes s.schema.classes operator left.kind right.kind) T3 line

-- ---- calls

-- the method that is called on a value of this type
abbrev pub method_called : List Class → ExprType → Name → Option Method
method_called classes (type.Class c) method = method_of classes c method.text
method_called classes type.Int method = None
method_called classes type.Text method = None
method_called classes type.Null method = None
method_called classes type.Untold method = None

-- T2 and T4: the receiver's class has the method, with as many parameters as there are arguments
abbrev pub called_rules : ExprType → Option Method → Name → ℕ → List RuleFault
called_rules receiver None name arguments = must (not (is_told receiver)) T2 name.line
called_rules receiver (Some method) name arguments = must (length method.parameters == arguments) T4 name.line

abbrev pub parameters_of : Option Method → List Parameter
parameters_of None = []
parameters_of (Some method) = method.parameters

-- T3 of an argument beside its parameter; one without a parameter is compared with nothing
abbrev pub argument_fits : List Class → Option Parameter → ExprType → ℕ → List RuleFault
argument_fits classes None given line = []
argument_fits classes (Some p) given line = must (fits (type_named classes p.type_name) given) T3 line

abbrev pub argument_rules : List Class → Option Parameter → Judged → List RuleFault
argument_rules classes p a = a.broken Value ++ argument_fits classes p a.kind a.line

-- the arguments, each beside its parameter
abbrev pub arguments_rules : List Class → List Parameter → List Judged → List RuleFault
arguments_rules classes ps [] = []
arguments_rules classes ps (a ∷ more) = argument_rules classes (slice_get ps 0) a ++ arguments_rules classes (drop 1 ps) more

abbrev pub call_rules : Sight → Judged → Name → List Judged → List RuleFault
call_rules s receiver name arguments =
    let method = method_called s.schema.classes receiver.kind name in
    receiver.broken Receiver
    ++ called_rules receiver.kind method name (length arguments)
    ++ arguments_rules s.schema.classes (parameters_of method) arguments

-- ---- any expression

-- The rules that an expression breaks: those that its parts break where they stand, and its own.
abbrev pub broken_at : Sight → Expr-F Judged → Position → List RuleFault
broken_at s (Expr-F.Literal value line) place = []
broken_at s (Expr-F.Null line) place = []
broken_at s (Expr-F.This line) place = this_rules s line place
broken_at s (Expr-F.Field name) place = field_rules s name place
broken_at s (Expr-F.Variable name) place = must (is_some (type_in_sight s name.text)) T2 name.line
broken_at s (Expr-F.New class at) place = new_rules s class at place
broken_at s (Expr-F.Parens inner line) place = inner.broken Value
broken_at s (Expr-F.Negate operand line) place = negate_rules operand line
broken_at s (Expr-F.Binary operator left right line) place = binary_rules s operator left right line
broken_at s (Expr-F.Call receiver method arguments) place = call_rules s receiver method arguments

abbrev pub judge_step : Sight → Expr-F Judged → Judged
judge_step s x = record {
  kind = type_step (scope_of s) (kinds_at x);
  line = line_at x;
  null = null_at x;
  broken = broken_at s x;
}

-- what a check says of an expression in sight of names and classes
unfoldable pub judged : Sight → Expr → Judged
judged s = fold-Expr Judged (judge_step s)
