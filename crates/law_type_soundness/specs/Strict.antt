-- The meaning of the language once more, without stand-ins: stuck where a run of `Run` goes on with one, at a value of a
-- wrong kind, a name that isn't declared, a method that isn't there, or a wrong number of arguments (this project's).
use Rattle.std.specs.Prelude.{◌+◌, ◌==◌, ◌&&◌, ◌||◌, if◌then◌else◌, nat_lt, ℕ, zero, suc, Bool, true, false, is_some, List, [], ◌∷◌, ◌++◌, length, take, Option, Some, None, option_map, Result, Ok, Err, pos}
use Rattle.std.specs.Int.{int_wrapping_sub, w64}
use Rattle.thor_value.specs.declared.names.Oref.{Oref}
use Rattle.thor_value.specs.declared.values.Fault.TheVariants.{Depth, NullCall, Steps}
use Rattle.thor_value.specs.declared.values.Value.{Value}
use Rattle.thor_value.specs.declared.values.Value.TheVariants as value
use Rattle.class_defs.specs.Calls.{bound, owners_at, result_of}
use Rattle.class_defs.specs.Expressions.{combined, this_value}
use Rattle.class_defs.specs.Kinds.{literal_value, printed_as}
use Rattle.class_defs.specs.Objects.{assign_field, create, field_at, field_value, first_of, local_named, named_value, root_named, scope_at, seen, touch}
use Rattle.class_defs.specs.Statements.{assign_local, declare, holds}
use Rattle.class_defs.specs.Steps.{Action, World, change, fail, number, pure, step}
use Rattle.class_defs.specs.Types.{class_named, field_named, field_type, method_of, name_type, type_named, type_of}
use Rattle.class_defs.specs.declared.classes.Class.{Class}
use Rattle.class_defs.specs.declared.classes.Method.{Method}
use Rattle.class_defs.specs.declared.classes.Parameter.{Parameter}
use Rattle.class_defs.specs.declared.expressions.Expr.{Expr, out-Expr}
use Rattle.class_defs.specs.declared.expressions.Expr.TheOpen.{Expr-F}
use Rattle.class_defs.specs.declared.expressions.Operator.{Operator}
use Rattle.class_defs.specs.declared.expressions.Operator.TheVariants.{Add, Subtract, Multiply, Equal, Unequal, Less}
use Rattle.class_defs.specs.declared.limits.TheConstants.{DEPTH_LIMIT}
use Rattle.class_defs.specs.declared.machine.Flow.{Flow}
use Rattle.class_defs.specs.declared.machine.Flow.TheVariants.{Next, Returned}
use Rattle.class_defs.specs.declared.machine.Machine.{Machine}
use Rattle.class_defs.specs.declared.machine.Receiver.{Receiver}
use Rattle.class_defs.specs.declared.machine.Stop.{Stop}
use Rattle.class_defs.specs.declared.machine.Stop.TheVariants as stop
use Rattle.class_defs.specs.declared.statements.Stmt.{Stmt, out-Stmt}
use Rattle.class_defs.specs.declared.statements.Stmt.TheOpen.{Stmt-F}
use Rattle.class_defs.specs.declared.store.Object.{Object}
use Rattle.class_defs.specs.declared.store.Schema.{Schema}
use Rattle.class_defs.specs.declared.types.ExprType.{ExprType}
use Rattle.class_defs.specs.declared.types.ExprType.TheVariants as type

-- ---- actions that may get stuck

-- an action that gives nothing where it gets stuck
abbrev pub Sure : Type 0 → Type 0
Sure A = Machine → Option (Result A Stop × Machine)

abbrev pub going : {A B : Type 0} → Result A Stop → Machine → (A → Sure B) → Option (Result B Stop × Machine)
going (Ok a) m f = f a m
going (Err s) m f = Some (Err s, m)

abbrev pub onward : {A B : Type 0} → Option (Result A Stop × Machine) → (A → Sure B) → Option (Result B Stop × Machine)
onward None f = None
onward (Some p) f = going p.0 p.1 f

-- one action and then another, unless the first stops or gets stuck
infixl 10 ◌>>=◌
abbrev pub ◌>>=◌ : {A B : Type 0} → Sure A → (A → Sure B) → Sure B
p >>= f = λ m. onward (p m) f

infixl 10 ◌>>◌
abbrev pub ◌>>◌ : {A B : Type 0} → Sure A → Sure B → Sure B
p >> q = p >>= (λ _. q)

-- an action that can't get stuck
abbrev pub surely : {A : Type 0} → Action A → Sure A
surely p = λ m. Some (p m)

abbrev pub stuck : {A : Type 0} → Sure A
stuck = λ m. None

-- an action that gets stuck at once, unless a condition holds
abbrev pub only_if : {A : Type 0} → Bool → Sure A → Sure A
only_if true p = p
only_if false p = stuck

-- one that gets stuck at once, unless the state passes a test
abbrev pub only_where : {A : Type 0} → (Machine → Bool) → Sure A → Sure A
only_where test p = λ m. only_if (test m) p m

-- a value, and a change of the state
abbrev pub give : {A : Type 0} → A → Sure A
give a = surely (pure a)

abbrev pub alter : (Machine → Machine) → Sure (Unit {0})
alter f = surely (change f)

-- ---- what must hold

abbrev pub is_classed : Option Object → ℕ → Bool
is_classed None c = false
is_classed (Some o) c = o.class == c

-- whether a value is of a type: a number; a text; or null, or a reference to an object of just this class
abbrev pub is_of : (Oref → Option Object) → ExprType → Value → Bool
is_of objects type.Int (value.Int n) = true
is_of objects type.Int (value.Ref x) = false
is_of objects type.Int value.Null = false
is_of objects type.Int (value.Text w) = false
is_of objects type.Text (value.Int n) = false
is_of objects type.Text (value.Ref x) = false
is_of objects type.Text value.Null = false
is_of objects type.Text (value.Text w) = true
is_of objects type.Null (value.Int n) = false
is_of objects type.Null (value.Ref x) = false
is_of objects type.Null value.Null = true
is_of objects type.Null (value.Text w) = false
is_of objects (type.Class c) (value.Int n) = false
is_of objects (type.Class c) (value.Ref x) = is_classed (objects x) c
is_of objects (type.Class c) value.Null = true
is_of objects (type.Class c) (value.Text w) = false
is_of objects type.Untold v = false

abbrev pub is_int : Value → Bool
is_int (value.Int n) = true
is_int (value.Ref x) = false
is_int value.Null = false
is_int (value.Text w) = false

abbrev pub is_text : Value → Bool
is_text (value.Int n) = false
is_text (value.Ref x) = false
is_text value.Null = false
is_text (value.Text w) = true

-- a value is there, and of the type
abbrev pub has_value : (Oref → Option Object) → ExprType → Option Value → Bool
has_value objects t None = false
has_value objects t (Some v) = is_of objects t v

-- a value is of a type that is there
abbrev pub is_of_some : (Oref → Option Object) → Option ExprType → Value → Bool
is_of_some objects None v = false
is_of_some objects (Some t) v = is_of objects t v

-- two numbers, two texts, or none of either
abbrev pub are_comparable : Value → Value → Bool
are_comparable (value.Int a) b = is_int b
are_comparable (value.Ref x) (value.Int b) = false
are_comparable (value.Ref x) (value.Ref y) = true
are_comparable (value.Ref x) value.Null = true
are_comparable (value.Ref x) (value.Text w) = false
are_comparable value.Null (value.Int b) = false
are_comparable value.Null (value.Ref y) = true
are_comparable value.Null value.Null = true
are_comparable value.Null (value.Text w) = false
are_comparable (value.Text w) b = is_text b

-- whether an operator takes these values
abbrev pub are_operands : Operator → Value → Value → Bool
are_operands Add a b = is_int a && is_int b
are_operands Subtract a b = is_int a && is_int b
are_operands Multiply a b = is_int a && is_int b
are_operands Less a b = is_int a && is_int b
are_operands Equal a b = are_comparable a b
are_operands Unequal a b = are_comparable a b

-- as many values as parameters, each of the parameter's type
abbrev pub are_arguments : (Oref → Option Object) → List Class → List Parameter → List Value → Bool
are_arguments objects classes [] [] = true
are_arguments objects classes [] (v ∷ vs) = false
are_arguments objects classes (p ∷ ps) [] = false
are_arguments objects classes (p ∷ ps) (v ∷ vs) = is_of objects (type_named classes p.type_name) v && are_arguments objects classes ps vs

-- the method is there, and takes these values
abbrev pub takes_arguments : (Oref → Option Object) → List Class → Option Method → List Value → Bool
takes_arguments objects classes None vs = false
takes_arguments objects classes (Some method) vs = are_arguments objects classes method.parameters vs

-- the value of a local, a parameter or a root, where it is there
abbrev pub value_named : Schema → Machine → List ℕ → Option Value
value_named schema m name =
    first_of (option_map (λ l. l.value) (local_named m name)) (option_map (λ r. value.Ref r.oref) (root_named schema m name))

abbrev pub reads_name : World → Machine → List ℕ → Bool
reads_name w m name = has_value (seen w m) (name_type (scope_at w.schema m) name) (value_named w.schema m name)

-- the value of a field of `this`, where it is there
abbrev pub value_of_field : World → Machine → Option Receiver → List ℕ → Option Value
value_of_field w m None name = None
value_of_field w m (Some r) name = field_at (seen w m r.oref) (field_named w.schema.classes r.class name)

abbrev pub reads_field : World → Machine → List ℕ → Bool
reads_field w m name = has_value (seen w m) (field_type (scope_at w.schema m) name) (value_of_field w m m.this name)

-- the field is there, and may be given this value
abbrev pub writes_field : World → Machine → List ℕ → Value → Bool
writes_field w m name v = reads_field w m name && is_of (seen w m) (field_type (scope_at w.schema m) name) v

-- the local is there, and may be given this value
abbrev pub writes_local : World → Machine → List ℕ → Value → Bool
writes_local w m name v = is_of_some (seen w m) (option_map (λ l. l.kind) (local_named m name)) v

-- ---- calls

module _ (w : World) (block : List Stmt → Sure Flow) where
  abbrev receiver : ℕ → Oref → List Oref → Receiver
  receiver c x owners = record { oref = x; class = c; owners = owners }

  abbrev pub is_result : Method → Flow → Machine → Bool
  is_result method flow m = is_of (seen w m) (type_named w.schema.classes method.result) (result_of w.schema.classes method flow)

  -- the body of a method gives a result of the declared type
  unfoldable pub strict_body : Receiver → Method → List Value → Sure Value
  strict_body this method arguments = λ m.
      (alter (λ n. record n { depth = n.depth + 1; this = Some this; locals = bound w.schema.classes method.parameters arguments })
      >> block method.body
      >>= (λ flow. alter (λ n. record n { depth = m.depth; this = m.this; locals = m.locals })
      >> only_where (is_result method flow) (give (result_of w.schema.classes method flow)))) m

  abbrev pub strict_enter : Receiver → Option Method → List Value → Sure Value
  strict_enter this None arguments = stuck
  strict_enter this (Some method) arguments = strict_body this method arguments

  -- the object is of the class
  abbrev pub strict_enter_as : Receiver → ℕ → Option Method → List Value → Sure Value
  strict_enter_as this found method arguments = only_if (found == this.class) (strict_enter this method arguments)

  unfoldable pub strict_object : ℕ → Oref → List ℕ → List Value → Sure Value
  strict_object c x name arguments = λ m.
      let owners = owners_at w.schema.classes c x m in
      if nat_lt m.depth DEPTH_LIMIT
      then (surely (touch w owners x) >>= (λ found. strict_enter_as (receiver c x owners) found (method_of w.schema.classes c name) arguments)) m
      else Some (Err (stop.Fault Depth), m)

  -- the class has the method, for these arguments
  abbrev pub can_call : ℕ → List ℕ → List Value → Machine → Bool
  can_call c name arguments m = takes_arguments (seen w m) w.schema.classes (method_of w.schema.classes c name) arguments

  -- a call, behind the evaluation of its receiver and arguments; null is the fault NullCall
  unfoldable pub strict_call : ExprType → Value → List ℕ → List Value → Sure Value
  strict_call (type.Class c) (value.Ref x) name arguments = only_where (can_call c name arguments) (strict_object c x name arguments)
  strict_call (type.Class c) value.Null name arguments = only_where (can_call c name arguments) (surely (fail NullCall))
  strict_call (type.Class c) (value.Int n) name arguments = stuck
  strict_call (type.Class c) (value.Text t) name arguments = stuck
  strict_call type.Int v name arguments = stuck
  strict_call type.Text v name arguments = stuck
  strict_call type.Null v name arguments = stuck
  strict_call type.Untold v name arguments = stuck

-- ---- expressions

module _ (w : World) (value_of : Expr → Sure Value) (block : List Stmt → Sure Flow) where
  abbrev pub strict_values_from : List Value → List Expr → Sure (List Value)
  strict_values_from vs [] = give vs
  strict_values_from vs (e ∷ es) = value_of e >>= (λ v. strict_values_from (vs ++ v ∷ []) es)

  abbrev pub strict_called : Expr → List ℕ → List Expr → Sure Value
  strict_called receiver method arguments = λ m. (do
    r ← value_of receiver
    vs ← strict_values_from [] arguments
    strict_call w block (type_of (scope_at w.schema m) receiver) r method vs) m

  abbrev pub strict_value_at : Expr-F Expr → Sure Value
  strict_value_at (Expr-F.Literal l line) = give (literal_value l)
  strict_value_at (Expr-F.Null line) = give value.Null
  strict_value_at (Expr-F.This line) = λ m. only_if (is_some m.this) (give (this_value m.this)) m
  strict_value_at (Expr-F.Field name) = λ m. only_if (reads_field w m name.text) (give (field_value w m name.text)) m
  strict_value_at (Expr-F.Variable name) = λ m. only_if (reads_name w m name.text) (give (named_value w.schema m name.text)) m
  strict_value_at (Expr-F.New class at) = only_if (is_some (class_named w.schema.classes class.text)) (surely (create w class.text at))
  strict_value_at (Expr-F.Parens inner line) = value_of inner
  strict_value_at (Expr-F.Negate operand line) = do
    v ← value_of operand
    only_if (is_int v) (give (value.Int (int_wrapping_sub w64 (pos 0) (number v))))
  strict_value_at (Expr-F.Binary operator left right line) = do
    a ← value_of left
    b ← value_of right
    only_if (are_operands operator a b) (give (combined operator a b))
  strict_value_at (Expr-F.Call receiver method arguments) = strict_called receiver method.text arguments

  unfoldable pub strict_expression : Expr → Sure Value
  strict_expression e = surely step >> strict_value_at (out-Expr e)

-- ---- statements

abbrev pub strict_unless_returned : Flow → Sure Flow → Sure Flow
strict_unless_returned Next p = p
strict_unless_returned (Returned v) p = give (Returned v)

abbrev pub strict_in_order : (Stmt → Sure Flow) → List Stmt → Sure Flow
strict_in_order run [] = give Next
strict_in_order run (s ∷ ss) = run s >>= (λ flow. strict_unless_returned flow (strict_in_order run ss))

unfoldable pub strict_block : (Stmt → Sure Flow) → List Stmt → Sure Flow
strict_block run ss = λ m. (strict_in_order run ss >>= (λ flow. alter (λ n. record n { locals = take (length m.locals) n.locals }) >> give flow)) m

module _ (w : World) (value_of : Expr → Sure Value) (block : List Stmt → Sure Flow) where
  -- a condition is a number
  abbrev pub strict_branch : Value → Sure Flow → Sure Flow → Sure Flow
  strict_branch v then_block else_block = only_if (is_int v) (if holds v then then_block else else_block)

  abbrev pub strict_turn : Value → List Stmt → Sure Flow → Sure Flow
  strict_turn v body again = strict_branch v (block body >>= (λ flow. strict_unless_returned flow again)) (give Next)

  unfoldable pub strict_repeat : ℕ → Expr → List Stmt → Sure Flow
  strict_repeat zero condition body = surely (fail Steps)
  strict_repeat (suc n) condition body = surely step >> value_of condition >>= (λ v. strict_turn v body (strict_repeat n condition body))

  abbrev pub strict_declare : ExprType → List ℕ → Value → Sure Flow
  strict_declare kind name v = only_where (λ m. is_of (seen w m) kind v) (alter (declare kind name v) >> give Next)

  abbrev pub strict_assign : List ℕ → Value → Sure Flow
  strict_assign name v = only_where (λ m. writes_local w m name v) (alter (assign_local name v) >> give Next)

  abbrev pub strict_assign_field : List ℕ → Value → Sure Flow
  strict_assign_field name v = only_where (λ m. writes_field w m name v) (alter (assign_field w name v) >> give Next)

  abbrev pub strict_print : Value → Sure Flow
  strict_print v = only_if (is_int v || is_text v) (alter (λ m. record m { printed = m.printed ++ printed_as v }) >> give Next)

  abbrev pub strict_statement_at : Stmt-F Stmt → Sure Flow
  strict_statement_at (Stmt-F.Var type_name name line e) =
      surely step >> value_of e >>= strict_declare (type_named w.schema.classes type_name) name.text
  strict_statement_at (Stmt-F.Assign name line e) = surely step >> value_of e >>= strict_assign name.text
  strict_statement_at (Stmt-F.FieldAssign field line e) = surely step >> value_of e >>= strict_assign_field field.text
  strict_statement_at (Stmt-F.Return e) = surely step >> value_of e >>= (λ v. give (Returned v))
  strict_statement_at (Stmt-F.If condition then_block) = surely step >> value_of condition >>= (λ v. strict_branch v (block then_block) (give Next))
  strict_statement_at (Stmt-F.IfElse condition then_block otherwise) =
      surely step >> value_of condition >>= (λ v. strict_branch v (block then_block) (block otherwise))
  strict_statement_at (Stmt-F.While condition body) = strict_repeat 100001 condition body
  strict_statement_at (Stmt-F.Print e) = surely step >> value_of e >>= strict_print
  strict_statement_at (Stmt-F.Evaluate e) = surely step >> value_of e >>= (λ v. give Next)

  unfoldable pub strict_statement : Stmt → Sure Flow
  strict_statement s = strict_statement_at (out-Stmt s)

-- ---- runs

-- what expressions and statements do
pub record StrictMeaning : Type 0 where
  pub value_of : Expr → Sure Value
  pub execute : Stmt → Sure Flow

-- as `meaning` of `Run`
unfoldable pub strict_meaning : World → ℕ → StrictMeaning
strict_meaning w zero = record { value_of = λ e. surely (fail Steps); execute = λ s. surely (fail Steps) }
strict_meaning w (suc n) = record {
  value_of = strict_expression w (strict_meaning w n).value_of (strict_block (strict_meaning w n).execute);
  execute = strict_statement w (strict_meaning w n).value_of (strict_block (strict_meaning w n).execute);
}

-- a transaction's statements, from a state on; nothing where they get stuck
unfoldable pub strict_execute_all : World → List Stmt → Sure Flow
strict_execute_all w = strict_block (strict_meaning w 100001).execute
