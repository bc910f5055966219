-- That the strict meaning, where it doesn't get stuck, is the meaning.
use Rattle.std.proofs.Common.{◌≡◌, Bool, true, false, cond, List, [], ◌∷◌, ◌++◌, Option, Some, None, Result, Ok, Err, refl, sym, subst, ℕ, zero, suc, take, length}
use Rattle.std.specs.Prelude.{◌+◌, ◌==◌, ◌||◌, is_some, nat_lt}
use Rattle.thor_value.specs.declared.names.Oref.{Oref}
use Rattle.thor_value.specs.declared.values.Fault.TheVariants as fault
use Rattle.thor_value.specs.declared.values.Value.{Value}
use Rattle.thor_value.specs.declared.values.Value.TheVariants as value
use Rattle.class_defs.specs.Calls.{owners_at, bound, run_body, enter, enter_as, call_object, call, result_of}
use Rattle.class_defs.specs.Expressions.{this_value, values_from, values_of, value_at, expression, combined}
use Rattle.class_defs.specs.Kinds.{literal_value, printed_as}
use Rattle.class_defs.specs.Objects.{seen, touch, create, scope_at, named_value, field_value, assign_field}
use Rattle.class_defs.specs.Run.{meaning, execute_all}
use Rattle.class_defs.specs.Statements.{assign_local, block_of, declare, holds, in_order, repeat, statement, statement_at, unless_returned}
use Rattle.class_defs.specs.Steps.{World, Action, after, step, pure, change, fail, ◌>>=◌, ◌>>◌}
use Rattle.law_type_soundness.specs.Strict as strict
use Rattle.law_type_soundness.specs.Strict.{Sure, going, onward, surely, only_if, strict_body, strict_enter, strict_enter_as, strict_object, strict_call, strict_values_from, strict_value_at, strict_expression, strict_unless_returned, strict_in_order, strict_block, strict_repeat, strict_statement_at, strict_statement, strict_meaning, strict_execute_all, give}
use Rattle.class_defs.specs.Types.{method_of, type_named, type_of}
use Rattle.class_defs.specs.declared.classes.Method.{Method}
use Rattle.class_defs.specs.declared.expressions.Expr.{Expr, out-Expr}
use Rattle.class_defs.specs.declared.expressions.Expr.TheOpen.{Expr-F}
use Rattle.class_defs.specs.declared.limits.TheConstants.{DEPTH_LIMIT}
use Rattle.class_defs.specs.declared.machine.Flow.{Flow}
use Rattle.class_defs.specs.declared.machine.Flow.TheVariants.{Next, Returned}
use Rattle.class_defs.specs.declared.machine.Machine.{Machine}
use Rattle.class_defs.specs.declared.machine.Receiver.{Receiver}
use Rattle.class_defs.specs.declared.machine.Stop.{Stop}
use Rattle.class_defs.specs.declared.statements.Stmt.{Stmt, out-Stmt}
use Rattle.class_defs.specs.declared.statements.Stmt.TheOpen.{Stmt-F}
use Rattle.class_defs.specs.declared.types.ExprType.{ExprType}
use Rattle.class_defs.specs.declared.types.ExprType.TheVariants as type

-- where the one gives something, the other does just this
abbrev pub Tells : {A : Type 0} → Action A → Sure A → Type 0
Tells {A} p u = (m : Machine) (r : Result A Stop × Machine) → u m ≡ Some r → p m ≡ r

sure : {A : Type 0} (p : Action A) → Tells p (surely p)
sure p m r is = cc

never : {A : Type 0} (p : Action A) → Tells p (λ m. None)
never p m r is = cc

only : {A : Type 0} (b : Bool) (p : Action A) (u : Sure A) → Tells p u → Tells p (only_if b u)
only true p u h m r is = h m r is
only false p u h m r is = cc

only_else : {A : Type 0} (b : Bool) (p q : Action A) (u : Sure A) → Tells p u → Tells (cond b p q) (only_if b u)
only_else true p q u h m r is = h m r is
only_else false p q u h m r is = cc

either : {A : Type 0} (b : Bool) (p q : Action A) (u v : Sure A) → Tells p u → Tells q v → Tells (cond b p q) (cond b u v)
either true p q u v h k m r is = h m r is
either false p q u v h k m r is = k m r is

going_so : {A B : Type 0} (a : Result A Stop) (n : Machine) (k : A → Action B) (l : A → Sure B) (r : Result B Stop × Machine)
    → ((x : A) → Tells (k x) (l x)) → going a n l ≡ Some r → after a n k ≡ r
going_so (Ok x) n k l r each is = each x n r is
going_so (Err s) n k l r each is = cc

onward_so : {A B : Type 0} (o : Option (Result A Stop × Machine)) (p : Result A Stop × Machine) (k : A → Action B) (l : A → Sure B)
    (r : Result B Stop × Machine)
    → ((q : Result A Stop × Machine) → o ≡ Some q → p ≡ q) → ((x : A) → Tells (k x) (l x)) → onward o l ≡ Some r → after p.0 p.1 k ≡ r
onward_so None p k l r h each is = cc
onward_so (Some q) p k l r h each is = subst (λ (z : Result _ Stop × Machine). after z.0 z.1 k ≡ r) (sym (h q refl)) (going_so q.0 q.1 k l r each is)

bind : {A B : Type 0} (p : Action A) (u : Sure A) (k : A → Action B) (l : A → Sure B) → Tells p u → ((x : A) → Tells (k x) (l x))
    → Tells (p >>= k) (λ m. onward (u m) l)
bind p u k l h each m r is = onward_so (u m) (p m) k l r (h m) each is

fork : {R : Type 0} (b : Bool) (x y r : R) (o q : Option R) → (o ≡ Some r → x ≡ r) → (q ≡ Some r → y ≡ r) → cond b o q ≡ Some r → cond b x y ≡ r
fork true x y r o q h k is = h is
fork false x y r o q h k is = k is

unless_so : (flow : Flow) (p : Action Flow) (u : Sure Flow) → Tells p u → Tells (unless_returned flow p) (strict_unless_returned flow u)
unless_so Next p u h m r is = h m r is
unless_so (Returned a) p u h m r is = sure (pure (Returned a)) m r is

order_so : (run : Stmt → Action Flow) (strictly : Stmt → Sure Flow) → ((st : Stmt) → Tells (run st) (strictly st)) → (ss : List Stmt)
    → Tells (in_order run ss) (strict_in_order strictly ss)
order_so run strictly h [] = sure (pure Next)
order_so run strictly h (st ∷ ss) =
    bind (run st) (strictly st) _ _ (h st) (λ flow. unless_so flow (in_order run ss) (strict_in_order strictly ss) (order_so run strictly h ss))

pub block_so : (run : Stmt → Action Flow) (strictly : Stmt → Sure Flow) → ((st : Stmt) → Tells (run st) (strictly st)) → (ss : List Stmt)
    → Tells (block_of run ss) (strict_block strictly ss)
unfolding block_of strict_block
block_so run strictly h ss m r is =
    bind (in_order run ss) (strict_in_order strictly ss) _ _ (order_so run strictly h ss)
    (λ flow. sure (change (λ n. record n { locals = take (length m.locals) n.locals }) >> pure flow)) m r is

module _ (w : World) (v : Expr → Action Value) (u : Expr → Sure Value) (b : List Stmt → Action Flow) (d : List Stmt → Sure Flow)
    (values : (e : Expr) → Tells (v e) (u e)) (blocks : (ss : List Stmt) → Tells (b ss) (d ss)) where
  body_so : (this : Receiver) (method : Method) (us : List Value) → Tells (run_body w b this method us) (strict_body w d this method us)
  unfolding run_body strict_body
  body_so this method us m r is =
      let inside = record m { depth = m.depth + 1; this = Some this; locals = bound w.schema.classes method.parameters us } in
      let back : Machine → Machine = λ n. record n { depth = m.depth; this = m.this; locals = m.locals } in
      onward_so (d method.body inside) (b method.body inside) _ _ r (blocks method.body inside)
      (λ flow n q same. only (strict.is_result w d method flow (back n)) (pure (result_of w.schema.classes method flow))
      (give (result_of w.schema.classes method flow)) (sure (pure (result_of w.schema.classes method flow))) (back n) q same) is

  enter_so : (this : Receiver) (o : Option Method) (us : List Value) → Tells (enter w b this o us) (strict_enter w d this o us)
  enter_so this None us = never _
  enter_so this (Some method) us = body_so this method us

  object_so : (c : ℕ) (x : Oref) (name : List ℕ) (us : List Value) → Tells (call_object w b c x name us) (strict_object w d c x name us)
  unfolding call_object strict_object
  object_so c x name us m r is =
      let owners = owners_at w.schema.classes c x m in
      let this : Receiver = record { oref = x; class = c; owners = owners } in
      let method = method_of w.schema.classes c name in
      fork (nat_lt m.depth DEPTH_LIMIT) _ _ r _ _
      (bind (touch w owners x) (surely (touch w owners x)) (λ found. enter_as w b this found method us)
      (λ found. strict_enter_as w d this found method us) (sure (touch w owners x))
      (λ found. only_else (found == c) (enter w b this method us) (fail fault.NullCall) (strict_enter w d this method us)
      (enter_so this method us)) m r)
      (λ e. cc) is

  call_so : (k : ExprType) (a : Value) (name : List ℕ) (us : List Value) → Tells (call w b k a name us) (strict_call w d k a name us)
  unfolding call strict_call
  call_so (type.Class c) (value.Ref x) name us m r is =
      only (strict.can_call w d c name us m) (call_object w b c x name us) (strict_object w d c x name us) (object_so c x name us) m r is
  call_so (type.Class c) value.Null name us m r is =
      only (strict.can_call w d c name us m) (fail fault.NullCall) (surely (fail fault.NullCall)) (sure (fail fault.NullCall)) m r is
  call_so (type.Class c) (value.Int n) name us m r is = cc
  call_so (type.Class c) (value.Text n) name us m r is = cc
  call_so type.Int a name us m r is = cc
  call_so type.Text a name us m r is = cc
  call_so type.Null a name us m r is = cc
  call_so type.Untold a name us m r is = cc

  values_so : (us : List Value) (es : List Expr) → Tells (values_from w v b us es) (strict_values_from w u d us es)
  values_so us [] = sure (pure us)
  values_so us (e ∷ es) = bind (v e) (u e) _ _ (values e) (λ x. values_so (us ++ x ∷ []) es)

  node_so : (x : Expr-F Expr) → Tells (value_at w v b x) (strict_value_at w u d x)
  unfolding values_of
  node_so (Expr-F.Literal n line) m r is = sure (pure (literal_value n)) m r is
  node_so (Expr-F.Null line) m r is = sure (pure value.Null) m r is
  node_so (Expr-F.This line) m r is =
      only (is_some m.this) (pure (this_value m.this)) (give (this_value m.this)) (sure (pure (this_value m.this))) m r is
  node_so (Expr-F.Field name) m r is =
      only (strict.reads_field w m name.text) (pure (field_value w m name.text)) (give (field_value w m name.text))
      (sure (pure (field_value w m name.text))) m r is
  node_so (Expr-F.Variable name) m r is =
      only (strict.reads_name w m name.text) (pure (named_value w.schema m name.text)) (give (named_value w.schema m name.text))
      (sure (pure (named_value w.schema m name.text))) m r is
  node_so (Expr-F.New class at) m r is = only _ (create w class.text at) (surely (create w class.text at)) (sure (create w class.text at)) m r is
  node_so (Expr-F.Parens inner line) m r is = values inner m r is
  node_so (Expr-F.Negate operand line) m r is =
      bind (v operand) (u operand) _ _ (values operand) (λ a. only (strict.is_int a) _ _ (sure (pure _))) m r is
  node_so (Expr-F.Binary operator left right line) m r is =
      bind (v left) (u left) _ _ (values left) (λ a. bind (v right) (u right) _ _ (values right)
      (λ c. only (strict.are_operands operator a c) _ _ (sure (pure (combined operator a c))))) m r is
  node_so (Expr-F.Call receiver method es) m r is =
      bind (v receiver) (u receiver) _ _ (values receiver) (λ a. bind (values_from w v b [] es) (strict_values_from w u d [] es) _ _
      (values_so [] es) (λ us. call_so (type_of (scope_at w.schema m) receiver) a method.text us)) m r is

  pub expression_so : (e : Expr) → Tells (expression w v b e) (strict_expression w u d e)
  unfolding expression strict_expression
  expression_so e = bind step (surely step) _ _ (sure step) (λ x. node_so (out-Expr e))

  -- ---- statements

  first_so : (e : Expr) → Tells (step >> v e) (λ m. onward (Some (step m)) (λ x. u e))
  first_so e = bind step (surely step) _ _ (sure step) (λ x. values e)

  branch_so : (a : Value) (p q : Action Flow) (x y : Sure Flow) → Tells p x → Tells q y
      → Tells (cond (holds a) p q) (only_if (strict.is_int a) (cond (holds a) x y))
  branch_so a p q x y h k = only (strict.is_int a) (cond (holds a) p q) (cond (holds a) x y) (either (holds a) p q x y h k)

  repeat_so : (n : ℕ) (c : Expr) (body : List Stmt) → Tells (repeat w v b n c body) (strict_repeat w u d n c body)
  unfolding repeat strict_repeat
  repeat_so zero c body = sure (fail fault.Steps)
  repeat_so (suc n) c body =
      bind _ _ _ _ (first_so c) (λ a. branch_so a _ _ _ _
      (bind (b body) (d body) _ _ (blocks body) (λ flow. unless_so flow (repeat w v b n c body) (strict_repeat w u d n c body) (repeat_so n c body)))
      (sure (pure Next)))

  changed_so : (test : Machine → Bool) (c : Machine → Machine) → Tells (change c >> pure Next) (λ m. only_if (test m) (λ n. Some (Ok Next, c n)) m)
  changed_so test c m r is = only (test m) (change c >> pure Next) (λ n. Some (Ok Next, c n)) (sure (change c >> pure Next)) m r is

  statement_at_so : (x : Stmt-F Stmt) → Tells (statement_at w v b x) (strict_statement_at w u d x)
  statement_at_so (Stmt-F.Var type_name name line e) =
      bind _ _ _ _ (first_so e) (λ a. changed_so (λ m. strict.is_of (seen w m) (type_named w.schema.classes type_name) a)
      (declare (type_named w.schema.classes type_name) name.text a))
  statement_at_so (Stmt-F.Assign name line e) =
      bind _ _ _ _ (first_so e) (λ a. changed_so (λ m. strict.writes_local w m name.text a) (assign_local name.text a))
  statement_at_so (Stmt-F.FieldAssign field line e) =
      bind _ _ _ _ (first_so e) (λ a. changed_so (λ m. strict.writes_field w m field.text a) (assign_field w field.text a))
  statement_at_so (Stmt-F.Return e) = bind _ _ _ _ (first_so e) (λ a. sure (pure (Returned a)))
  statement_at_so (Stmt-F.If condition then_block) =
      bind _ _ _ _ (first_so condition) (λ a. branch_so a _ _ _ _ (blocks then_block) (sure (pure Next)))
  statement_at_so (Stmt-F.IfElse condition then_block otherwise) =
      bind _ _ _ _ (first_so condition) (λ a. branch_so a _ _ _ _ (blocks then_block) (blocks otherwise))
  statement_at_so (Stmt-F.While condition body) = repeat_so 100001 condition body
  statement_at_so (Stmt-F.Print e) =
      bind _ _ _ _ (first_so e) (λ a. changed_so (λ m. strict.is_int a || strict.is_text a) (λ m. record m { printed = m.printed ++ printed_as a }))
  statement_at_so (Stmt-F.Evaluate e) = bind _ _ _ _ (first_so e) (λ a. sure (pure Next))

  pub statement_so : (st : Stmt) → Tells (statement w v b st) (strict_statement w u d st)
  unfolding statement strict_statement
  statement_so st = statement_at_so (out-Stmt st)

module _ (w : World) where
  -- as deep as n
  record Both (n : ℕ) : Type 0 where
    values : (e : Expr) → Tells ((meaning w n).value_of e) ((strict_meaning w n).value_of e)
    statements : (st : Stmt) → Tells ((meaning w n).execute st) ((strict_meaning w n).execute st)

  both : (n : ℕ) → Both n
  unfolding meaning strict_meaning
  both zero = record { values = λ e. sure (fail fault.Steps); statements = λ st. sure (fail fault.Steps) }
  both (suc n) =
      let inner = both n in
      let blocks = block_so (meaning w n).execute (strict_meaning w n).execute inner.statements in
      record { values = expression_so w _ _ _ _ inner.values blocks; statements = statement_so w _ _ _ _ inner.values blocks }

  pub values_told : (n : ℕ) (e : Expr) → Tells ((meaning w n).value_of e) ((strict_meaning w n).value_of e)
  values_told n = (both n).values

  pub transactions_told : (tx : List Stmt) → Tells (execute_all w tx) (strict_execute_all w tx)
  unfolding execute_all strict_execute_all
  transactions_told tx = block_so _ _ (both 100001).statements tx
