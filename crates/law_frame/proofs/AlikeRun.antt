-- That statements and whole transactions go alike over objects that agree.
use Rattle.std.proofs.Common.{◌≡◌, Bool, true, false, cond, List, [], ◌∷◌, ◌++◌, Option, refl, ℕ, zero, suc, take, length}
use Rattle.thor_value.specs.declared.names.Oref.{Oref}
use Rattle.thor_value.specs.declared.values.Fault.TheVariants as fault
use Rattle.thor_value.specs.declared.values.Value.{Value}
use Rattle.class_defs.proofs.ActionWords.{Ended, over}
use Rattle.law_frame.proofs.Alike.{Sound, Grows}
use Rattle.law_frame.proofs.AlikeSteps.{Agree, Alike, bind, gives, value, failing, steps}
use Rattle.law_frame.proofs.AlikeObjects.{assign_field_alike}
use Rattle.law_frame.proofs.AlikeCalls.{expression_alike}
use Rattle.class_defs.specs.Run.{meaning, execute_all, begun}
use Rattle.class_defs.specs.Kinds.{printed_as}
use Rattle.class_defs.specs.Statements.{assign_local, block_of, branch, declare, holds, in_order, repeat, statement, statement_at, turn, unless_returned}
use Rattle.class_defs.specs.Steps.{World, Action, step, ◌>>◌, pure, change}
use Rattle.class_defs.specs.Types.{type_named}
use Rattle.class_defs.specs.declared.expressions.Expr.{Expr}
use Rattle.class_defs.specs.declared.machine.Flow.{Flow}
use Rattle.class_defs.specs.declared.machine.Flow.TheVariants.{Next, Returned}
use Rattle.class_defs.specs.declared.machine.Machine.{Machine}
use Rattle.class_defs.specs.declared.machine.Stop.TheVariants as stop
use Rattle.class_defs.specs.declared.statements.Stmt.{Stmt, out-Stmt}
use Rattle.class_defs.specs.declared.statements.Stmt.TheOpen.{Stmt-F}
use Rattle.class_defs.specs.declared.store.Object.{Object}
use Rattle.class_defs.specs.declared.store.Schema.{Schema}

module _ (f g : Oref → Option Object) where
  -- a change of the state that leaves what is read, written, created and `this`
  pub changes : {A : Type 0} (c : Machine → Machine) (a : A) → ((m : Machine) → Grows m (c m)) → ((m : Machine) → Sound m → Sound (c m)) → Alike f g (change c >> pure a) (change c >> pure a)
  changes c a grows sound m s = gives f g m (c m) (c m) a a (grows m) (sound m s) (λ agree. refl) (λ agree. refl)

  unless_alike : (flow : Flow) (p q : Action Flow) → Alike f g p q → Alike f g (unless_returned flow p) (unless_returned flow q)
  unless_alike Next p q h = h
  unless_alike (Returned v) p q h = value f g (Returned v)

  order_alike : (r t : Stmt → Action Flow) → ((s : Stmt) → Alike f g (r s) (t s)) → (ss : List Stmt) → Alike f g (in_order r ss) (in_order t ss)
  order_alike r t h [] = value f g Next
  order_alike r t h (s ∷ ss) = bind f g (r s) (t s) _ _ (h s) (λ flow. unless_alike flow (in_order r ss) (in_order t ss) (order_alike r t h ss))

  pub block_alike : (r t : Stmt → Action Flow) → ((s : Stmt) → Alike f g (r s) (t s)) → (ss : List Stmt) → Alike f g (block_of r ss) (block_of t ss)
  unfolding block_of
  block_alike r t h ss m s =
      bind f g (in_order r ss) (in_order t ss) _ _ (order_alike r t h ss)
      (λ flow. changes (λ n. record n { locals = take (length m.locals) n.locals }) flow (λ n. record { reads = λ x k. k; writes = λ x k. k }) (λ n k. record { this = k.this; created = k.created })) m s

module _ (schema : Schema) (f g : Oref → Option Object) (v u : Expr → Action Value) (b d : List Stmt → Action Flow)
    (values : (e : Expr) → Alike f g (v e) (u e)) (blocks : (ss : List Stmt) → Alike f g (b ss) (d ss)) where
  abbrev one : World
  one = over schema f

  abbrev other : World
  other = over schema g

  either_alike : {A : Type 0} (c : Bool) (p q r s : Action A) → Alike f g p r → Alike f g q s → Alike f g (cond c p q) (cond c r s)
  either_alike true p q r s h k = h
  either_alike false p q r s h k = k

  turn_alike : (t : Value) (body : List Stmt) (p q : Action Flow) → Alike f g p q → Alike f g (turn one v b t body p) (turn other u d t body q)
  turn_alike t body p q h =
      either_alike (holds t) _ _ _ _ (bind f g (b body) (d body) _ _ (blocks body) (λ flow. unless_alike f g flow p q h)) (value f g Next)

  first_value : (e : Expr) → Alike f g (step >> v e) (step >> u e)
  first_value e = bind f g step step _ _ (steps f g) (λ t. values e)

  repeat_alike : (n : ℕ) (c : Expr) (body : List Stmt) → Alike f g (repeat one v b n c body) (repeat other u d n c body)
  unfolding repeat
  repeat_alike zero c body = failing f g (stop.Fault fault.Steps)
  repeat_alike (suc n) c body = bind f g _ _ _ _ (first_value c) (λ t. turn_alike t body _ _ (repeat_alike n c body))

  branch_alike : (t : Value) (p q r s : Action Flow) → Alike f g p r → Alike f g q s → Alike f g (branch one v b t p q) (branch other u d t r s)
  branch_alike t p q r s h k = either_alike (holds t) p q r s h k

  statement_at_alike : (s : Stmt-F Stmt) → Alike f g (statement_at one v b s) (statement_at other u d s)
  statement_at_alike (Stmt-F.Var type_name name line e) =
      bind f g _ _ _ _ (first_value e) (λ t. changes f g (declare (type_named schema.classes type_name) name.text t) Next (λ m. record { reads = λ x k. k; writes = λ x k. k }) (λ m k. record { this = k.this; created = k.created }))
  statement_at_alike (Stmt-F.Assign name line e) =
      bind f g _ _ _ _ (first_value e) (λ t. changes f g (assign_local name.text t) Next (λ m. record { reads = λ x k. k; writes = λ x k. k }) (λ m k. record { this = k.this; created = k.created }))
  statement_at_alike (Stmt-F.FieldAssign field line e) =
      bind f g _ _ _ _ (first_value e) (λ t. bind f g _ _ _ _ (assign_field_alike schema f g field.text t) (λ i. value f g Next))
  statement_at_alike (Stmt-F.Return e) = bind f g _ _ _ _ (first_value e) (λ t. value f g (Returned t))
  statement_at_alike (Stmt-F.If condition then_block) = bind f g _ _ _ _ (first_value condition) (λ t. branch_alike t _ _ _ _ (blocks then_block) (value f g Next))
  statement_at_alike (Stmt-F.IfElse condition then_block otherwise) =
      bind f g _ _ _ _ (first_value condition) (λ t. branch_alike t _ _ _ _ (blocks then_block) (blocks otherwise))
  statement_at_alike (Stmt-F.While condition body) = repeat_alike 100001 condition body
  statement_at_alike (Stmt-F.Print e) =
      bind f g _ _ _ _ (first_value e) (λ t. changes f g (λ m. record m { printed = m.printed ++ printed_as t }) Next (λ m. record { reads = λ x k. k; writes = λ x k. k }) (λ m k. record { this = k.this; created = k.created }))
  statement_at_alike (Stmt-F.Evaluate e) = bind f g _ _ _ _ (first_value e) (λ t. value f g Next)

  pub statement_alike : (s : Stmt) → Alike f g (statement one v b s) (statement other u d s)
  unfolding statement
  statement_alike s = statement_at_alike (out-Stmt s)

module _ (schema : Schema) (f g : Oref → Option Object) where
  -- expressions and statements go alike, as deep as n
  record Both (n : ℕ) : Type 0 where
    values : (e : Expr) → Alike f g ((meaning (over schema f) n).value_of e) ((meaning (over schema g) n).value_of e)
    statements : (s : Stmt) → Alike f g ((meaning (over schema f) n).execute s) ((meaning (over schema g) n).execute s)

  both : (n : ℕ) → Both n
  unfolding meaning
  both zero = record { values = λ e. failing f g (stop.Fault fault.Steps); statements = λ s. failing f g (stop.Fault fault.Steps) }
  both (suc n) =
      let inner = both n in
      let blocks = block_alike f g (meaning (over schema f) n).execute (meaning (over schema g) n).execute inner.statements in
      record {
        values = expression_alike schema f g _ _ _ _ inner.values blocks;
        statements = statement_alike schema f g _ _ _ _ inner.values blocks;
      }

  pub transaction_alike : (tx : List Stmt) → Alike f g (execute_all (over schema f) tx) (execute_all (over schema g) tx)
  unfolding execute_all
  transaction_alike tx = block_alike f g _ _ (both 100001).statements tx

  begun_sound : (names : List Oref) (stand_in : Option ℕ) → Sound (begun names stand_in)
  begun_sound names stand_in = record { this = tt; created = λ x h. cc }

  -- where the objects that the one run has read are the same, the other ends in the same way
  pub ends_alike : (tx : List Stmt) (names : List Oref) (stand_in : Option ℕ)
      → let ended = execute_all (over schema f) tx (begun names stand_in) in
      Ended ended.0 → Agree f g ended.1 → execute_all (over schema g) tx (begun names stand_in) ≡ ended
  ends_alike tx names stand_in = (transaction_alike tx (begun names stand_in) (begun_sound names stand_in)).same
