-- What statements and whole transactions say of how a run ends.
use Rattle.std.proofs.Common.{Bool, true, false, cond, List, [], ◌∷◌, ◌++◌, Option, ℕ, zero, suc, take, length, inl}
use Rattle.thor_value.specs.declared.names.Oref.{Oref}
use Rattle.thor_value.specs.declared.values.Fault.TheVariants as fault
use Rattle.thor_value.specs.declared.values.Value.{Value}
use Rattle.class_defs.specs.Kinds.{printed_as}
use Rattle.class_defs.specs.Run.{meaning, execute_all, begun}
use Rattle.class_defs.specs.Statements.{assign_local, block_of, branch, declare, holds, in_order, repeat, statement, statement_at, turn, unless_returned}
use Rattle.class_defs.specs.Steps.{World, Action, step, ◌>>◌, pure, change}
use Rattle.class_defs.specs.Types.{type_named}
use Rattle.class_defs.specs.declared.expressions.Expr.{Expr}
use Rattle.class_defs.specs.declared.machine.Flow.{Flow}
use Rattle.class_defs.specs.declared.machine.Flow.TheVariants.{Next, Returned}
use Rattle.class_defs.specs.declared.machine.Machine.{Machine}
use Rattle.class_defs.specs.declared.statements.Stmt.{Stmt, out-Stmt}
use Rattle.class_defs.specs.declared.statements.Stmt.TheOpen.{Stmt-F}
use Rattle.law_eval.proofs.Ends.{Goes, Grows, Sound, Takes, Went, AtHand, bind, faults, gives, steps, value}
use Rattle.law_eval.proofs.EndsCalls.{expression_goes}
use Rattle.law_eval.proofs.EndsObjects.{assign_field_goes}

module _ (w : World) where
  -- a change of the state that leaves what is read, written, created and `this`
  changes : {A : Type 0} (c : Machine → Machine) (a : A) → ((m : Machine) → Takes m (c m)) → ((m : Machine) → Grows m (c m)) → ((m : Machine) → AtHand w m → AtHand w (c m)) → ((m : Machine) → Sound m → Sound (c m))
      → Goes w (change c >> pure a)
  changes c a takes grows hand sound m s = gives w m (c m) a (takes m) (grows m) (hand m) (sound m s)

  unless_goes : (flow : Flow) (p : Action Flow) → Goes w p → Goes w (unless_returned flow p)
  unless_goes Next p h = h
  unless_goes (Returned v) p h = value w (Returned v)

  order_goes : (r : Stmt → Action Flow) → ((s : Stmt) → Goes w (r s)) → (ss : List Stmt) → Goes w (in_order r ss)
  order_goes r h [] = value w Next
  order_goes r h (s ∷ ss) = bind w (r s) _ (h s) (λ flow. unless_goes flow (in_order r ss) (order_goes r h ss))

  pub block_goes : (r : Stmt → Action Flow) → ((s : Stmt) → Goes w (r s)) → (ss : List Stmt) → Goes w (block_of r ss)
  unfolding block_of
  block_goes r h ss m s =
      bind w (in_order r ss) _ (order_goes r h ss)
      (λ flow. changes (λ n. record n { locals = take (length m.locals) n.locals }) flow (λ n. record { none = λ e. e; waiting = λ x k. k; made = λ e x k. inl k }) (λ n x k. k) (λ n k. k) (λ n k. record { this = k.this; written = k.written })) m s

  module _ (v : Expr → Action Value) (b : List Stmt → Action Flow) (values : (e : Expr) → Goes w (v e)) (blocks : (ss : List Stmt) → Goes w (b ss)) where
    either_goes : {A : Type 0} (c : Bool) (p q : Action A) → Goes w p → Goes w q → Goes w (cond c p q)
    either_goes true p q h k = h
    either_goes false p q h k = k

    turn_goes : (t : Value) (body : List Stmt) (p : Action Flow) → Goes w p → Goes w (turn w v b t body p)
    turn_goes t body p h = either_goes (holds t) _ _ (bind w (b body) _ (blocks body) (λ flow. unless_goes flow p h)) (value w Next)

    first_value : (e : Expr) → Goes w (step >> v e)
    first_value e = bind w step _ (steps w) (λ t. values e)

    repeat_goes : (n : ℕ) (c : Expr) (body : List Stmt) → Goes w (repeat w v b n c body)
    unfolding repeat
    repeat_goes zero c body = faults w fault.Steps
    repeat_goes (suc n) c body = bind w _ _ (first_value c) (λ t. turn_goes t body _ (repeat_goes n c body))

    branch_goes : (t : Value) (p q : Action Flow) → Goes w p → Goes w q → Goes w (branch w v b t p q)
    branch_goes t p q h k = either_goes (holds t) p q h k

    statement_at_goes : (s : Stmt-F Stmt) → Goes w (statement_at w v b s)
    statement_at_goes (Stmt-F.Var type_name name line e) =
        bind w _ _ (first_value e) (λ t. changes (declare (type_named w.schema.classes type_name) name.text t) Next (λ m. record { none = λ e. e; waiting = λ x k. k; made = λ e x k. inl k }) (λ m x k. k) (λ m k. k) (λ m k. record { this = k.this; written = k.written }))
    statement_at_goes (Stmt-F.Assign name line e) =
        bind w _ _ (first_value e) (λ t. changes (assign_local name.text t) Next (λ m. record { none = λ e. e; waiting = λ x k. k; made = λ e x k. inl k }) (λ m x k. k) (λ m k. k) (λ m k. record { this = k.this; written = k.written }))
    statement_at_goes (Stmt-F.FieldAssign field line e) =
        bind w _ _ (first_value e) (λ t. bind w _ _ (assign_field_goes w field.text t) (λ i. value w Next))
    statement_at_goes (Stmt-F.Return e) = bind w _ _ (first_value e) (λ t. value w (Returned t))
    statement_at_goes (Stmt-F.If condition then_block) = bind w _ _ (first_value condition) (λ t. branch_goes t _ _ (blocks then_block) (value w Next))
    statement_at_goes (Stmt-F.IfElse condition then_block otherwise) =
        bind w _ _ (first_value condition) (λ t. branch_goes t _ _ (blocks then_block) (blocks otherwise))
    statement_at_goes (Stmt-F.While condition body) = repeat_goes 100001 condition body
    statement_at_goes (Stmt-F.Print e) =
        bind w _ _ (first_value e) (λ t. changes (λ m. record m { printed = m.printed ++ printed_as t }) Next (λ m. record { none = λ e. e; waiting = λ x k. k; made = λ e x k. inl k }) (λ m x k. k) (λ m k. k) (λ m k. record { this = k.this; written = k.written }))
    statement_at_goes (Stmt-F.Evaluate e) = bind w _ _ (first_value e) (λ t. value w Next)

    statement_goes : (s : Stmt) → Goes w (statement w v b s)
    unfolding statement
    statement_goes s = statement_at_goes (out-Stmt s)

  -- expressions and statements, as deep as n
  pub record Both (n : ℕ) : Type 0 where
    pub values : (e : Expr) → Goes w ((meaning w n).value_of e)
    pub statements : (s : Stmt) → Goes w ((meaning w n).execute s)

  pub both : (n : ℕ) → Both n
  unfolding meaning
  both zero = record { values = λ e. faults w fault.Steps; statements = λ s. faults w fault.Steps }
  both (suc n) =
      let inner = both n in
      let blocks = block_goes (meaning w n).execute inner.statements in
      record {
        values = expression_goes w _ _ inner.values blocks;
        statements = statement_goes _ _ inner.values blocks;
      }

  transaction_goes : (tx : List Stmt) → Goes w (execute_all w tx)
  unfolding execute_all
  transaction_goes tx = block_goes _ (both 100001).statements tx

  -- how a transaction ends, and what it has read by then
  pub transaction_ends : (tx : List Stmt) (names : List Oref) (stand_in : Option ℕ)
      → let ended = execute_all w tx (begun names stand_in) in Went w Flow (begun names stand_in) ended.0 ended.1
  transaction_ends tx names stand_in = transaction_goes tx (begun names stand_in) (record { this = tt; written = λ x h. cc })
