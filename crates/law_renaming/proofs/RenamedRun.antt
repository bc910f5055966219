-- That statements and whole transactions go the same way where new objects take other names.
use Rattle.std.proofs.Common.{◌≡◌, Bool, true, false, cond, List, [], ◌∷◌, ◌++◌, Option, Some, None, Ok, refl, ap, sym, ℕ, zero, suc, pos, take, length, slice_get}
use Rattle.std.proofs.lemmas.List.Elements.{AllZip-push, length_all_zip}
use Rattle.std.specs.List.{AllZip}
use Rattle.std.specs.Ordering.{int_eq}
use Rattle.std.specs.Prelude.{not, position}
use Rattle.std.specs.Str.{bytes_eq}
use Rattle.thor_value.specs.declared.values.Fault.TheVariants as fault
use Rattle.thor_value.specs.declared.values.Value.{Value}
use Rattle.law_renaming.proofs.Renamed.{Both, Locals, Time, Later, Values, each_at, each_front, each_placed, each_set, value_later}
use Rattle.law_renaming.proofs.RenamedCalls.{Flows, same_number, same_printed, expression_same}
use Rattle.law_renaming.proofs.RenamedMachines.{Setting, Twins, now, Went, Alike, Nothing, on, bind, gives, settled, failing, steps}
use Rattle.law_renaming.proofs.RenamedObjects.{assign_field_same}
use Rattle.class_defs.specs.Run.{meaning, execute_all}
use Rattle.class_defs.specs.Statements.{assign_local, assigned, assigned_at, block_of, branch, declare, holds, in_order, repeat, statement, statement_at, turn, unless_returned, with_value}
use Rattle.class_defs.specs.Kinds.{printed_as}
use Rattle.class_defs.specs.Steps.{Action, step, ◌>>=◌, ◌>>◌, pure, change}
use Rattle.class_defs.specs.Types.{type_named}
use Rattle.class_defs.specs.declared.expressions.Expr.{Expr}
use Rattle.class_defs.specs.declared.machine.Flow.{Flow}
use Rattle.class_defs.specs.declared.machine.Flow.TheVariants.{Next, Returned}
use Rattle.class_defs.specs.declared.machine.Local.{Local}
use Rattle.class_defs.specs.declared.machine.Machine.{Machine}
use Rattle.class_defs.specs.declared.statements.Stmt.{Stmt, out-Stmt}
use Rattle.class_defs.specs.declared.statements.Stmt.TheOpen.{Stmt-F}

module _ (s : Setting) where
  -- ---- locals

  with_value_same : (t : Time) (ls ks : List Local) (i : ℕ) (o p : Option Local) (v u : Value) → AllZip (Locals s.fresh t) ls ks
      → Both (Locals s.fresh t) o p → Values s.fresh t v u
      → AllZip (Locals s.fresh t) (with_value ls i o v) (with_value ks i p u)
  with_value_same t ls ks i (Some l) (Some k) v u h b e = each_set (Locals s.fresh t) ls ks i _ _
      (record { name = b.name; kind = b.kind; value = e }) h
  with_value_same t ls ks i None None v u h b e = h
  with_value_same t ls ks i o p v u h b e = absurd b

  assigned_at_same : (t : Time) (ls ks : List Local) (i : Option ℕ) (v u : Value) → AllZip (Locals s.fresh t) ls ks → Values s.fresh t v u
      → AllZip (Locals s.fresh t) (assigned_at ls i v) (assigned_at ks i u)
  assigned_at_same t ls ks None v u h e = h
  assigned_at_same t ls ks (Some i) v u h e = with_value_same t ls ks i (slice_get ls i) (slice_get ks i) v u h
      (each_at (Locals s.fresh t) ls ks i h) e

  same_place : (t : Time) (name : List ℕ) (ls ks : List Local) → AllZip (Locals s.fresh t) ls ks
      → position (λ (l : Local). bytes_eq l.name name) ks ≡ position (λ (l : Local). bytes_eq l.name name) ls
  same_place t name ls ks h =
      let e = each_placed (Locals s.fresh t) (λ (l : Local). bytes_eq l.name name) (λ (l : Local). bytes_eq l.name name)
      (λ a b r. rw r.name refl) ls ks h in
      let f = length_all_zip (Locals s.fresh t) ls ks h in
      rw (e, sym f) refl

  assigned_same : (t : Time) (ls ks : List Local) (name : List ℕ) (v u : Value) → AllZip (Locals s.fresh t) ls ks → Values s.fresh t v u
      → AllZip (Locals s.fresh t) (assigned ls name v) (assigned ks name u)
  unfolding assigned
  assigned_same t ls ks name v u h e = rw (same_place t name ls ks h)
      (assigned_at_same t ls ks (position (λ (l : Local). bytes_eq l.name name) ls) v u h e)

  with_locals : (m n : Machine) (ls ks : List Local) → Twins s m n → AllZip (Locals s.fresh (now s m n)) ls ks
      → Twins s (record m { locals = ls }) (record n { locals = ks })
  with_locals m n ls ks tw h = record {
    steps = tw.steps;
    depth = tw.depth;
    printed = tw.printed;
    reads = tw.reads;
    this = tw.this;
    locals = h;
    made = tw.made;
  }

  -- ---- statements one after the other

  unless_same : (t : Time) (f g : Flow) (p q : Action Flow) → ((u : Time) → Later s.fresh t u → Flows s u f g)
      → ((u : Time) → Later s.fresh t u → Alike s (Flows s) u p q)
      → Flows s t f g → Alike s (Flows s) t (unless_returned f p) (unless_returned g q)
  unless_same t Next Next p q h k e = k t (λ x y i. i)
  unless_same t (Returned v) (Returned u) p q h k e = settled s (Flows s) t (Returned v) (Returned u) h
  unless_same t f g p q h k e = absurd e

  flow_later : (t u : Time) → Later s.fresh t u → (f g : Flow) → Flows s t f g → Flows s u f g
  flow_later t u lt Next Next h = tt
  flow_later t u lt (Returned v) (Returned w) h = value_later s.fresh t u lt v w h
  flow_later t u lt f g h = absurd h

  order_same : (r : Stmt → Action Flow) → ((t : Time) (q : Stmt) → Alike s (Flows s) t (r q) (r q)) → (ss : List Stmt) → (t : Time)
      → Alike s (Flows s) t (in_order r ss) (in_order r ss)
  order_same r h [] t = settled s (Flows s) t Next Next (λ u lt. tt)
  order_same r h (q ∷ ss) t =
      bind s (Flows s) (Flows s) t (r q) (r q) _ _ (h t q) (λ u lt f g e. unless_same u f g (in_order r ss) (in_order r ss)
      (λ w lw. flow_later u w lw f g e) (λ w lw. order_same r h ss w) e)

  pub block_same : (r : Stmt → Action Flow) → ((t : Time) (q : Stmt) → Alike s (Flows s) t (r q) (r q)) → (t : Time) → (ss : List Stmt)
      → Alike s (Flows s) t (block_of r ss) (block_of r ss)
  unfolding block_of
  block_same r h t ss m n lt tw =
      let p = in_order r ss m in
      let q = in_order r ss n in
      let long : length m.locals ≡ length n.locals = length_all_zip (Locals s.fresh (now s m n)) m.locals n.locals tw.locals in
      on s (Flows s) (Flows s) (now s m n) p.0 q.0 p.1 q.1 (λ f. λ o. (Ok f, record o { locals = take (length m.locals) o.locals }))
      (λ f. λ o. (Ok f, record o { locals = take (length n.locals) o.locals }))
      (order_same r h ss t m n lt tw) (λ f g e later end.
      rw (sym long) (gives s (Flows s) p.1 q.1 (record p.1 { locals = take (length m.locals) p.1.locals })
      (record q.1 { locals = take (length m.locals) q.1.locals }) f g (λ x y i. i)
      (with_locals p.1 q.1 _ _ end (each_front (Locals s.fresh (now s p.1 q.1)) p.1.locals q.1.locals (length m.locals) end.locals)) e))

  module _ (v : Expr → Action Value) (b : List Stmt → Action Flow) (values : (t : Time) (e : Expr) → Alike s (Values s.fresh) t (v e) (v e))
      (blocks : (t : Time) (ss : List Stmt) → Alike s (Flows s) t (b ss) (b ss)) where
    holds_same : (t : Time) (a c : Value) → Values s.fresh t a c → holds c ≡ holds a
    holds_same t a c h = ap (λ n. not (int_eq n (pos 0))) (sym (same_number s t a c h))

    either_same : {A : Type 0} (V : Time → A → A → Type 0) (t : Time) (c d : Bool) (p q o r : Action A) → d ≡ c → Alike s V t p o → Alike s V t q r
        → Alike s V t (cond c p q) (cond d o r)
    either_same V t true true p q o r e h k = h
    either_same V t false false p q o r e h k = k
    either_same V t true false p q o r e h k = cc
    either_same V t false true p q o r e h k = cc

    turn_same : (t : Time) (a c : Value) (body : List Stmt) (p : Action Flow) → Values s.fresh t a c → ((u : Time) → Alike s (Flows s) u p p)
        → Alike s (Flows s) t (turn s.world v b a body p) (turn s.world v b c body p)
    turn_same t a c body p h again =
        either_same (Flows s) t (holds a) (holds c) _ _ _ _ (holds_same t a c h)
        (bind s (Flows s) (Flows s) t (b body) (b body) _ _ (blocks t body)
        (λ u lt f g e. unless_same u f g p p (λ w lw. flow_later u w lw f g e) (λ w lw. again w) e))
        (settled s (Flows s) t Next Next (λ u lt. tt))

    first_value : (t : Time) (e : Expr) → Alike s (Values s.fresh) t (step >> v e) (step >> v e)
    first_value t e = bind s (Nothing s) (Values s.fresh) t step step _ _ (steps s t) (λ u lt a c h. values u e)

    repeat_same : (n : ℕ) (c : Expr) (body : List Stmt) (t : Time) → Alike s (Flows s) t (repeat s.world v b n c body) (repeat s.world v b n c body)
    unfolding repeat
    repeat_same zero c body t = failing s (Flows s) t fault.Steps
    repeat_same (suc n) c body t = bind s (Values s.fresh) (Flows s) t (step >> v c) (step >> v c) _ _ (first_value t c)
        (λ u lt a d h. turn_same u a d body (repeat s.world v b n c body) h (repeat_same n c body))

    branch_same : (t : Time) (a c : Value) (p q : Action Flow) → Values s.fresh t a c → Alike s (Flows s) t p p → Alike s (Flows s) t q q
        → Alike s (Flows s) t (branch s.world v b a p q) (branch s.world v b c p q)
    branch_same t a c p q h i j = either_same (Flows s) t (holds a) (holds c) p q p q (holds_same t a c h) i j

    -- a value, and then a change of the state by it
    changed_by : (t : Time) (e : Expr) (c : Value → Machine → Machine)
        → ((m n : Machine) (a d : Value) → Twins s m n → Values s.fresh (now s m n) a d
        → Went s (Flows s) (now s m n) (Ok Next, c a m) (Ok Next, c d n))
        → Alike s (Flows s) t (step >> v e >>= (λ a. change (c a) >> pure Next)) (step >> v e >>= (λ a. change (c a) >> pure Next))
    changed_by t e c h =
        bind s (Values s.fresh) (Flows s) t (step >> v e) (step >> v e) _ _ (first_value t e)
        (λ u lt a d i. λ m n later tw. h m n a d tw (value_later s.fresh u (now s m n) later a d i))

    printed_twins : (m n : Machine) (a d : Value) → Twins s m n → Values s.fresh (now s m n) a d
        → Twins s (record m { printed = m.printed ++ printed_as a }) (record n { printed = n.printed ++ printed_as d })
    printed_twins m n a d tw h = record {
      steps = tw.steps;
      depth = tw.depth;
      printed = rw (tw.printed, same_printed s (now s m n) a d h) refl;
      reads = tw.reads;
      this = tw.this;
      locals = tw.locals;
      made = tw.made;
    }

    statement_at_same : (t : Time) (q : Stmt-F Stmt) → Alike s (Flows s) t (statement_at s.world v b q) (statement_at s.world v b q)
    statement_at_same t (Stmt-F.Var type_name name line e) =
        changed_by t e (λ a. declare (type_named s.world.schema.classes type_name) name.text a) (λ m n a d tw h.
        gives s (Flows s) m n _ _ Next Next (λ x y i. i)
        (with_locals m n _ _ tw (AllZip-push (Locals s.fresh (now s m n)) m.locals n.locals _ _ tw.locals
        (record { name = refl; kind = refl; value = h }))) tt)
    statement_at_same t (Stmt-F.Assign name line e) =
        changed_by t e (λ a. assign_local name.text a) (λ m n a d tw h.
        gives s (Flows s) m n _ _ Next Next (λ x y i. i) (with_locals m n _ _ tw
        (assigned_same (now s m n) m.locals n.locals name.text a d tw.locals h)) tt)
    statement_at_same t (Stmt-F.FieldAssign field line e) =
        bind s (Values s.fresh) (Flows s) t (step >> v e) (step >> v e) _ _ (first_value t e) (λ u lt a d h.
        bind s (Nothing s) (Flows s) u _ _ _ _ (assign_field_same s u field.text a d (λ w lw. value_later s.fresh u w lw a d h))
        (λ w lw i j k. settled s (Flows s) w Next Next (λ x lx. tt)))
    statement_at_same t (Stmt-F.Return e) =
        bind s (Values s.fresh) (Flows s) t (step >> v e) (step >> v e) _ _ (first_value t e)
        (λ u lt a d h. settled s (Flows s) u (Returned a) (Returned d) (λ w lw. value_later s.fresh u w lw a d h))
    statement_at_same t (Stmt-F.If condition then_block) =
        bind s (Values s.fresh) (Flows s) t (step >> v condition) (step >> v condition) _ _ (first_value t condition) (λ u lt a d h.
        branch_same u a d _ _ h (blocks u then_block) (settled s (Flows s) u Next Next (λ w lw. tt)))
    statement_at_same t (Stmt-F.IfElse condition then_block otherwise) =
        bind s (Values s.fresh) (Flows s) t (step >> v condition) (step >> v condition) _ _ (first_value t condition) (λ u lt a d h.
        branch_same u a d _ _ h (blocks u then_block) (blocks u otherwise))
    statement_at_same t (Stmt-F.While condition body) = repeat_same 100001 condition body t
    statement_at_same t (Stmt-F.Print e) =
        changed_by t e (λ a. λ m. record m { printed = m.printed ++ printed_as a }) (λ m n a d tw h.
        gives s (Flows s) m n _ _ Next Next (λ x y i. i) (printed_twins m n a d tw h) tt)
    statement_at_same t (Stmt-F.Evaluate e) =
        bind s (Values s.fresh) (Flows s) t (step >> v e) (step >> v e) _ _ (first_value t e)
        (λ u lt a d h. settled s (Flows s) u Next Next (λ w lw. tt))

    pub statement_same : (t : Time) (q : Stmt) → Alike s (Flows s) t (statement s.world v b q) (statement s.world v b q)
    unfolding statement
    statement_same t q = statement_at_same t (out-Stmt q)

  -- ---- whole transactions

  -- expressions and statements go the same way, as deep as n
  record Deep (n : ℕ) : Type 0 where
    values : (t : Time) (e : Expr) → Alike s (Values s.fresh) t ((meaning s.world n).value_of e) ((meaning s.world n).value_of e)
    statements : (t : Time) (q : Stmt) → Alike s (Flows s) t ((meaning s.world n).execute q) ((meaning s.world n).execute q)

  deep : (n : ℕ) → Deep n
  unfolding meaning
  deep zero = record { values = λ t e. failing s (Values s.fresh) t fault.Steps; statements = λ t q. failing s (Flows s) t fault.Steps }
  deep (suc n) =
      let inner = deep n in
      let blocks = block_same (meaning s.world n).execute inner.statements in
      record {
        values = expression_same s _ _ inner.values blocks;
        statements = statement_same _ _ inner.values blocks;
      }

  pub transaction_same : (t : Time) (tx : List Stmt) → Alike s (Flows s) t (execute_all s.world tx) (execute_all s.world tx)
  unfolding execute_all
  transaction_same t tx = block_same (meaning s.world 100001).execute (deep 100001).statements t tx
