-- That calls and expressions go alike over objects that agree, where their parts and the bodies of methods do.
use Rattle.std.proofs.Common.{◌≡◌, Bool, true, false, cond, List, [], ◌∷◌, ◌++◌, Option, Some, None, Result, Ok, Err, refl, ℕ}
use Rattle.std.specs.Prelude.{nat_lt, ◌+◌, ◌==◌}
use Rattle.thor_value.specs.declared.names.Oref.{Oref}
use Rattle.thor_value.specs.declared.values.Fault.TheVariants as fault
use Rattle.thor_value.specs.declared.values.Value.{Value}
use Rattle.thor_value.specs.declared.values.Value.TheVariants as value
use Rattle.law_frame.proofs.Alike.{known, Sound, Grows, grows_no, this_grows}
use Rattle.class_defs.proofs.ActionWords.{over}
use Rattle.law_frame.proofs.AlikeSteps.{Went, Alike, on, bind, gives, value, stops, steps}
use Rattle.law_frame.proofs.AlikeObjects.{touch_alike, touch_known, field_value_alike, create_alike}
use Rattle.class_defs.specs.Calls.{owners_at, bound, run_body, enter, enter_as, call_object, call}
use Rattle.class_defs.specs.Expressions.{this_value, values_from, values_of, value_at, expression, combined}
use Rattle.class_defs.specs.Kinds.{literal_value}
use Rattle.class_defs.specs.Objects.{touch, scope_at, named_value}
use Rattle.class_defs.specs.Steps.{World, Action, step, ◌>>=◌}
use Rattle.class_defs.specs.Types.{method_of, type_of}
use Rattle.class_defs.specs.declared.expressions.Expr.{Expr, out-Expr}
use Rattle.class_defs.specs.declared.expressions.Expr.TheOpen.{Expr-F}
use Rattle.class_defs.specs.declared.classes.Method.{Method}
use Rattle.class_defs.specs.declared.limits.TheConstants.{DEPTH_LIMIT}
use Rattle.class_defs.specs.declared.machine.Flow.{Flow}
use Rattle.class_defs.specs.declared.machine.Machine.{Machine}
use Rattle.class_defs.specs.declared.machine.Receiver.{Receiver}
use Rattle.class_defs.specs.declared.machine.Stop.{Stop}
use Rattle.class_defs.specs.declared.machine.Stop.TheVariants as stop
use Rattle.class_defs.specs.declared.statements.Stmt.{Stmt}
use Rattle.class_defs.specs.declared.store.Object.{Object}
use Rattle.class_defs.specs.declared.store.Schema.{Schema}
use Rattle.class_defs.specs.declared.types.ExprType.{ExprType}
use Rattle.class_defs.specs.declared.types.ExprType.TheVariants as type

module _ (f g : Oref → Option Object) where
  pub choose : {A : Type 0} (b : Bool) (p q r s : Action A) (m : Machine) → Went f g A m (p m).0 (p m).1 (r m) → Went f g A m (q m).0 (q m).1 (s m)
      → Went f g A m (cond b p q m).0 (cond b p q m).1 (cond b r s m)
  choose true p q r s m h k = h
  choose false p q r s m h k = k

  -- a value that the state alone gives
  pub tells : {A : Type 0} (h : Machine → A) → Alike f g (λ m. (Ok (h m), m)) (λ m. (Ok (h m), m))
  tells h m s = gives f g m m m (h m) (h m) (grows_no m) s (λ agree. refl) (λ agree. refl)

module _ (schema : Schema) (f g : Oref → Option Object) (v u : Expr → Action Value) (b d : List Stmt → Action Flow)
    (values : (e : Expr) → Alike f g (v e) (u e)) (blocks : (ss : List Stmt) → Alike f g (b ss) (d ss)) where
  abbrev one : World
  one = over schema f

  abbrev other : World
  other = over schema g

  body_alike : (this : Receiver) (method : Method) (arguments : List Value) (m : Machine) → Sound m → known m this.oref ≡ true
      → Went f g Value m (run_body one b this method arguments m).0 (run_body one b this method arguments m).1 (run_body other d this method arguments m)
  unfolding run_body
  body_alike this method arguments m s k =
      let inside = record m { depth = m.depth + 1; this = Some this; locals = bound schema.classes method.parameters arguments } in
      let h = blocks method.body inside (record { this = k; created = s.created }) in
      on f g m _ _ _ _ _ (record { grows = record { reads = h.grows.reads; writes = h.grows.writes }; sound = h.sound; same = h.same }) (λ flow is t grows.
      let n = (b method.body inside).1 in
      let back = record n { depth = m.depth; this = m.this; locals = m.locals } in
      let same : Grows n back = record { reads = λ x r. r; writes = λ x r. r } in
      gives f g n back back _ _ same (record {
        this = this_grows n back same m.this (this_grows m n grows m.this s.this);
        created = t.created;
      }) (λ agree. refl) (λ agree. refl))

  enter_alike : (this : Receiver) (method : Option Method) (arguments : List Value) (m : Machine) → Sound m → known m this.oref ≡ true
      → Went f g Value m (enter one b this method arguments m).0 (enter one b this method arguments m).1 (enter other d this method arguments m)
  enter_alike this None arguments m s k = stops f g (stop.Fault fault.NullCall) m
  enter_alike this (Some method) arguments m s k = body_alike this method arguments m s k

  object_alike : (l : Bool) (c : ℕ) (x : Oref) (owners : List Oref) (name : List ℕ) (arguments : List Value) (m : Machine) → Sound m
      → let goes : World → (List Stmt → Action Flow) → Result Value Stop × Machine = λ w block.
      cond l ((touch w owners x >>= (λ found. enter_as w block (record { oref = x; class = c; owners = owners }) found (method_of schema.classes c name) arguments)) m) (Err (stop.Fault fault.Depth), m) in
      Went f g Value m (goes one b).0 (goes one b).1 (goes other d)
  object_alike true c x owners name arguments m s =
      on f g m _ _ _ _ _ (touch_alike schema f g owners x m s) (λ found is t grows.
      choose f g (found == c) _ _ _ _ _
      (enter_alike (record { oref = x; class = c; owners = owners }) (method_of schema.classes c name) arguments _ t (touch_known schema f g owners x m found s is))
      (stops f g (stop.Fault fault.NullCall) _))
  object_alike false c x owners name arguments m s = stops f g (stop.Fault fault.Depth) m

  call_object_alike : (c : ℕ) (x : Oref) (name : List ℕ) (arguments : List Value) → Alike f g (call_object one b c x name arguments) (call_object other d c x name arguments)
  unfolding call_object
  call_object_alike c x name arguments m s = object_alike (nat_lt m.depth DEPTH_LIMIT) c x (owners_at schema.classes c x m) name arguments m s

  call_alike : (t : ExprType) (r : Value) (name : List ℕ) (arguments : List Value) → Alike f g (call one b t r name arguments) (call other d t r name arguments)
  unfolding call
  call_alike (type.Class c) (value.Ref x) name arguments m s = call_object_alike c x name arguments m s
  call_alike (type.Class c) value.Null name arguments m s = stops f g (stop.Fault fault.NullCall) m
  call_alike (type.Class c) (value.Int n) name arguments m s = stops f g (stop.Fault fault.NullCall) m
  call_alike (type.Class c) (value.Text n) name arguments m s = stops f g (stop.Fault fault.NullCall) m
  call_alike type.Int r name arguments m s = stops f g (stop.Fault fault.NullCall) m
  call_alike type.Text r name arguments m s = stops f g (stop.Fault fault.NullCall) m
  call_alike type.Null r name arguments m s = stops f g (stop.Fault fault.NullCall) m
  call_alike type.Untold r name arguments m s = stops f g (stop.Fault fault.NullCall) m

  values_alike : (vs : List Value) (es : List Expr) → Alike f g (values_from one v b vs es) (values_from other u d vs es)
  values_alike vs [] = value f g vs
  values_alike vs (e ∷ es) = bind f g (v e) (u e) _ _ (values e) (λ r. values_alike (vs ++ r ∷ []) es)

  values_of_alike : (es : List Expr) → Alike f g (values_of one v b es) (values_of other u d es)
  unfolding values_of
  values_of_alike es = values_alike [] es

  node_alike : (e : Expr-F Expr) → Alike f g (value_at one v b e) (value_at other u d e)
  node_alike (Expr-F.Literal n line) = value f g (literal_value n)
  node_alike (Expr-F.Null line) = value f g value.Null
  node_alike (Expr-F.This line) = tells f g (λ m. this_value m.this)
  node_alike (Expr-F.Field name) = field_value_alike schema f g name.text
  node_alike (Expr-F.Variable name) = tells f g (λ m. named_value schema m name.text)
  node_alike (Expr-F.New class at) = create_alike schema f g class.text at
  node_alike (Expr-F.Parens inner line) = values inner
  node_alike (Expr-F.Negate operand line) = bind f g (v operand) (u operand) _ _ (values operand) (λ r. value f g _)
  node_alike (Expr-F.Binary operator left right line) =
      bind f g (v left) (u left) _ _ (values left) (λ a. bind f g (v right) (u right) _ _ (values right) (λ c. value f g (combined operator a c)))
  node_alike (Expr-F.Call receiver method arguments) = λ m s.
      bind f g (v receiver) (u receiver) _ _ (values receiver) (λ r.
      bind f g (values_of one v b arguments) (values_of other u d arguments) _ _ (values_of_alike arguments) (λ vs.
      call_alike (type_of (scope_at schema m) receiver) r method.text vs)) m s

  pub expression_alike : (e : Expr) → Alike f g (expression one v b e) (expression other u d e)
  unfolding expression
  expression_alike e = bind f g step step _ _ (steps f g) (λ t. node_alike (out-Expr e))
