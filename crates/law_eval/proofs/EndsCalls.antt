-- What calls and expressions say of how a run ends, where their parts and the bodies of methods do.
use Rattle.std.proofs.Common.{Bool, true, false, cond, List, [], ◌∷◌, ◌++◌, Option, Some, None, Result, Err, ℕ, inl}
use Rattle.std.specs.Prelude.{nat_lt, option_map, slice_get, ◌+◌, ◌==◌}
use Rattle.thor_value.specs.Names.{same_oref}
use Rattle.thor_value.specs.declared.names.Oref.{Oref}
use Rattle.thor_value.specs.declared.values.Fault.TheVariants as fault
use Rattle.thor_value.specs.declared.values.Value.{Value}
use Rattle.thor_value.specs.declared.values.Value.TheVariants as value
use Rattle.class_defs.specs.Calls.{owners_at, owners_by_kind, bound, run_body, enter, enter_as, call_object, call}
use Rattle.class_defs.specs.Expressions.{this_value, values_from, values_of, value_at, expression, combined}
use Rattle.class_defs.specs.Kinds.{literal_value}
use Rattle.class_defs.specs.Objects.{touch, scope_at, named_value, field_value}
use Rattle.class_defs.specs.Steps.{World, Action, step, ◌>>=◌}
use Rattle.class_defs.specs.Types.{method_of, type_of}
use Rattle.class_defs.specs.declared.classes.ClassKind.TheVariants.{Free, Part}
use Rattle.class_defs.specs.declared.classes.ClassKind.{ClassKind}
use Rattle.class_defs.specs.declared.classes.Method.{Method}
use Rattle.class_defs.specs.declared.expressions.Expr.{Expr, out-Expr}
use Rattle.class_defs.specs.declared.expressions.Expr.TheOpen.{Expr-F}
use Rattle.class_defs.specs.declared.limits.TheConstants.{DEPTH_LIMIT}
use Rattle.class_defs.specs.declared.machine.Flow.{Flow}
use Rattle.class_defs.specs.declared.machine.Machine.{Machine}
use Rattle.class_defs.specs.declared.machine.Receiver.{Receiver}
use Rattle.class_defs.specs.declared.machine.Stop.{Stop}
use Rattle.class_defs.specs.declared.machine.Stop.TheVariants as stop
use Rattle.class_defs.specs.declared.statements.Stmt.{Stmt}
use Rattle.class_defs.specs.declared.types.ExprType.{ExprType}
use Rattle.class_defs.specs.declared.types.ExprType.TheVariants as type
use Rattle.law_eval.proofs.Ends.{AllKnown, Goes, Sound, ThisKnown, Went, all_grow, bind, choose, gives, on, steps, stops, tells, this_grows, value}
use Rattle.law_eval.proofs.EndsObjects.{create_goes, touch_goes, touch_known}

module _ (w : World) (v : Expr → Action Value) (b : List Stmt → Action Flow) (values : (e : Expr) → Goes w (v e)) (blocks : (ss : List Stmt) → Goes w (b ss)) where
  body_goes : (this : Receiver) (method : Method) (arguments : List Value) (m : Machine) → Sound m → ThisKnown m (Some this)
      → Went w Value m (run_body w b this method arguments m).0 (run_body w b this method arguments m).1
  unfolding run_body
  body_goes this method arguments m s k =
      let inside = record m { depth = m.depth + 1; this = Some this; locals = bound w.schema.classes method.parameters arguments } in
      let h = blocks method.body inside (record { this = k; written = s.written }) in
      on w m _ _ _ (record {
        grows = h.grows;
        hand = h.hand;
        sound = h.sound;
        ended = h.ended;
        takes = record { none = h.takes.none; waiting = h.takes.waiting; made = h.takes.made };
      }) (λ flow is t grows.
      let n = (b method.body inside).1 in
      let back = record n { depth = m.depth; this = m.this; locals = m.locals } in
      gives w n back _ (record { none = λ e. e; waiting = λ y k. k; made = λ e y k. inl k }) (λ x g. g) (λ g. g) (record { this = this_grows m back grows m.this s.this; written = t.written }))

  enter_goes : (this : Receiver) (method : Option Method) (arguments : List Value) (m : Machine) → Sound m → ThisKnown m (Some this)
      → Went w Value m (enter w b this method arguments m).0 (enter w b this method arguments m).1
  enter_goes this None arguments m s k = stops w (stop.Fault fault.NullCall) m tt
  enter_goes this (Some method) arguments m s k = body_goes this method arguments m s k

  object_goes : (l : Bool) (c : ℕ) (x : Oref) (owners : List Oref) (name : List ℕ) (arguments : List Value) (m : Machine) → Sound m → AllKnown m owners
      → let r : Result Value Stop × Machine =
      cond l ((touch w owners x >>= (λ found. enter_as w b (record { oref = x; class = c; owners = owners }) found (method_of w.schema.classes c name) arguments)) m) (Err (stop.Fault fault.Depth), m) in
      Went w Value m r.0 r.1
  object_goes true c x owners name arguments m s os =
      on w m _ _ _ (touch_goes w owners x m s os) (λ found is t grows.
      choose w (found == c) _ _ _
      (enter_goes (record { oref = x; class = c; owners = owners }) (method_of w.schema.classes c name) arguments _ t (touch_known w owners x m found is, all_grow m (touch w owners x m).1 grows owners os))
      (stops w (stop.Fault fault.NullCall) _ tt))
  object_goes false c x owners name arguments m s os = stops w (stop.Fault fault.Depth) m tt

  -- the owners of a receiver are `this` and its owners
  through_known : (b : Bool) (r : Receiver) (m : Machine) → ThisKnown m (Some r) → AllKnown m (cond b r.owners (r.oref ∷ r.owners))
  through_known true r m k = k.1
  through_known false r m k = k

  kind_known : (kind : Option ClassKind) (x : Oref) (t : Option Receiver) (m : Machine) → ThisKnown m t → AllKnown m (owners_by_kind kind x t)
  kind_known (Some Part) x (Some r) m k = through_known (same_oref x r.oref) r m k
  kind_known (Some Part) x None m k = tt
  kind_known (Some Free) x t m k = tt
  kind_known None x t m k = tt

  pub owners_known : (c : ℕ) (x : Oref) (m : Machine) → Sound m → AllKnown m (owners_at w.schema.classes c x m)
  unfolding owners_at
  owners_known c x m s = kind_known (option_map (λ d. d.kind) (slice_get w.schema.classes c)) x m.this m s.this

  call_object_goes : (c : ℕ) (x : Oref) (name : List ℕ) (arguments : List Value) → Goes w (call_object w b c x name arguments)
  unfolding call_object
  call_object_goes c x name arguments m s = object_goes (nat_lt m.depth DEPTH_LIMIT) c x (owners_at w.schema.classes c x m) name arguments m s (owners_known c x m s)

  call_goes : (t : ExprType) (r : Value) (name : List ℕ) (arguments : List Value) → Goes w (call w b t r name arguments)
  unfolding call
  call_goes (type.Class c) (value.Ref x) name arguments m s = call_object_goes c x name arguments m s
  call_goes (type.Class c) value.Null name arguments m s = stops w (stop.Fault fault.NullCall) m tt
  call_goes (type.Class c) (value.Int n) name arguments m s = stops w (stop.Fault fault.NullCall) m tt
  call_goes (type.Class c) (value.Text n) name arguments m s = stops w (stop.Fault fault.NullCall) m tt
  call_goes type.Int r name arguments m s = stops w (stop.Fault fault.NullCall) m tt
  call_goes type.Text r name arguments m s = stops w (stop.Fault fault.NullCall) m tt
  call_goes type.Null r name arguments m s = stops w (stop.Fault fault.NullCall) m tt
  call_goes type.Untold r name arguments m s = stops w (stop.Fault fault.NullCall) m tt

  values_go : (vs : List Value) (es : List Expr) → Goes w (values_from w v b vs es)
  values_go vs [] = value w vs
  values_go vs (e ∷ es) = bind w (v e) _ (values e) (λ r. values_go (vs ++ r ∷ []) es)

  values_of_go : (es : List Expr) → Goes w (values_of w v b es)
  unfolding values_of
  values_of_go es = values_go [] es

  node_goes : (e : Expr-F Expr) → Goes w (value_at w v b e)
  node_goes (Expr-F.Literal n line) = value w (literal_value n)
  node_goes (Expr-F.Null line) = value w value.Null
  node_goes (Expr-F.This line) = tells w (λ m. this_value m.this)
  node_goes (Expr-F.Field name) = tells w (λ m. field_value w m name.text)
  node_goes (Expr-F.Variable name) = tells w (λ m. named_value w.schema m name.text)
  node_goes (Expr-F.New class at) = create_goes w class.text at
  node_goes (Expr-F.Parens inner line) = values inner
  node_goes (Expr-F.Negate operand line) = bind w (v operand) _ (values operand) (λ r. value w _)
  node_goes (Expr-F.Binary operator left right line) =
      bind w (v left) _ (values left) (λ a. bind w (v right) _ (values right) (λ c. value w (combined operator a c)))
  node_goes (Expr-F.Call receiver method arguments) = λ m s.
      bind w (v receiver) _ (values receiver) (λ r.
      bind w (values_of w v b arguments) _ (values_of_go arguments) (λ vs.
      call_goes (type_of (scope_at w.schema m) receiver) r method.text vs)) m s

  pub expression_goes : (e : Expr) → Goes w (expression w v b e)
  unfolding expression
  expression_goes e = bind w step _ (steps w) (λ t. node_goes (out-Expr e))
