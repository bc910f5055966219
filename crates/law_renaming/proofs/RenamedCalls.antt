-- That calls and expressions go the same way in runs whose new objects take other names, where their parts and the
-- bodies of methods do.
use Rattle.std.proofs.Common.{◌≡◌, Bool, true, false, cond, List, [], ◌∷◌, ◌++◌, Option, Some, None, Result, Ok, Err, refl, ap, sym, ◌∙◌, ℕ, ℤ, pos, length, map, slice_get}
use Rattle.std.proofs.lemmas.List.Elements.{AllZip-push}
use Rattle.std.specs.Int.{int_wrapping_sub, w64}
use Rattle.std.specs.List.{AllZip}
use Rattle.std.specs.Ordering.{int_eq}
use Rattle.std.specs.Prelude.{nat_lt, option_map, unwrap_or, ◌+◌, ◌==◌}
use Rattle.thor_value.specs.Names.{same_oref}
use Rattle.thor_value.specs.declared.names.Oref.{Oref}
use Rattle.thor_value.specs.declared.values.Fault.TheVariants as fault
use Rattle.thor_value.specs.declared.values.Value.{Value}
use Rattle.thor_value.specs.declared.values.Value.TheVariants as value
use Rattle.law_renaming.proofs.Renamed.{Both, Locals, Names, Receivers, Time, Later, Values, each_at, this_later, locals_later, value_later, values_later, names_later}
use Rattle.law_renaming.proofs.RenamedMachines.{Setting, Twins, now, Went, Alike, Nothing, on, bind, gives, fails, settled, tells, steps, same_scope, same_named}
use Rattle.law_renaming.proofs.RenamedObjects.{Numbers, touch_same, begins_same, field_value_same, create_same}
use Rattle.class_defs.specs.Calls.{owners_at, owners_by_kind, bound, bound_from, result_of, run_body, enter, enter_as, call_object, call}
use Rattle.std.specs.Str.{bytes_eq}
use Rattle.class_defs.specs.declared.literals.Literal.{Literal}
use Rattle.class_defs.specs.declared.literals.Literal.TheVariants as literal
use Rattle.class_defs.specs.Expressions.{same_value, this_value, values_from, values_of, called, value_at, expression, combined}
use Rattle.class_defs.specs.Kinds.{literal_value, printed_as}
use Rattle.class_defs.specs.Objects.{touch, scope_at, named_value, field_value}
use Rattle.law_renaming.specs.Renaming.{SameFlow}
use Rattle.class_defs.specs.Steps.{Action, step, number, beginning, ◌>>=◌}
use Rattle.class_defs.specs.Types.{method_of, type_of, type_named}
use Rattle.class_defs.specs.declared.classes.Class.{Class}
use Rattle.class_defs.specs.declared.classes.ClassKind.{ClassKind}
use Rattle.class_defs.specs.declared.classes.ClassKind.TheVariants.{Free, Part}
use Rattle.class_defs.specs.declared.classes.Method.{Method}
use Rattle.class_defs.specs.declared.classes.Parameter.{Parameter}
use Rattle.class_defs.specs.declared.expressions.Expr.{Expr, out-Expr}
use Rattle.class_defs.specs.declared.expressions.Expr.TheOpen.{Expr-F}
use Rattle.class_defs.specs.declared.expressions.Operator.{Operator}
use Rattle.class_defs.specs.declared.expressions.Operator.TheVariants.{Add, Subtract, Multiply, Equal, Unequal, Less}
use Rattle.class_defs.specs.declared.limits.TheConstants.{DEPTH_LIMIT}
use Rattle.class_defs.specs.declared.machine.Flow.{Flow}
use Rattle.class_defs.specs.declared.machine.Flow.TheVariants.{Next, Returned}
use Rattle.class_defs.specs.declared.machine.Machine.{Machine}
use Rattle.class_defs.specs.declared.machine.Receiver.{Receiver}
use Rattle.class_defs.specs.declared.machine.Stop.{Stop}
use Rattle.class_defs.specs.declared.machine.Stop.TheVariants as stop
use Rattle.class_defs.specs.declared.statements.Stmt.{Stmt}
use Rattle.class_defs.specs.declared.types.ExprType.{ExprType}
use Rattle.class_defs.specs.declared.types.ExprType.TheVariants as type

-- ---- operators

module _ (s : Setting) where
  abbrev pub Flows : Time → Flow → Flow → Type 0
  Flows t = SameFlow s.fresh t.0 t.1

  abbrev pub Lists : Time → List Value → List Value → Type 0
  Lists t = AllZip (Values s.fresh t)

  pub same_number : (t : Time) (a b : Value) → Values s.fresh t a b → number a ≡ number b
  same_number t (value.Int a) (value.Int b) h = h
  same_number t (value.Text a) (value.Text b) h = refl
  same_number t (value.Ref x) (value.Ref y) h = refl
  same_number t value.Null value.Null h = refl
  same_number t a b h = absurd h

  -- so is what printing them adds
  pub same_printed : (t : Time) (a b : Value) → Values s.fresh t a b → printed_as a ≡ printed_as b
  same_printed t (value.Int a) (value.Int b) h = ap (λ n. n ∷ []) h
  same_printed t (value.Text a) (value.Text b) h = ap (λ w. pos (length w) ∷ map pos w) h
  same_printed t (value.Ref x) (value.Ref y) h = refl
  same_printed t value.Null value.Null h = refl
  same_printed t a b h = absurd h

  -- a literal is the same in both
  literal_same : (t : Time) (l : Literal) → Values s.fresh t (literal_value l) (literal_value l)
  literal_same t (literal.Int n) = refl
  literal_same t (literal.Text w) = refl

  -- names that mean the same object are equal in the one where they are in the other
  module _ (t : Time) (one_one : (x y a b : Oref) → Names s.fresh t x y → Names s.fresh t a b → same_oref x a ≡ same_oref y b) where
    int_equal : (n : ℤ) (a b : Value) → Values s.fresh t a b → same_value (value.Int n) a ≡ same_value (value.Int n) b
    int_equal n (value.Int a) (value.Int b) h = ap (int_eq n) h
    int_equal n (value.Text a) (value.Text b) h = refl
    int_equal n (value.Ref x) (value.Ref y) h = refl
    int_equal n value.Null value.Null h = refl
    int_equal n a b h = absurd h

    ref_equal : (x y : Oref) (a b : Value) → Names s.fresh t x y → Values s.fresh t a b → same_value (value.Ref x) a ≡ same_value (value.Ref y) b
    ref_equal x y (value.Int a) (value.Int b) i h = refl
    ref_equal x y (value.Text a) (value.Text b) i h = refl
    ref_equal x y (value.Ref c) (value.Ref d) i h = one_one x y c d i h
    ref_equal x y value.Null value.Null i h = refl
    ref_equal x y a b i h = absurd h

    null_equal : (a b : Value) → Values s.fresh t a b → same_value value.Null a ≡ same_value value.Null b
    null_equal (value.Int a) (value.Int b) h = refl
    null_equal (value.Text a) (value.Text b) h = refl
    null_equal (value.Ref c) (value.Ref d) h = refl
    null_equal value.Null value.Null h = refl
    null_equal a b h = absurd h

    text_equal : (w : List ℕ) (a b : Value) → Values s.fresh t a b → same_value (value.Text w) a ≡ same_value (value.Text w) b
    text_equal w (value.Int a) (value.Int b) h = refl
    text_equal w (value.Text a) (value.Text b) h = ap (bytes_eq w) h
    text_equal w (value.Ref x) (value.Ref y) h = refl
    text_equal w value.Null value.Null h = refl
    text_equal w a b h = absurd h

    equal : (a b c d : Value) → Values s.fresh t a b → Values s.fresh t c d → same_value a c ≡ same_value b d
    equal (value.Int a) (value.Int b) c d h i = ap (λ n. same_value (value.Int n) c) h ∙ int_equal b c d i
    equal (value.Text a) (value.Text b) c d h i = ap (λ w. same_value (value.Text w) c) h ∙ text_equal b c d i
    equal (value.Ref x) (value.Ref y) c d h i = ref_equal x y c d h i
    equal value.Null value.Null c d h i = null_equal c d i
    equal a b c d h i = absurd h

    pub combined_same : (o : Operator) (a b c d : Value) → Values s.fresh t a b → Values s.fresh t c d
        → Values s.fresh t (combined o a c) (combined o b d)
    combined_same Add a b c d h i = rw (same_number t a b h, same_number t c d i) refl
    combined_same Subtract a b c d h i = rw (same_number t a b h, same_number t c d i) refl
    combined_same Multiply a b c d h i = rw (same_number t a b h, same_number t c d i) refl
    combined_same Equal a b c d h i = rw (equal a b c d h i) refl
    combined_same Unequal a b c d h i = rw (equal a b c d h i) refl
    combined_same Less a b c d h i = rw (same_number t a b h, same_number t c d i) refl

  this_value_same : (t : Time) (r q : Option Receiver) → Both (Receivers s.fresh t) r q → Values s.fresh t (this_value r) (this_value q)
  this_value_same t (Some r) (Some q) h = h.oref
  this_value_same t None None h = tt
  this_value_same t r q h = absurd h

  -- ---- calls

  module _ (t : Time) (one_one : (x y a b : Oref) → Names s.fresh t x y → Names s.fresh t a b → same_oref x a ≡ same_oref y b)
      (x y : Oref) (i : Names s.fresh t x y) where
    through : (r q : Receiver) (b d : Bool) → d ≡ b → Receivers s.fresh t r q
        → AllZip (Names s.fresh t) (cond b r.owners (r.oref ∷ r.owners)) (cond d q.owners (q.oref ∷ q.owners))
    through r q true true e h = h.owners
    through r q false false e h = (h.oref, h.owners)
    through r q true false e h = cc
    through r q false true e h = cc

    owners_same : (k : Option ClassKind) (r q : Option Receiver) → Both (Receivers s.fresh t) r q
        → AllZip (Names s.fresh t) (owners_by_kind k x r) (owners_by_kind k y q)
    owners_same (Some Part) (Some r) (Some q) h =
        through r q (same_oref x r.oref) (same_oref y q.oref) (sym (one_one x y r.oref q.oref i h.oref)) h
    owners_same (Some Part) None None h = tt
    owners_same (Some Part) (Some r) None h = absurd h
    owners_same (Some Part) None (Some q) h = absurd h
    owners_same (Some Free) r q h = tt
    owners_same None r q h = tt

  argument : (t : Time) (v u : Option Value) (d : Value) → Both (Values s.fresh t) v u → Values s.fresh t d d
      → Values s.fresh t (unwrap_or v d) (unwrap_or u d)
  argument t (Some v) (Some u) d h e = h
  argument t None None d h e = e
  argument t v u d h e = absurd h

  bound_same : (t : Time) (classes : List Class) (n : ℕ) (ps : List Parameter) (vs us : List Value) → Lists t vs us
      → AllZip (Locals s.fresh t) (bound_from classes n ps vs) (bound_from classes n ps us)
  bound_same t classes n [] vs us h = tt
  bound_same t classes n (p ∷ ps) vs us h = (
    record {
      name = refl;
      kind = refl;
      value = argument t (slice_get vs n) (slice_get us n) (beginning (type_named classes p.type_name))
          (each_at (Values s.fresh t) vs us n h) (begins_same s t (type_named classes p.type_name));
    },
    bound_same t classes (n + 1) ps vs us h,
  )

  result_same : (t : Time) (classes : List Class) (method : Method) (f g : Flow) → Flows t f g
      → Values s.fresh t (result_of classes method f) (result_of classes method g)
  result_same t classes method (Returned v) (Returned u) h = h
  result_same t classes method Next Next h = begins_same s t (type_named classes method.result)
  result_same t classes method f g h = absurd h

  module _ (v : Expr → Action Value) (b : List Stmt → Action Flow) (values : (t : Time) (e : Expr) → Alike s (Values s.fresh) t (v e) (v e))
      (blocks : (t : Time) (ss : List Stmt) → Alike s Flows t (b ss) (b ss)) where
    abbrev inside : Receiver → Method → List Value → Machine → Machine
    inside r method vs m = record m { depth = m.depth + 1; this = Some r; locals = bound s.world.schema.classes method.parameters vs }

    abbrev back : Machine → Machine → Machine
    back m n = record n { depth = m.depth; this = m.this; locals = m.locals }

    inside_twins : (r q : Receiver) (method : Method) (vs us : List Value) (m n : Machine) → Twins s m n → Receivers s.fresh (now s m n) r q
        → Lists (now s m n) vs us
        → Twins s (inside r method vs m) (inside q method us n)
    inside_twins r q method vs us m n tw h vals = record {
      steps = tw.steps;
      depth = ap (λ k. k + 1) tw.depth;
      printed = tw.printed;
      reads = tw.reads;
      this = h;
      locals = bound_same (now s m n) s.world.schema.classes 0 method.parameters vs us vals;
      made = tw.made;
    }

    back_twins : (m n o p : Machine) → Twins s m n → Later s.fresh (now s m n) (now s o p) → Twins s o p → Twins s (back m o) (back n p)
    back_twins m n o p tw later end = record {
      steps = end.steps;
      depth = tw.depth;
      printed = end.printed;
      reads = end.reads;
      this = this_later s.fresh (now s m n) (now s o p) later m.this n.this tw.this;
      locals = locals_later s.fresh (now s m n) (now s o p) later m.locals n.locals tw.locals;
      made = end.made;
    }

    body_same : (r q : Receiver) (method : Method) (vs us : List Value) (m n : Machine) → Twins s m n → Receivers s.fresh (now s m n) r q
        → Lists (now s m n) vs us
        → Went s (Values s.fresh) (now s m n) (run_body s.world b r method vs m) (run_body s.world b q method us n)
    unfolding run_body
    body_same r q method vs us m n tw h vals =
        let e = b method.body (inside r method vs m) in
        let f = b method.body (inside q method us n) in
        on s Flows (Values s.fresh) (now s m n) e.0 f.0 e.1 f.1
        (λ flow. λ o. (Ok (result_of s.world.schema.classes method flow), back m o))
        (λ flow. λ o. (Ok (result_of s.world.schema.classes method flow), back n o))
        (blocks (now s m n) method.body (inside r method vs m) (inside q method us n) (λ x y i. i) (inside_twins r q method vs us m n tw h vals))
        (λ c d k later end. gives s (Values s.fresh) e.1 f.1 (back m e.1) (back n f.1) _ _ (λ x y i. i) (back_twins m n e.1 f.1 tw later end)
        (result_same (now s e.1 f.1) s.world.schema.classes method c d k))

    enter_same : (r q : Receiver) (method : Option Method) (vs us : List Value) (m n : Machine) → Twins s m n → Receivers s.fresh (now s m n) r q
        → Lists (now s m n) vs us
        → Went s (Values s.fresh) (now s m n) (enter s.world b r method vs m) (enter s.world b q method us n)
    enter_same r q None vs us m n tw h vals = fails s (Values s.fresh) (now s m n) (stop.Fault fault.NullCall) (stop.Fault fault.NullCall) m n tw
        (λ g f. refl)
    enter_same r q (Some method) vs us m n tw h vals = body_same r q method vs us m n tw h vals

    chosen : (t : Bool) (r q : Receiver) (method : Option Method) (vs us : List Value) (m n : Machine) → Twins s m n
        → Receivers s.fresh (now s m n) r q → Lists (now s m n) vs us
        → Went s (Values s.fresh) (now s m n) (cond {A = Action Value} t (enter s.world b r method vs) (λ o. (Err (stop.Fault fault.NullCall), o)) m)
        (cond {A = Action Value} t (enter s.world b q method us) (λ o. (Err (stop.Fault fault.NullCall), o)) n)
    chosen true r q method vs us m n tw h vals = enter_same r q method vs us m n tw h vals
    chosen false r q method vs us m n tw h vals = fails s (Values s.fresh) (now s m n) (stop.Fault fault.NullCall) (stop.Fault fault.NullCall) m n tw
        (λ g f. refl)

    abbrev goes : Bool → ℕ → Oref → List Oref → List ℕ → List Value → Machine → Result Value Stop × Machine
    goes l c x owners name vs m =
        cond l ((touch s.world owners x >>= (λ found. enter_as s.world b (record { oref = x; class = c; owners = owners }) found
        (method_of s.world.schema.classes c name) vs)) m) (Err (stop.Fault fault.Depth), m)

    object_same : (l k : Bool) (c : ℕ) (x y : Oref) (owners others : List Oref) (name : List ℕ) (vs us : List Value) (m n : Machine) → k ≡ l
        → Twins s m n
        → Names s.fresh (now s m n) x y → AllZip (Names s.fresh (now s m n)) owners others → Lists (now s m n) vs us
        → Went s (Values s.fresh) (now s m n) (goes l c x owners name vs m) (goes k c y others name us n)
    object_same true true c x y owners others name vs us m n e tw i os vals =
        let p = touch s.world owners x m in
        let q = touch s.world others y n in
        on s Numbers (Values s.fresh) (now s m n) p.0 q.0 p.1 q.1 _ _ (touch_same s x y owners others m n tw i os) (λ a d same later end.
        rw same (chosen (d == c) (record { oref = x; class = c; owners = owners }) (record { oref = y; class = c; owners = others })
        (method_of s.world.schema.classes c name) vs us p.1 q.1 end
        (record { oref = later x y i; class = refl; owners = names_later s.fresh (now s m n) (now s p.1 q.1) later owners others os })
        (values_later s.fresh (now s m n) (now s p.1 q.1) later vs us vals)))
    object_same false false c x y owners others name vs us m n e tw i os vals =
        fails s (Values s.fresh) (now s m n) (stop.Fault fault.Depth) (stop.Fault fault.Depth) m n tw (λ g f. refl)
    object_same true false c x y owners others name vs us m n e tw i os vals = cc
    object_same false true c x y owners others name vs us m n e tw i os vals = cc

    call_object_same : (c : ℕ) (x y : Oref) (name : List ℕ) (vs us : List Value) (m n : Machine) → Twins s m n → Names s.fresh (now s m n) x y
        → Lists (now s m n) vs us
        → Went s (Values s.fresh) (now s m n) (call_object s.world b c x name vs m) (call_object s.world b c y name us n)
    unfolding call_object owners_at
    call_object_same c x y name vs us m n tw i vals =
        object_same (nat_lt m.depth DEPTH_LIMIT) (nat_lt n.depth DEPTH_LIMIT) c x y (owners_at s.world.schema.classes c x m)
        (owners_at s.world.schema.classes c y n) name vs us m n
        (ap (λ k. nat_lt k DEPTH_LIMIT) tw.depth) tw i (owners_same (now s m n) tw.made.one_one x y i
        (option_map (λ (d : Class). d.kind) (slice_get s.world.schema.classes c)) m.this n.this tw.this) vals

    no_object : (m n : Machine) → Twins s m n → Went s (Values s.fresh) (now s m n) (Err (stop.Fault fault.NullCall), m)
        (Err (stop.Fault fault.NullCall), n)
    no_object m n tw = fails s (Values s.fresh) (now s m n) (stop.Fault fault.NullCall) (stop.Fault fault.NullCall) m n tw (λ g f. refl)

    call_same : (k : ExprType) (r q : Value) (name : List ℕ) (vs us : List Value) (m n : Machine) → Twins s m n → Values s.fresh (now s m n) r q
        → Lists (now s m n) vs us
        → Went s (Values s.fresh) (now s m n) (call s.world b k r name vs m) (call s.world b k q name us n)
    unfolding call
    call_same (type.Class c) (value.Ref x) (value.Ref y) name vs us m n tw h vals = call_object_same c x y name vs us m n tw h vals
    call_same (type.Class c) (value.Int x) (value.Int y) name vs us m n tw h vals = no_object m n tw
    call_same (type.Class c) (value.Text x) (value.Text y) name vs us m n tw h vals = no_object m n tw
    call_same (type.Class c) value.Null value.Null name vs us m n tw h vals = no_object m n tw
    call_same type.Int r q name vs us m n tw h vals = no_object m n tw
    call_same type.Text r q name vs us m n tw h vals = no_object m n tw
    call_same type.Null r q name vs us m n tw h vals = no_object m n tw
    call_same type.Untold r q name vs us m n tw h vals = no_object m n tw
    call_same k r q name vs us m n tw h vals = absurd h

    -- ---- expressions

    values_same : (t : Time) (vs us : List Value) → Lists t vs us → (es : List Expr)
        → Alike s Lists t (values_from s.world v b vs es) (values_from s.world v b us es)
    values_same t vs us h [] = settled s Lists t vs us (λ u lt. values_later s.fresh t u lt vs us h)
    values_same t vs us h (e ∷ es) =
        bind s (Values s.fresh) Lists t (v e) (v e) _ _ (values t e) (λ u lt a c i.
        values_same u (vs ++ a ∷ []) (us ++ c ∷ []) (AllZip-push (Values s.fresh u) vs us a c (values_later s.fresh t u lt vs us h) i) es)

    values_of_same : (t : Time) (es : List Expr) → Alike s Lists t (values_of s.world v b es) (values_of s.world v b es)
    unfolding values_of
    values_of_same t es = values_same t [] [] tt es

    abbrev calls : ExprType → Expr → List ℕ → List Expr → Action Value
    calls k receiver method arguments = v receiver >>= (λ r. values_of s.world v b arguments >>= (λ vs. call s.world b k r method vs))

    calls_same : (k : ExprType) (t : Time) (receiver : Expr) (method : List ℕ) (arguments : List Expr)
        → Alike s (Values s.fresh) t (calls k receiver method arguments) (calls k receiver method arguments)
    calls_same k t receiver method arguments =
        bind s (Values s.fresh) (Values s.fresh) t (v receiver) (v receiver) _ _ (values t receiver) (λ u lt r q h.
        bind s Lists (Values s.fresh) u (values_of s.world v b arguments) (values_of s.world v b arguments) _ _ (values_of_same u arguments)
        (λ w lw vs us vals.
        λ m n later tw. call_same k r q method vs us m n tw (value_later s.fresh u (now s m n) (λ x y i. later x y (lw x y i)) r q h)
        (values_later s.fresh w (now s m n) later vs us vals)))

    called_same : (t : Time) (receiver : Expr) (method : List ℕ) (arguments : List Expr)
        → Alike s (Values s.fresh) t (called s.world v b receiver method arguments) (called s.world v b receiver method arguments)
    called_same t receiver method arguments m n lt tw =
        let e : type_of (scope_at s.world.schema n) receiver ≡ type_of (scope_at s.world.schema m) receiver =
        ap (λ c. type_of c receiver) (same_scope s m n tw) in
        rw e (calls_same (type_of (scope_at s.world.schema m) receiver) t receiver method arguments m n lt tw)

    node_same : (t : Time) (e : Expr-F Expr) → Alike s (Values s.fresh) t (value_at s.world v b e) (value_at s.world v b e)
    node_same t (Expr-F.Literal n line) = settled s (Values s.fresh) t (literal_value n) (literal_value n) (λ u lt. literal_same u n)
    node_same t (Expr-F.Null line) = settled s (Values s.fresh) t value.Null value.Null (λ u lt. tt)
    node_same t (Expr-F.This line) = tells s (Values s.fresh) t (λ m. this_value m.this) (λ m n tw. this_value_same (now s m n) m.this n.this tw.this)
    node_same t (Expr-F.Field name) = tells s (Values s.fresh) t (λ m. field_value s.world m name.text)
        (λ m n tw. field_value_same s m n name.text tw)
    node_same t (Expr-F.Variable name) = tells s (Values s.fresh) t (λ m. named_value s.world.schema m name.text)
        (λ m n tw. same_named s m n tw name.text)
    node_same t (Expr-F.New class at) = create_same s t class.text at
    node_same t (Expr-F.Parens inner line) = values t inner
    node_same t (Expr-F.Negate operand line) =
        bind s (Values s.fresh) (Values s.fresh) t (v operand) (v operand) _ _ (values t operand)
        (λ u lt a c h. settled s (Values s.fresh) u _ _ (λ w lw. ap (int_wrapping_sub w64 (pos 0)) (same_number u a c h)))
    node_same t (Expr-F.Binary operator left right line) =
        bind s (Values s.fresh) (Values s.fresh) t (v left) (v left) _ _ (values t left) (λ u lt a c h.
        bind s (Values s.fresh) (Values s.fresh) u (v right) (v right) _ _ (values u right) (λ w lw d f i.
        λ m n later tw. gives s (Values s.fresh) m n m n _ _ (λ x y j. j) tw
        (combined_same (now s m n) tw.made.one_one operator a c d f (value_later s.fresh u (now s m n) (λ x y j. later x y (lw x y j)) a c h)
        (value_later s.fresh w (now s m n) later d f i))))
    node_same t (Expr-F.Call receiver method arguments) = called_same t receiver method.text arguments

    pub expression_same : (t : Time) (e : Expr) → Alike s (Values s.fresh) t (expression s.world v b e) (expression s.world v b e)
    unfolding expression
    expression_same t e = bind s (Nothing s) (Values s.fresh) t step step _ _ (steps s t) (λ u lt a c h. node_same u (out-Expr e))
