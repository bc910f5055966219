-- That calls and expressions that break no rule go as they are owed, where their parts and the bodies of methods do.
use Rattle.std.proofs.Common.{◌≡◌, arith, Bool, true, false, cond, List, [], ◌∷◌, ◌++◌, Option, Some, None, Result, Ok, Err, refl, ap, sym, subst, true≢false, ◌∙◌, ℕ, map, length, append_assoc, append-nil}
use Rattle.std.specs.Prelude.{◌+◌, ◌==◌, ◌||◌, not, find, is_some, nat_lt, option_and_then, option_map, slice_get, unwrap_or}
use Rattle.std.specs.Str.{bytes_eq}
use Rattle.thor_value.specs.declared.names.Oref.{Oref}
use Rattle.thor_value.specs.declared.values.Fault.TheVariants as fault
use Rattle.thor_value.specs.declared.values.Value.{Value}
use Rattle.thor_value.specs.declared.values.Value.TheVariants as value
use Rattle.class_defs.proofs.ActionWords.{over}
use Rattle.law_type_soundness.proofs.FitActions.{Entered, touch_goes, field_goes, create_goes}
use Rattle.law_type_soundness.proofs.FitArguments.{ValuesFit, values_keep, one_more_fits, ArgumentsFit, arguments_keep, kinds, Unbroken, unbroken, arguments_fit, bound_fits}
use Rattle.law_type_soundness.proofs.FitKinds.{judged_out, kind_is, scope_is, named_there}
use Rattle.law_type_soundness.proofs.FitObjects.{begins, literal_fits, one_number}
use Rattle.class_defs.proofs.KeptRules.{ClassSound, MethodSound, method_sound, nothing, held, found, there, free_is_type, type_told}
use Rattle.law_type_soundness.proofs.FitSteps.{Went, on, gives, value as good_value, faults, choose, where_so, steps, Fits}
use Rattle.law_type_soundness.proofs.FitStrict.{same_number, is_of_so, number_so, operands_so, arguments_so}
use Rattle.law_type_soundness.proofs.FitValues.{value_keeps, this_keeps, locals_keep}
use Rattle.class_defs.specs.Calls.{owners_at, bound, run_body, enter, enter_as, call_object, call, result_of}
use Rattle.class_defs.specs.ExpressionRules.{Judged, judged, broken_at, beside, kinds_at, at_rules, may_be_made, called_rules, arguments_rules, call_rules, method_called, parameters_of, takes, is_number}
use Rattle.class_defs.specs.Expressions.{this_value, values_from, values_of, value_at, expression, combined}
use Rattle.class_defs.specs.Types.{IsDeclared, field_of, class_named, class_or_untold, name_type, method_of, result_type, type_named, type_of, type_step, typed}
use Rattle.law_type_soundness.specs.Fits.{class_of, ValueFits, ThisFits, MachineFits, FlowFits}
use Rattle.class_defs.specs.Objects.{seen, touch, scope_at, named_value, field_value, create}
use Rattle.class_defs.specs.Rules.{Sight, must, is_class, is_part, scope_of, type_in_sight}
use Rattle.class_defs.specs.SchemaRules.{in_method, method_rules, parameter_named}
use Rattle.class_defs.specs.StatementRules.{block_rules}
use Rattle.class_defs.specs.Kinds.{literal_type, literal_value}
use Rattle.class_defs.specs.Steps.{World, Action, after, step}
use Rattle.law_type_soundness.specs.Strict.{Sure, onward, only_if, is_of, is_int, are_operands, takes_arguments, reads_name, reads_field, strict_body, strict_enter, strict_object, strict_call, strict_values_from, strict_value_at, strict_expression}
use Rattle.class_defs.specs.declared.classes.Class.{Class}
use Rattle.class_defs.specs.declared.classes.Method.{Method}
use Rattle.class_defs.specs.declared.expressions.At.{At}
use Rattle.class_defs.specs.declared.expressions.Expr.{Expr, out-Expr, map-Expr}
use Rattle.class_defs.specs.declared.expressions.Expr.TheOpen.{Expr-F}
use Rattle.class_defs.specs.declared.expressions.Name.{Name}
use Rattle.class_defs.specs.declared.expressions.Operator.{Operator}
use Rattle.class_defs.specs.declared.expressions.Operator.TheVariants.{Add, Subtract, Multiply, Equal, Unequal, Less}
use Rattle.class_defs.specs.declared.limits.TheConstants.{DEPTH_LIMIT}
use Rattle.class_defs.specs.declared.machine.Flow.{Flow}
use Rattle.class_defs.specs.declared.machine.Flow.TheVariants.{Next, Returned}
use Rattle.class_defs.specs.declared.machine.Machine.{Machine}
use Rattle.class_defs.specs.declared.machine.Receiver.{Receiver}
use Rattle.class_defs.specs.declared.machine.Stop.{Stop}
use Rattle.class_defs.specs.declared.machine.Stop.TheVariants as stop
use Rattle.class_defs.specs.declared.rules.NamedType.{NamedType}
use Rattle.class_defs.specs.declared.rules.Position.{Position}
use Rattle.class_defs.specs.declared.rules.Position.TheVariants.{Receiver as AsReceiver, Value as AsValue}
use Rattle.class_defs.specs.declared.rules.Rule.TheVariants.{T2, T3, T8}
use Rattle.class_defs.specs.declared.statements.Stmt.{Stmt}
use Rattle.class_defs.specs.declared.store.Object.{Object}
use Rattle.class_defs.specs.declared.store.Schema.{Schema}
use Rattle.class_defs.specs.declared.types.ExprType.{ExprType}
use Rattle.class_defs.specs.declared.types.ExprType.TheVariants as type

abbrev pub sight_of : Schema → ℕ → Option ℕ → ExprType → List NamedType → Sight
sight_of schema repos t r l = record { schema = schema; repos = repos; this = t; result = r; locals = l }

module _ (schema : Schema) (repos : ℕ) (at_hand : Oref → Option Object) where
  -- a value of a type, in a state that fits
  abbrev pub ValueGood : Sight → ExprType → Value → Machine → Type 0
  ValueGood s k v n = MachineFits (over schema at_hand) s n × ValueFits (seen (over schema at_hand) n) k v

  -- the end of a block, in a state that fits
  abbrev pub FlowGood : Sight → Flow → Machine → Type 0
  FlowGood s flow n = MachineFits (over schema at_hand) s n × FlowFits (seen (over schema at_hand) n) s.result flow

  -- expressions that break no rule give values of their types
  abbrev pub ValuesGo : (Expr → Action Value) → (Expr → Sure Value) → Type 0
  ValuesGo v u = (t : Option ℕ) (r : ExprType) (l : List NamedType) (e : Expr) (place : Position)
      → (judged (sight_of schema repos t r l) e).broken place ≡ [] → (m : Machine) → MachineFits (over schema at_hand) (sight_of schema repos t r l) m
      → Went (over schema at_hand) Value (ValueGood (sight_of schema repos t r l) (judged (sight_of schema repos t r l) e).kind) m (v e m).0
      (v e m).1 (u e m)

  -- and blocks that break no rule end well
  abbrev pub BlocksGo : (List Stmt → Action Flow) → (List Stmt → Sure Flow) → Type 0
  BlocksGo b d = (t : Option ℕ) (r : ExprType) (l : List NamedType) (ss : List Stmt) → block_rules (sight_of schema repos t r l) ss ≡ []
      → (m : Machine) → MachineFits (over schema at_hand) (sight_of schema repos t r l) m
      → Went (over schema at_hand) Flow (FlowGood (sight_of schema repos t r l)) m (b ss m).0 (b ss m).1 (d ss m)

module _ (schema : Schema) (repos : ℕ) (sound : (c : ℕ) (d : Class) → slice_get schema.classes c ≡ Some d → ClassSound schema repos c d)
    (at_hand : Oref → Option Object)
    (v : Expr → Action Value) (u : Expr → Sure Value) (b : List Stmt → Action Flow) (d : List Stmt → Sure Flow)
    (values : ValuesGo schema repos at_hand v u) (blocks : BlocksGo schema repos at_hand b d) where
  abbrev w : World
  w = over schema at_hand

  abbrev sight : Option ℕ → ExprType → List NamedType → Sight
  sight t r l = sight_of schema repos t r l

  module _ (t : Option ℕ) (r : ExprType) (l : List NamedType) where
    abbrev s : Sight
    s = sight t r l

    abbrev Valued : ExprType → Value → Machine → Type 0
    Valued k = ValueGood schema repos at_hand s k

    -- ---- the body of a method

    result_fits : (f : Oref → Option Object) (method : Method) (flow : Flow) → IsDeclared (type_named schema.classes method.result)
        → FlowFits f (type_named schema.classes method.result) flow
        → ValueFits f (type_named schema.classes method.result) (result_of schema.classes method flow)
    result_fits f method (Returned u) told h = h told
    result_fits f method Next told h = begins f (type_named schema.classes method.result) told

    body_goes : (this : Receiver) (c : ℕ) (method : Method) (us : List Value) (m : Machine) → this.class ≡ c
        → class_of (seen w m) this.oref ≡ Some c → MethodSound schema repos c method
        → ArgumentsFit (seen w m) schema.classes method.parameters us → MachineFits w s m
        → Went w Value (Valued (type_named schema.classes method.result)) m (run_body w b this method us m).0 (run_body w b this method us m).1
        (strict_body w d this method us m)
    unfolding run_body strict_body seen
    body_goes this c method us m class is ok fit h =
        let inside = record m { depth = m.depth + 1; this = Some this; locals = bound schema.classes method.parameters us } in
        let callee = in_method schema repos c method in
        let k = type_named schema.classes method.result in
        let fits : MachineFits w callee inside = record {
          objects = h.objects;
          this = (class, is);
          locals = bound_fits (seen w m) schema.classes method.parameters us us 0
              (λ n. let z : 0 + n ≡ n = omega arith in rw z refl) ok.parameters fit;
          names = h.names;
        } in
        let went = blocks (Some c) k (map (parameter_named schema.classes) method.parameters) method.body ok.body inside fits in
        on w (FlowGood schema repos at_hand callee) (Valued k) m (b method.body inside).1 (b method.body inside).0 _ (d method.body inside) _
        (record { keeps = went.keeps; had = went.had; stays = went.stays; supply = went.supply; good = went.good; same = went.same })
        (λ flow good keeps.
        let n = (b method.body inside).1 in
        let back = record n { depth = m.depth; this = m.this; locals = m.locals } in
        let result = result_of schema.classes method flow in
        let fit = result_fits (seen w n) method flow (type_told schema.classes method.result
        (free_is_type schema.classes method.result ok.result)) good.1 in
        where_ends (seen w n) k result n back (is_of_so (seen w n) k result fit)
        (gives w (Valued k) n back result (λ x e q. q) (λ e. e, λ e. e) (
          record {
            objects = good.0.objects;
            this = this_keeps (seen w m) (seen w n) keeps t m.this h.this;
            locals = locals_keep (seen w m) (seen w n) keeps l m.locals h.locals;
            names = good.0.names;
          },
          fit,
        )))
      where
        where_ends : (f : Oref → Option Object) (k : ExprType) (result : Value) (n back : Machine) → is_of f k result ≡ true
            → Went w Value (Valued k) n (Ok result) back (Some (Ok result, back))
            → Went w Value (Valued k) n (Ok result) back (only_if (is_of f k result) (λ q. Some (Ok result, q)) back)
        where_ends f k result n back is went = rw is went

    -- ---- calls

    method_declared : (c : ℕ) (d : Class) (name : List ℕ) (method : Method) → slice_get schema.classes c ≡ Some d
        → method_of schema.classes c name ≡ Some method → MethodSound schema repos c method
    method_declared c d name method at is =
        let e : method_of schema.classes c name ≡ find (λ (q : Method). bytes_eq q.name.text name) d.methods = rw at refl in
        method_sound schema repos c method (found (λ (q : Method). method_rules schema repos c q ≡ [])
        (λ (q : Method). bytes_eq q.name.text name) d.methods method (sound c d at).methods (sym e ∙ is))

    abbrev judgements : List Expr → List Judged
    judgements es = map (judged s) es

    -- what a call owes to the rules
    record CallUnbroken (k : ExprType) (name : Name) (es : List Expr) : Type 0 where
      called : called_rules k (method_called schema.classes k name) name (length (judgements es)) ≡ []
      given : arguments_rules schema.classes (parameters_of (method_called schema.classes k name)) (judgements es) ≡ []

    -- a method that is there, with arguments for it
    record Ready (c : ℕ) (name : List ℕ) (us : List Value) (m : Machine) : Type 0 where
      method : Method
      is : method_of schema.classes c name ≡ Some method
      checked : MethodSound schema repos c method
      fit : ArgumentsFit (seen w m) schema.classes method.parameters us

    class_behind : (o : Option Class) (name : List ℕ) (method : Method)
        → option_and_then (λ (k : Class). find (λ (q : Method). bytes_eq q.name.text name) k.methods) o ≡ Some method → is_some o ≡ true
    class_behind (Some k) name method is = refl
    class_behind None name method is = cc

    ready_at : (c : ℕ) (name : Name) (o : Option Method) (es : List Expr) (us : List Value) (m : Machine)
        → method_of schema.classes c name.text ≡ o → called_rules (type.Class c) o name (length (judgements es)) ≡ []
        → arguments_rules schema.classes (parameters_of o) (judgements es) ≡ [] → ValuesFit (seen w m) (kinds s schema.classes es) us
        → Ready c name.text us m
    ready_at c name None es us m at called given fit = cc
    ready_at c name (Some method) es us m at called given fit =
        let k = there (slice_get schema.classes c) (class_behind (slice_get schema.classes c) name.text method at) in
        let ok = method_declared c k.0 name.text method k.1 at in
        let count : length method.parameters ≡ length (judgements es) =
        sym (one_number (length method.parameters) (length (judgements es)) (held _ _ _ called)) in
        record {
          method = method;
          is = at;
          checked = ok;
          fit =
              arguments_fit s schema.classes (seen w m) method.parameters es us given count ok.parameters fit;
        }

    ready : (c : ℕ) (name : Name) (es : List Expr) (us : List Value) (m : Machine) → CallUnbroken (type.Class c) name es
        → ValuesFit (seen w m) (kinds s schema.classes es) us → Ready c name.text us m
    ready c name es us m ok fit = ready_at c name (method_of schema.classes c name.text) es us m refl ok.called ok.given fit

    takes_so : (c : ℕ) (name : List ℕ) (us : List Value) (m : Machine) → Ready c name us m
        → takes_arguments (seen w m) schema.classes (method_of schema.classes c name) us ≡ true
    takes_so c name us m r = rw r.is (arguments_so (seen w m) schema.classes r.method.parameters us r.fit)

    enter_goes : (this : Receiver) (c : ℕ) (o : Option Method) (method : Method) (us : List Value) (m : Machine) → o ≡ Some method
        → MethodSound schema repos c method → this.class ≡ c → class_of (seen w m) this.oref ≡ Some c
        → ArgumentsFit (seen w m) schema.classes method.parameters us → MachineFits w s m
        → Went w Value (Valued (typed schema.classes (option_map (λ (q : Method). q.result) o))) m (enter w b this o us m).0
        (enter w b this o us m).1 (strict_enter w d this o us m)
    enter_goes this c None method us m e ok class is fit h = cc
    enter_goes this c (Some other) method us m e ok class is fit h =
        let p : method ≡ other = cc in
        body_goes this c other us m class is (subst (MethodSound schema repos c) p ok)
        (subst (λ (q : Method). ArgumentsFit (seen w m) schema.classes q.parameters us) p fit) h

    object_goes : (few : Bool) (c : ℕ) (x : Oref) (owners : List Oref) (name : List ℕ) (us : List Value) (m : Machine) → Ready c name us m
        → class_of (seen w m) x ≡ Some c → MachineFits w s m
        → let this : Receiver = record { oref = x; class = c; owners = owners } in
        let goes : Result Value Stop × Machine =
        cond few (after (touch w owners x m).0 (touch w owners x m).1 (λ found. enter_as w b this found (method_of schema.classes c name) us))
        (Err (stop.Fault fault.Depth), m) in
        let strict : Option (Result Value Stop × Machine) =
        cond few (onward (Some (touch w owners x m))
        (λ found. only_if (found == c) (strict_enter w d this (method_of schema.classes c name) us))) (Some (Err (stop.Fault fault.Depth), m)) in
        Went w Value (Valued (result_type schema.classes (type.Class c) name)) m goes.0 goes.1 strict
    object_goes false c x owners name us m r is h = faults w (Valued (result_type schema.classes (type.Class c) name)) m fault.Depth
    object_goes true c x owners name us m ready is h =
        let this : Receiver = record { oref = x; class = c; owners = owners } in
        let k = result_type schema.classes (type.Class c) name in
        let method = method_of schema.classes c name in
        on w (Entered schema repos sound at_hand t r l c) (Valued k) m (touch w owners x m).1 (touch w owners x m).0 _
        (Some (touch w owners x m)) _ (touch_goes schema repos sound at_hand t r l owners x c m is h)
        (λ found good keeps.
        let n = (touch w owners x m).1 in
        choose w (Valued k) (found == c) (enter w b this method us) (λ q. (Err (stop.Fault fault.NullCall), q))
        (strict_enter w d this method us) n (same_number found c good.0)
        (enter_goes this c method ready.method us n ready.is ready.checked refl (keeps x c is)
        (arguments_keep (seen w m) (seen w n) keeps schema.classes ready.method.parameters us ready.fit) good.1))

    call_goes : (k : ExprType) (a : Value) (name : Name) (es : List Expr) (us : List Value) (m : Machine) → CallUnbroken k name es
        → ValueFits (seen w m) k a
        → ValuesFit (seen w m) (kinds s schema.classes es) us → MachineFits w s m
        → Went w Value (Valued (result_type schema.classes k name.text)) m (call w b k a name.text us m).0 (call w b k a name.text us m).1
        (strict_call w d k a name.text us m)
    unfolding call call_object strict_call strict_object
    call_goes (type.Class c) (value.Ref x) name es us m ok is fit h =
        let r = ready c name es us m ok fit in
        where_so w (Valued (result_type schema.classes (type.Class c) name.text)) _ (strict_object w d c x name.text us) m _ _
        (takes_so c name.text us m r)
        (object_goes (nat_lt m.depth DEPTH_LIMIT) c x (owners_at schema.classes c x m) name.text us m r is h)
    call_goes (type.Class c) value.Null name es us m ok is fit h =
        where_so w (Valued (result_type schema.classes (type.Class c) name.text)) _ (λ q. Some (Err (stop.Fault fault.NullCall), q)) m _ _
        (takes_so c name.text us m (ready c name es us m ok fit))
        (faults w (Valued (result_type schema.classes (type.Class c) name.text)) m fault.NullCall)
    call_goes (type.Class c) (value.Int n) name es us m ok is fit h = absurd is
    call_goes (type.Class c) (value.Text n) name es us m ok is fit h = absurd is
    call_goes type.Int a name es us m ok is fit h = absurd (true≢false (sym (held false T2 name.line ok.called)))
    call_goes type.Text a name es us m ok is fit h = absurd (true≢false (sym (held false T2 name.line ok.called)))
    call_goes type.Null a name es us m ok is fit h = absurd (true≢false (sym (held false T2 name.line ok.called)))
    call_goes type.Untold a name es us m ok is fit h = absurd is

    -- ---- the values of several expressions

    abbrev Listed : List ExprType → List Value → Machine → Type 0
    Listed ks us n = MachineFits w s n × ValuesFit (seen w n) ks us

    values_from_go : (es : List Expr) (ks : List ExprType) (us : List Value) (m : Machine) → Unbroken s schema.classes es → MachineFits w s m
        → ValuesFit (seen w m) ks us
        → Went w (List Value) (Listed (ks ++ kinds s schema.classes es)) m (values_from w v b us es m).0 (values_from w v b us es m).1
        (strict_values_from w u d us es m)
    values_from_go [] ks us m ok h fit = good_value w (Listed (ks ++ [])) m us (rw (append-nil ks) (h, fit))
    values_from_go (e ∷ es) ks us m ok h fit =
        let k = (judged s e).kind in
        on w (Valued k) (Listed (ks ++ k ∷ kinds s schema.classes es)) m (v e m).1 (v e m).0 _ (u e m) _ (values t r l e AsValue ok.0 m h)
        (λ x good keeps.
        let n = (v e m).1 in
        let went = values_from_go es (ks ++ k ∷ []) (us ++ x ∷ []) n ok.1 good.0
        (one_more_fits (seen w n) ks us k x (values_keep (seen w m) (seen w n) keeps ks us fit) good.1) in
        subst (λ (qs : List ExprType). Went w (List Value) (Listed qs) n (values_from w v b (us ++ x ∷ []) es n).0
        (values_from w v b (us ++ x ∷ []) es n).1 (strict_values_from w u d (us ++ x ∷ []) es n))
        (append_assoc ks (k ∷ []) (kinds s schema.classes es)) went)

    values_of_go : (es : List Expr) (m : Machine) → Unbroken s schema.classes es → MachineFits w s m
        → Went w (List Value) (Listed (kinds s schema.classes es)) m (values_of w v b es m).0 (values_of w v b es m).1
        (strict_values_from w u d [] es m)
    unfolding values_of
    values_of_go es m ok h = values_from_go es [] [] m ok h tt

    -- ---- one node

    this_fits : (f : Oref → Option Object) (c : Option ℕ) (q : Option Receiver) → ThisFits f c q → is_some c ≡ true
        → ValueFits f (unwrap_or (option_map type.Class c) type.Untold) (this_value q)
    this_fits f None q h is = cc
    this_fits f (Some c) None h is = absurd h
    this_fits f (Some c) (Some q) h is = h.1

    combined_fits : (f : Oref → Option Object) (operator : Operator) (a c : Value) → ValueFits f type.Int (combined operator a c)
    combined_fits f Add a c = tt
    combined_fits f Subtract a c = tt
    combined_fits f Multiply a c = tt
    combined_fits f Equal a c = tt
    combined_fits f Unequal a c = tt
    combined_fits f Less a c = tt

    called_goes : (receiver : Expr) (name : Name) (es : List Expr) (m : Machine) → call_rules s (judged s receiver) name (judgements es) ≡ []
        → MachineFits w s m
        → let went = value_at w v b (Expr-F.Call receiver name es) m in
        Went w Value (Valued (result_type schema.classes (judged s receiver).kind name.text)) m went.0 went.1
        (strict_value_at w u d (Expr-F.Call receiver name es) m)
    called_goes receiver name es m h fits =
        let k = (judged s receiver).kind in
        let method = method_called schema.classes k name in
        let p = nothing ((judged s receiver).broken AsReceiver ++ called_rules k method name (length (judgements es)))
        (arguments_rules schema.classes (parameters_of method) (judgements es)) h in
        let q = nothing ((judged s receiver).broken AsReceiver) (called_rules k method name (length (judgements es))) p.0 in
        let kind : type_of (scope_at schema m) receiver ≡ k = ap (λ c. type_of c receiver) (scope_is (seen w m) s m fits.this fits.locals)
        ∙ sym (kind_is s receiver) in
        let known = result_type schema.classes k name.text in
        on w (Valued k) (Valued known) m (v receiver m).1 (v receiver m).0 _ (u receiver m) _ (values t r l receiver AsReceiver q.0 m fits)
        (λ a good keeps.
        let n = (v receiver m).1 in
        on w (Listed (kinds s schema.classes es)) (Valued known) n (values_of w v b es n).1 (values_of w v b es n).0 _
        (strict_values_from w u d [] es n) _ (values_of_go es n (unbroken s schema.classes (parameters_of method) es p.1) good.0)
        (λ us listed more.
        let o = (values_of w v b es n).1 in
        let went = call_goes k a name es us o (record { called = q.1; given = p.1 })
        (value_keeps (seen w n) (seen w o) more k a good.1) listed.1 listed.0 in
        subst (λ (j : ExprType). Went w Value (Valued known) o (call w b j a name.text us o).0 (call w b j a name.text us o).1
        (strict_call w d j a name.text us o)) (sym kind) went))

    this_goes : (line : ℕ) (m : Machine) → is_some t ≡ true → MachineFits w s m
        → Valued (unwrap_or (option_map type.Class t) type.Untold) (this_value m.this) m
    this_goes line m is h = (h, this_fits (seen w m) t m.this h.this is)

    named_goes : (m : Machine) (name : List ℕ) → is_some (type_in_sight s name) ≡ true → MachineFits w s m
        → ValueFits (seen w m) (unwrap_or (type_in_sight s name) type.Untold) (named_value schema m name) × (reads_name w m name ≡ true)
    unfolding named_value
    named_goes m name is h =
        let x = named_there (seen w m) s m name h.this h.locals h.objects.roots is in
        let kind = ap (λ k. name_type k name) (scope_is (seen w m) s m h.this h.locals) in
        (rw x.1.0 x.1.1, rw (kind, x.1.0) (is_of_so (seen w m) (unwrap_or (type_in_sight s name) type.Untold) x.0 x.1.1))

    this_there : (f : Oref → Option Object) (c : Option ℕ) (q : Option Receiver) → ThisFits f c q → is_some c ≡ true → is_some q ≡ true
    this_there f None q h is = cc
    this_there f (Some c) None h is = absurd h
    this_there f (Some c) (Some q) h is = refl

    new_goes : (class : Name) (at : Option At) (o : Option ℕ) (m : Machine) → class_named schema.classes class.text ≡ o → is_some o ≡ true
        → MachineFits w s m
        → Went w Value (Valued (class_or_untold o)) m (create w class.text at m).0 (create w class.text at m).1 (Some (create w class.text at m))
    new_goes class at (Some c) m is known h = create_goes schema repos sound at_hand t r l class.text at c m is h
    new_goes class at None m is known h = cc

    -- the type that a check gives a node
    abbrev node_kind : Expr-F Expr → ExprType
    node_kind x = type_step (scope_of s) (kinds_at (map-Expr Expr Judged (judged s) x))

    node_goes : (x : Expr-F Expr) (place : Position) (m : Machine) → broken_at s (map-Expr Expr Judged (judged s) x) place ≡ [] → MachineFits w s m
        → Went w Value (Valued (node_kind x)) m (value_at w v b x m).0 (value_at w v b x m).1 (strict_value_at w u d x m)
    node_goes (Expr-F.Literal n line) place m ok h = good_value w (Valued (literal_type n)) m (literal_value n) (h, literal_fits _ n)
    node_goes (Expr-F.Null line) place m ok h = good_value w (Valued type.Null) m value.Null (h, tt)
    node_goes (Expr-F.This line) place m ok h =
        let is = held _ _ _ (nothing (must (is_some t) T2 line) _ ok).0 in
        let k = node_kind (Expr-F.This line) in
        where_so w (Valued k) (is_some m.this) (λ q. Some (Ok (this_value m.this), q)) m _ _ (this_there (seen w m) t m.this h.this is)
        (good_value w (Valued k) m (this_value m.this) (this_goes line m is h))
    node_goes (Expr-F.Field name) place m ok h =
        let is = held _ _ _ (nothing (must (is_some (option_and_then (λ c. field_of schema.classes c name.text) t)) T2 name.line) _ ok).0 in
        let k = node_kind (Expr-F.Field name) in
        let read = field_goes schema repos sound at_hand t r l m name.text h is in
        where_so w (Valued k) (reads_field w m name.text) (λ q. Some (Ok (field_value w m name.text), q)) m _ _ read.1
        (good_value w (Valued k) m (field_value w m name.text) (h, read.0))
    node_goes (Expr-F.Variable name) place m ok h =
        let k = node_kind (Expr-F.Variable name) in
        let read = named_goes m name.text (held _ _ _ ok) h in
        where_so w (Valued k) (reads_name w m name.text) (λ q. Some (Ok (named_value schema m name.text), q)) m _ _ read.1
        (good_value w (Valued k) m (named_value schema m name.text) (h, read.0))
    node_goes (Expr-F.New class at) place m ok h =
        let p = nothing (is_class schema.classes class ++ must
        (may_be_made place || not (is_part schema.classes (class_or_untold (class_named schema.classes class.text)))) T8 class.line)
        (at_rules s at) ok in
        let is = held _ _ _ (nothing (is_class schema.classes class) _ p.0).0 in
        where_so w (Valued (node_kind (Expr-F.New class at))) (is_some (class_named schema.classes class.text))
        (λ q. Some (create w class.text at q)) m _ _ is
        (new_goes class at (class_named schema.classes class.text) m refl is h)
    node_goes (Expr-F.Parens inner line) place m ok h = values t r l inner AsValue ok m h
    node_goes (Expr-F.Negate operand line) place m ok h =
        let p = nothing ((judged s operand).broken AsValue) (must (is_number (judged s operand).kind) T3 line) ok in
        on w (Valued (judged s operand).kind) (Valued type.Int) m (v operand m).1 (v operand m).0 _ (u operand m) _
        (values t r l operand AsValue p.0 m h)
        (λ a good keeps.
        let n = (v operand m).1 in
        where_so w (Valued type.Int) (is_int a) _ n _ _ (number_so (seen w n) (judged s operand).kind a (held _ _ _ p.1) good.1)
        (good_value w (Valued type.Int) n _ (good.0, tt)))
    node_goes (Expr-F.Binary operator left right line) place m ok h =
        let before = beside operator (judged s right).null in
        let behind = beside operator (judged s left).null in
        let j = (judged s left).kind in
        let k = (judged s right).kind in
        let p = nothing ((judged s left).broken before ++ (judged s right).broken behind) (must (takes schema.classes operator j k) T3 line) ok in
        let q = nothing ((judged s left).broken before) ((judged s right).broken behind) p.0 in
        on w (Valued j) (Valued type.Int) m (v left m).1 (v left m).0 _ (u left m) _ (values t r l left before q.0 m h)
        (λ a good keeps.
        let n = (v left m).1 in
        on w (Valued k) (Valued type.Int) n (v right n).1 (v right n).0 _ (u right n) _ (values t r l right behind q.1 n good.0)
        (λ c well more.
        let o = (v right n).1 in
        let fit = value_keeps (seen w n) (seen w o) more j a good.1 in
        where_so w (Valued type.Int) (are_operands operator a c) _ o _ _
        (operands_so (seen w o) schema.classes operator j k a c (held _ _ _ p.1) fit well.1)
        (good_value w (Valued type.Int) o (combined operator a c) (well.0, combined_fits (seen w o) operator a c))))
    node_goes (Expr-F.Call receiver name es) place m ok h = called_goes receiver name es m ok h

  -- an expression that breaks no rule gives a value of its type
  pub expression_goes : ValuesGo schema repos at_hand (expression w v b) (strict_expression w u d)
  unfolding expression strict_expression
  expression_goes t r l e place ok m h =
      let s = sight t r l in
      let k = judged_out s e in
      let good = ValueGood schema repos at_hand s (judged s e).kind in
      on w (Fits w s) good m (step m).1 (step m).0 _ (Some (step m)) _ (steps w s m h)
      (λ x fits keeps.
      let n = (step m).1 in
      let went = node_goes t r l (out-Expr e) place n (ap (λ (j : Judged). j.broken place) (sym k) ∙ ok) fits in
      subst (λ (j : Judged). Went w Value (ValueGood schema repos at_hand s j.kind) n (value_at w v b (out-Expr e) n).0
      (value_at w v b (out-Expr e) n).1 (strict_value_at w u d (out-Expr e) n)) (sym k) went)
