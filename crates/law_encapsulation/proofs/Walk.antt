-- Expressions that break no rule reach parts through their owners alone, and hand none on.
use Rattle.class_defs.proofs.ActionWords.{over}
use Rattle.class_defs.proofs.KeptRules.{ClassSound, MethodSound, found, held, method_sound, nothing, there as something}
use Rattle.class_defs.specs.Calls.{bound, call, call_object, enter, enter_as, owners_at, run_body}
use Rattle.class_defs.specs.ExpressionRules.{Judged, arguments_rules, at_rules, beside, broken_at, call_rules, called_rules, is_number, judged, kinds_at, may_be_made, may_be_read, may_be_this, method_called, parameters_of, takes}
use Rattle.class_defs.specs.Expressions.{combined, expression, this_value, value_at, values_from, values_of}
use Rattle.class_defs.specs.Kinds.{literal_type, literal_value}
use Rattle.class_defs.specs.Objects.{create, field_value, first_of, named_value, scope_at, seen, touch}
use Rattle.class_defs.specs.Rules.{Sight, is_class, is_part, must, root_named, roots_in_sight, scope_of, type_in_sight}
use Rattle.class_defs.specs.SchemaRules.{in_method, method_rules, parameter_named}
use Rattle.class_defs.specs.Steps.{Action, World, after, step}
use Rattle.class_defs.specs.Types.{class_named, class_or_untold, field_of, field_type, method_of, result_type, type_named, type_of, type_step, typed}
use Rattle.class_defs.specs.declared.classes.Class.{Class}
use Rattle.class_defs.specs.declared.classes.Method.{Method}
use Rattle.class_defs.specs.declared.classes.Parameter.{Parameter}
use Rattle.class_defs.specs.declared.expressions.Expr.TheOpen.{Expr-F}
use Rattle.class_defs.specs.declared.expressions.Expr.{Expr, map-Expr, out-Expr}
use Rattle.class_defs.specs.declared.expressions.Name.{Name}
use Rattle.class_defs.specs.declared.literals.Literal.TheVariants as literal
use Rattle.class_defs.specs.declared.literals.Literal.{Literal}
use Rattle.class_defs.specs.declared.limits.TheConstants.{DEPTH_LIMIT, STEP_LIMIT}
use Rattle.class_defs.specs.declared.machine.Flow.{Flow}
use Rattle.class_defs.specs.declared.machine.Machine.{Machine}
use Rattle.class_defs.specs.declared.machine.Receiver.{Receiver}
use Rattle.class_defs.specs.declared.machine.Stop.TheVariants as stop
use Rattle.class_defs.specs.declared.machine.Stop.{Stop}
use Rattle.class_defs.specs.declared.rules.NamedType.{NamedType}
use Rattle.class_defs.specs.declared.rules.Position.TheVariants.{BesideNull, IntoOwnedField, Receiver as AsReceiver, Value as AsValue}
use Rattle.class_defs.specs.declared.rules.Position.{Position}
use Rattle.class_defs.specs.declared.rules.Rule.TheVariants.{T2, T3, T8}
use Rattle.class_defs.specs.declared.statements.Stmt.{Stmt}
use Rattle.class_defs.specs.declared.store.Object.{Object}
use Rattle.class_defs.specs.declared.store.RootDeclaration.{RootDeclaration}
use Rattle.class_defs.specs.declared.store.Schema.{Schema}
use Rattle.class_defs.specs.declared.types.ExprType.TheVariants as type
use Rattle.class_defs.specs.declared.types.ExprType.{ExprType}
use Rattle.class_defs.specs.declared.expressions.TypeName.TheVariants as type_name
use Rattle.law_type_soundness.proofs.FitArguments.{ArgumentsFit, Told, Unbroken, ValuesFit, arguments_fit, bound_fits, kinds, one_more_fits, unbroken, values_keep}
use Rattle.law_type_soundness.proofs.FitActions.{touch_goes as typed_touch}
use Rattle.law_type_soundness.proofs.FitCalls.{BlocksGo as TypedBlocks, ValuesGo as TypedValues, sight_of}
use Rattle.law_type_soundness.proofs.FitKinds.{judged_out, kind_is, scope_is}
use Rattle.law_type_soundness.proofs.FitObjects.{one_number}
use Rattle.law_type_soundness.proofs.FitSteps.{steps as typed_steps}
use Rattle.law_type_soundness.proofs.FitValues.{Keeps, value_keeps}
use Rattle.law_type_soundness.specs.Fits.{MachineFits, ValueFits, class_of}
use Rattle.law_type_soundness.specs.Strict.{Sure}
use Rattle.law_encapsulation.proofs.Fields.{OwnedByThis, create_goes, field_goes, field_owned}
use Rattle.law_encapsulation.proofs.Made.{is_among}
use Rattle.law_encapsulation.specs.Owning.{OwnsIn}
use Rattle.law_encapsulation.proofs.Steps.{Any, AreFree, BlocksGo, Goes, Held, Known, PartsGo, Placed, TidyAt, free_type, on, placed_free, still, steps, stops, touch_goes, weaker}
use Rattle.law_encapsulation.proofs.Tidy.{CanReach, IsFresh, IsReached, can_more, grows_no, is_known, known_more, tidy_this}
use Rattle.std.proofs.Common.{Bool, List, [], ap, append-nil, append_assoc, arith, cond, false, inl, inr, length, map, not, refl, subst, sym, true, ℕ, ◌++◌, ◌+◌, ◌≡◌, ◌∙◌, ◌∷◌}
use Rattle.std.proofs.lemmas.Bool.{not-true, both_ways}
use Rattle.std.specs.List.{AllByRecursion}
use Rattle.std.specs.Option.{option_and_then, option_map, unwrap_or}
use Rattle.std.specs.Prelude.{Err, None, Ok, Option, Result, Some, find, is_some, nat_lt, slice_get, ◌==◌, ◌||◌, ◌⊎◌}
use Rattle.std.specs.Str.{bytes_eq}
use Rattle.thor_value.specs.declared.names.Oref.{Oref}
use Rattle.thor_value.specs.declared.values.Fault.TheVariants as fault
use Rattle.thor_value.specs.declared.values.Value.TheVariants as value
use Rattle.thor_value.specs.declared.values.Value.{Value}

no_this : {A : Type 0} (r : Receiver) → ◌≡◌ {A = Option Receiver} None (Some r) → A
no_this r e = cc

same_this : (p q : Receiver) → ◌≡◌ {A = Option Receiver} (Some p) (Some q) → p ≡ q
same_this p q e = cc

module _ (schema : Schema) (repos : ℕ) (sound : (c : ℕ) (d : Class) → slice_get schema.classes c ≡ Some d → ClassSound schema repos c d)
    (roots : AllByRecursion (λ (r : RootDeclaration). is_part schema.classes (type_named schema.classes (type_name.Class r.class)) ≡ false) schema.roots)
    (E : Oref → Option Object)
    (v : Expr → Action Value) (u : Expr → Sure Value) (b : List Stmt → Action Flow) (d : List Stmt → Sure Flow)
    (values : TypedValues schema repos E v u) (blocks : TypedBlocks schema repos E b d)
    (parts : PartsGo schema repos E v) (tidies : BlocksGo schema repos E b) where
  abbrev w : World
  w = over schema E

  abbrev Owed : {A : Type 0} → (A → Machine → Type 0) → Machine → Result A Stop → Machine → Type 0
  Owed Good m r n = Goes schema repos E Good m r n

  module _ (t : Option ℕ) (r : ExprType) (l : List NamedType) (free : AreFree schema repos E l) where
    abbrev s : Sight
    s = sight_of schema repos t r l

    abbrev Here : Position → ExprType → Value → Machine → Type 0
    Here place k a n = Placed schema repos E place k a n

    -- ---- names in sight

    found_free : (P : NamedType → Bool) (ls : List NamedType) → AreFree schema repos E ls → (n : NamedType) → find P ls ≡ Some n → is_part schema.classes n.kind ≡ false
    found_free P ls all n is = found (λ (q : NamedType). is_part schema.classes q.kind ≡ false) P ls n all is

    abbrev kind_of : NamedType → ExprType
    kind_of n = n.kind

    abbrev root_kind : RootDeclaration → ExprType
    root_kind q = type_named schema.classes (type_name.Class q.class)

    root_free : (u : Option ℕ) (P : RootDeclaration → Bool) (o : Option RootDeclaration) → find P (roots_in_sight schema u) ≡ o → is_part schema.classes (unwrap_or (option_map root_kind o) type.Untold) ≡ false
    root_free None P (Some q) is = found (λ (x : RootDeclaration). is_part schema.classes (root_kind x) ≡ false) P schema.roots q roots is
    root_free (Some c) P (Some q) is = cc
    root_free u P None is = refl

    first_free : (o : Option NamedType) (p : Option RootDeclaration) → ((n : NamedType) → o ≡ Some n → is_part schema.classes n.kind ≡ false) → is_part schema.classes (unwrap_or (option_map root_kind p) type.Untold) ≡ false
        → is_part schema.classes (unwrap_or (first_of (option_map kind_of o) (option_map root_kind p)) type.Untold) ≡ false
    first_free (Some n) p h k = h n refl
    first_free None p h k = k

    pub name_free : (name : List ℕ) → is_part schema.classes (unwrap_or (type_in_sight s name) type.Untold) ≡ false
    name_free name = first_free (find (λ (n : NamedType). bytes_eq n.name name) l) (root_named s name)
        (λ n is. found_free (λ (q : NamedType). bytes_eq q.name name) l free n is) (root_free t (λ (q : RootDeclaration). bytes_eq q.name.text name) (root_named s name) refl)

    -- ---- the body of a method

    pub parameters_free : (ps : List Parameter) → Told schema.classes ps → AreFree schema repos E (map (parameter_named schema.classes) ps)
    parameters_free [] h = tt
    parameters_free (p ∷ ps) h = (free_type schema.classes p.type_name h.0, parameters_free ps h.1)

    body_goes : (this : Receiver) (c : ℕ) (method : Method) (us : List Value) (m : Machine) → this.class ≡ c
        → class_of (seen w m) this.oref ≡ Some c → MethodSound schema repos c method
        → ArgumentsFit (seen w m) schema.classes method.parameters us → MachineFits w s m → TidyAt schema repos E m → is_known schema.classes E m.reads m.created this.oref ≡ true
        → Owed Any m (run_body w b this method us m).0 (run_body w b this method us m).1
    unfolding run_body seen
    body_goes this c method us m class is ok fit h tidy known =
        let inside = record m { depth = m.depth + 1; this = Some this; locals = bound schema.classes method.parameters us } in
        let fits : MachineFits w (in_method schema repos c method) inside = record {
          objects = h.objects;
          this = (class, is);
          locals = bound_fits (seen w m) schema.classes method.parameters us us 0
              (λ n. let z : 0 + n ≡ n = omega arith in rw z refl) ok.parameters fit;
          names = h.names;
        } in
        let in_tidy : TidyAt schema repos E inside = tidy_this schema.classes E m.writes m.created m.reads m.this tidy (Some this) (λ q e. subst (λ (x : Receiver). is_known schema.classes E m.reads m.created x.oref ≡ true) (same_this this q e) known) in
        let went = tidies (Some c) (type_named schema.classes method.result) (map (parameter_named schema.classes) method.parameters) (parameters_free method.parameters ok.parameters) method.body ok.body inside fits in_tidy in
        let n = (b method.body inside).1 in
        on schema repos E Any Any m n (b method.body inside).0 _ (record { tidy = went.tidy; grows = went.grows; good = λ a e. tt })
        (λ flow e good after grows. record {
          tidy = tidy_this schema.classes E n.writes n.created n.reads n.this after m.this (λ q at. known_more schema.classes E m.created n.created m.reads n.reads grows q.oref (tidy.this q at));
          grows = grows_no schema.classes E n.created n.reads;
          good = λ a e. tt;
        })

    -- ---- calls

    method_declared : (c : ℕ) (k : Class) (name : List ℕ) (method : Method) → slice_get schema.classes c ≡ Some k
        → method_of schema.classes c name ≡ Some method → MethodSound schema repos c method
    method_declared c k name method at is =
        let e : method_of schema.classes c name ≡ find (λ (q : Method). bytes_eq q.name.text name) k.methods = rw at refl in
        method_sound schema repos c method (found (λ (q : Method). method_rules schema repos c q ≡ [])
        (λ (q : Method). bytes_eq q.name.text name) k.methods method (sound c k at).methods (sym e ∙ is))

    class_behind : (o : Option Class) (name : List ℕ) (method : Method)
        → option_and_then (λ (k : Class). find (λ (q : Method). bytes_eq q.name.text name) k.methods) o ≡ Some method → is_some o ≡ true
    class_behind (Some k) name method is = refl
    class_behind None name method is = cc

    pub sound_method : (c : ℕ) (name : List ℕ) (method : Method) → method_of schema.classes c name ≡ Some method → MethodSound schema repos c method
    sound_method c name method is = let k = something (slice_get schema.classes c) (class_behind (slice_get schema.classes c) name method is) in method_declared c k.0 name method k.1 is

    -- what a call answers is no part
    pub called_free : (k : ExprType) (name : List ℕ) → is_part schema.classes (result_type schema.classes k name) ≡ false
    called_free (type.Class c) name = by (method_of schema.classes c name) refl
      where
        by : (o : Option Method) → method_of schema.classes c name ≡ o → is_part schema.classes (typed schema.classes (option_map (λ (q : Method). q.result) o)) ≡ false
        by None is = refl
        by (Some q) is = free_type schema.classes q.result (sound_method c name q is).result
    called_free type.Int name = refl
    called_free type.Text name = refl
    called_free type.Null name = refl
    called_free type.Untold name = refl

    abbrev pub judgements : List Expr → List Judged
    judgements es = map (judged s) es

    -- what a call owes to the rules
    pub record CallUnbroken (k : ExprType) (name : Name) (es : List Expr) : Type 0 where
      pub called : called_rules k (method_called schema.classes k name) name (length (judgements es)) ≡ []
      pub given : arguments_rules schema.classes (parameters_of (method_called schema.classes k name)) (judgements es) ≡ []

    enter_goes : (this : Receiver) (c : ℕ) (name : Name) (o : Option Method) (es : List Expr) (us : List Value) (m : Machine) → method_of schema.classes c name.text ≡ o
        → called_rules (type.Class c) o name (length (judgements es)) ≡ [] → arguments_rules schema.classes (parameters_of o) (judgements es) ≡ []
        → ValuesFit (seen w m) (kinds s schema.classes es) us → this.class ≡ c → class_of (seen w m) this.oref ≡ Some c → MachineFits w s m → TidyAt schema repos E m
        → is_known schema.classes E m.reads m.created this.oref ≡ true → Owed Any m (enter w b this o us m).0 (enter w b this o us m).1
    enter_goes this c name None es us m at called given fit class is h tidy known = stops schema repos E Any m (stop.Fault fault.NullCall) tidy
    enter_goes this c name (Some method) es us m at called given fit class is h tidy known =
        let ok = sound_method c name.text method at in
        let count : length method.parameters ≡ length (judgements es) = sym (one_number (length method.parameters) (length (judgements es)) (held _ _ _ called)) in
        body_goes this c method us m class is ok (arguments_fit s schema.classes (seen w m) method.parameters es us given count ok.parameters fit) h tidy known

    enter_as_goes : (same : Bool) (this : Receiver) (o : Option Method) (us : List Value) (m : Machine) → TidyAt schema repos E m → Owed Any m (enter w b this o us m).0 (enter w b this o us m).1
        → Owed Any m (cond same (enter w b this o us) (λ q. (Err (stop.Fault fault.NullCall), q)) m).0 (cond same (enter w b this o us) (λ q. (Err (stop.Fault fault.NullCall), q)) m).1
    enter_as_goes true this o us m tidy h = h
    enter_as_goes false this o us m tidy h = stops schema repos E Any m (stop.Fault fault.NullCall) tidy

    object_goes : (few : Bool) (c : ℕ) (x : Oref) (owners : List Oref) (name : Name) (es : List Expr) (us : List Value) (m : Machine) → CallUnbroken (type.Class c) name es
        → class_of (seen w m) x ≡ Some c → ValuesFit (seen w m) (kinds s schema.classes es) us → MachineFits w s m → TidyAt schema repos E m → CanReach schema.classes E m.reads m.created x
        → let this : Receiver = record { oref = x; class = c; owners = owners } in
        let goes : Result Value Stop × Machine =
        cond few (after (touch w owners x m).0 (touch w owners x m).1 (λ found. enter_as w b this found (method_of schema.classes c name.text) us))
        (Err (stop.Fault fault.Depth), m) in
        Owed Any m goes.0 goes.1
    object_goes false c x owners name es us m ok is fit h tidy can = stops schema repos E Any m (stop.Fault fault.Depth) tidy
    object_goes true c x owners name es us m ok is fit h tidy can =
        let this : Receiver = record { oref = x; class = c; owners = owners } in
        let typed_went = typed_touch schema repos sound E t r l owners x c m is h in
        on schema repos E (Known schema repos E x) Any m (touch w owners x m).1 (touch w owners x m).0 _ (touch_goes schema repos E owners x m can tidy)
        (λ found e known after grows.
        let n = (touch w owners x m).1 in
        let good = typed_went.good found e in
        enter_as_goes (found == c) this (method_of schema.classes c name.text) us n after
        (enter_goes this c name (method_of schema.classes c name.text) es us n refl ok.called ok.given
        (values_keep (seen w m) (seen w n) typed_went.keeps (kinds s schema.classes es) us fit) refl (typed_went.keeps x c is) good.1 after known))

    call_goes : (k : ExprType) (a : Value) (name : Name) (es : List Expr) (us : List Value) (m : Machine) → CallUnbroken k name es
        → ValueFits (seen w m) k a → ValuesFit (seen w m) (kinds s schema.classes es) us → MachineFits w s m → TidyAt schema repos E m
        → ((x : Oref) → a ≡ value.Ref x → CanReach schema.classes E m.reads m.created x)
        → Owed Any m (call w b k a name.text us m).0 (call w b k a name.text us m).1
    unfolding call call_object
    call_goes (type.Class c) (value.Ref x) name es us m ok is fit h tidy can = object_goes (nat_lt m.depth DEPTH_LIMIT) c x (owners_at schema.classes c x m) name es us m ok is fit h tidy (can x refl)
    call_goes (type.Class c) value.Null name es us m ok is fit h tidy can = stops schema repos E Any m (stop.Fault fault.NullCall) tidy
    call_goes (type.Class c) (value.Int n) name es us m ok is fit h tidy can = stops schema repos E Any m (stop.Fault fault.NullCall) tidy
    call_goes (type.Class c) (value.Text n) name es us m ok is fit h tidy can = stops schema repos E Any m (stop.Fault fault.NullCall) tidy
    call_goes type.Int a name es us m ok is fit h tidy can = stops schema repos E Any m (stop.Fault fault.NullCall) tidy
    call_goes type.Text a name es us m ok is fit h tidy can = stops schema repos E Any m (stop.Fault fault.NullCall) tidy
    call_goes type.Null a name es us m ok is fit h tidy can = stops schema repos E Any m (stop.Fault fault.NullCall) tidy
    call_goes type.Untold a name es us m ok is fit h tidy can = stops schema repos E Any m (stop.Fault fault.NullCall) tidy

    -- ---- the values of several expressions

    -- values of these types, in a state that fits and in which objects keep the classes that they had
    record Listed (first : Oref → Option Object) (ks : List ExprType) (us : List Value) (n : Machine) : Type 0 where
      fits : MachineFits w s n
      listed : ValuesFit (seen w n) ks us
      keeps : Keeps first (seen w n)

    values_from_go : (first : Oref → Option Object) (es : List Expr) (ks : List ExprType) (us : List Value) (m : Machine) → Unbroken s schema.classes es → MachineFits w s m → TidyAt schema repos E m
        → Keeps first (seen w m) → ValuesFit (seen w m) ks us
        → Owed (Listed first (ks ++ kinds s schema.classes es)) m (values_from w v b us es m).0 (values_from w v b us es m).1
    values_from_go first [] ks us m ok h tidy keeps fit = still schema repos E (Listed first (ks ++ [])) m us tidy (record { fits = h; listed = rw (append-nil ks) fit; keeps = keeps })
    values_from_go first (e ∷ es) ks us m ok h tidy keeps fit =
        let k = (judged s e).kind in
        let typed_went = values t r l e AsValue ok.0 m h in
        on schema repos E (Here AsValue k) (Listed first (ks ++ k ∷ kinds s schema.classes es)) m (v e m).1 (v e m).0 _ (parts t r l free e AsValue ok.0 m h tidy)
        (λ x is good after grows.
        let n = (v e m).1 in
        let typed_good = typed_went.good x is in
        let went = values_from_go first es (ks ++ k ∷ []) (us ++ x ∷ []) n ok.1 typed_good.0 after (λ y c at. typed_went.keeps y c (keeps y c at))
        (one_more_fits (seen w n) ks us k x (values_keep (seen w m) (seen w n) typed_went.keeps ks us fit) typed_good.1) in
        subst (λ (qs : List ExprType). Owed (Listed first qs) n (values_from w v b (us ++ x ∷ []) es n).0 (values_from w v b (us ++ x ∷ []) es n).1)
        (append_assoc ks (k ∷ []) (kinds s schema.classes es)) went)

    values_of_go : (first : Oref → Option Object) (es : List Expr) (m : Machine) → Unbroken s schema.classes es → MachineFits w s m → TidyAt schema repos E m → Keeps first (seen w m)
        → Owed (Listed first (kinds s schema.classes es)) m (values_of w v b es m).0 (values_of w v b es m).1
    unfolding values_of
    values_of_go first es m ok h tidy keeps = values_from_go first es [] [] m ok h tidy keeps tt

    -- ---- one node

    -- the type that a check gives a node
    abbrev pub node_kind : Expr-F Expr → ExprType
    node_kind x = type_step (scope_of s) (kinds_at (map-Expr Expr Judged (judged s) x))

    -- an object of a class that is no part may always be read
    free_reached : (c : ℕ) (x : Oref) (m : Machine) → TidyAt schema repos E m → class_of (seen w m) x ≡ Some c → is_part schema.classes (type.Class c) ≡ false → IsReached schema.classes E m.reads x
    unfolding seen
    free_reached c x m tidy is not_part o at part =
        let k = tidy.kept x o at in
        let same : o.class ≡ c = one_class o.class c (ap Some (sym k.2) ∙ ap (option_map (λ (p : Object). p.class)) (sym k.1) ∙ is) in
        absurd (both_ways (is_part schema.classes (type.Class c)) not_part (subst (λ j. is_part schema.classes (type.Class j) ≡ true) same part))
      where
        one_class : (i j : ℕ) → ◌≡◌ {A = Option ℕ} (Some i) (Some j) → i ≡ j
        one_class i j e = cc

    -- a receiver may be read
    pub receiver_reached : (k : ExprType) (a : Value) (m : Machine) → TidyAt schema repos E m → ValueFits (seen w m) k a → Here AsReceiver k a m → (x : Oref) → a ≡ value.Ref x → CanReach schema.classes E m.reads m.created x
    receiver_reached k a m tidy fit good x is = by k (is_part schema.classes k) refl (subst (λ (y : Value). ValueFits (seen w m) k y) is fit) (good x is)
      where
        by : (k : ExprType) (c : Bool) → is_part schema.classes k ≡ c → ValueFits (seen w m) k (value.Ref x) → (is_part schema.classes k ≡ true → CanReach schema.classes E m.reads m.created x) → CanReach schema.classes E m.reads m.created x
        by k true e fit can = can e
        by (type.Class c) false e fit can = inr (free_reached c x m tidy fit e)
        by type.Int false e fit can = absurd fit
        by type.Text false e fit can = absurd fit
        by type.Null false e fit can = absurd fit
        by type.Untold false e fit can = absurd fit

    called_goes : (receiver : Expr) (name : Name) (es : List Expr) (m : Machine) → call_rules s (judged s receiver) name (judgements es) ≡ []
        → MachineFits w s m → TidyAt schema repos E m → Owed Any m (value_at w v b (Expr-F.Call receiver name es) m).0 (value_at w v b (Expr-F.Call receiver name es) m).1
    called_goes receiver name es m ok h tidy =
        let k = (judged s receiver).kind in
        let method = method_called schema.classes k name in
        let p = nothing ((judged s receiver).broken AsReceiver ++ called_rules k method name (length (judgements es)))
        (arguments_rules schema.classes (parameters_of method) (judgements es)) ok in
        let q = nothing ((judged s receiver).broken AsReceiver) (called_rules k method name (length (judgements es))) p.0 in
        let kind : type_of (scope_at schema m) receiver ≡ k = ap (λ c. type_of c receiver) (scope_is (seen w m) s m h.this h.locals) ∙ sym (kind_is s receiver) in
        let typed_went = values t r l receiver AsReceiver q.0 m h in
        on schema repos E (Here AsReceiver k) Any m (v receiver m).1 (v receiver m).0 _ (parts t r l free receiver AsReceiver q.0 m h tidy)
        (λ a is good after grows.
        let n = (v receiver m).1 in
        let typed_good = typed_went.good a is in
        on schema repos E (Listed (seen w n) (kinds s schema.classes es)) Any n (values_of w v b es n).1 (values_of w v b es n).0 _
        (values_of_go (seen w n) es n (unbroken s schema.classes (parameters_of method) es p.1) typed_good.0 after (λ y c at. at))
        (λ us there listed later more.
        let o = (values_of w v b es n).1 in
        let went = call_goes k a name es us o (record { called = q.1; given = p.1 }) (value_keeps (seen w n) (seen w o) listed.keeps k a typed_good.1) listed.listed listed.fits later
        (λ x e. can_more schema.classes E n.created o.created n.reads o.reads more x (receiver_reached k a n after typed_good.1 good x e)) in
        subst (λ (j : ExprType). Owed Any o (call w b j a name.text us o).0 (call w b j a name.text us o).1) (sym kind) went))

    this_placed : (c : Option ℕ) (place : Position) (m : Machine) → TidyAt schema repos E m → (may_be_this place || not (is_part schema.classes (class_or_untold c))) ≡ true
        → Here place (unwrap_or (option_map type.Class c) type.Untold) (this_value m.this) m
    this_placed None place m tidy ok = placed_free schema repos E place type.Untold (this_value m.this) m refl
    this_placed (Some c) AsReceiver m tidy ok = λ x e part. inl (by m.this refl x e)
      where
        by : (p : Option Receiver) → m.this ≡ p → (x : Oref) → this_value p ≡ value.Ref x → is_known schema.classes E m.reads m.created x ≡ true
        by None is x e = cc
        by (Some q) is x e = let same : q.oref ≡ x = cc in subst (λ y. is_known schema.classes E m.reads m.created y ≡ true) same (tidy.this q is)
    this_placed (Some c) BesideNull m tidy ok = tt
    this_placed (Some c) IntoOwnedField m tidy ok = placed_free schema repos E IntoOwnedField (type.Class c) (this_value m.this) m (not-true (is_part schema.classes (type.Class c)) ok)
    this_placed (Some c) AsValue m tidy ok = not-true (is_part schema.classes (type.Class c)) ok

    field_placed : (place : Position) (name : Name) (m : Machine) → MachineFits w s m → TidyAt schema repos E m → is_some (option_and_then (λ c. field_of schema.classes c name.text) t) ≡ true
        → (may_be_read place || not (is_part schema.classes (field_type (scope_of s) name.text))) ≡ true → Here place (field_type (scope_of s) name.text) (field_value w m name.text) m
    field_placed AsReceiver name m h tidy is ok = λ x e part. field_goes schema repos E t r l m name.text h tidy is x e part
    field_placed BesideNull name m h tidy is ok = tt
    field_placed IntoOwnedField name m h tidy is ok = placed_free schema repos E IntoOwnedField (field_type (scope_of s) name.text) (field_value w m name.text) m (not-true (is_part schema.classes (field_type (scope_of s) name.text)) ok)
    field_placed AsValue name m h tidy is ok = not-true (is_part schema.classes (field_type (scope_of s) name.text)) ok

    new_placed : (place : Position) (k : ExprType) (a : Value) (n : Machine) → (may_be_made place || not (is_part schema.classes k)) ≡ true
        → ((x : Oref) → a ≡ value.Ref x → (q : Receiver) → n.this ≡ Some q → IsFresh schema.classes E n.writes n.created q.oref x) → Here place k a n
    new_placed IntoOwnedField k a n ok fresh = λ x e part q is. fresh x e q is
    new_placed AsReceiver k a n ok fresh = placed_free schema repos E AsReceiver k a n (not-true (is_part schema.classes k) ok)
    new_placed BesideNull k a n ok fresh = tt
    new_placed AsValue k a n ok fresh = not-true (is_part schema.classes k) ok

    literal_free : (l : Literal) → is_part schema.classes (literal_type l) ≡ false
    literal_free (literal.Int n) = refl
    literal_free (literal.Text w) = refl

    int_placed : (place : Position) (a : Value) (m : Machine) → Here place type.Int a m
    int_placed place a m = placed_free schema repos E place type.Int a m refl

    node_goes : (x : Expr-F Expr) (place : Position) (m : Machine) → broken_at s (map-Expr Expr Judged (judged s) x) place ≡ [] → MachineFits w s m → TidyAt schema repos E m
        → Owed (Here place (node_kind x)) m (value_at w v b x m).0 (value_at w v b x m).1
    node_goes (Expr-F.Literal n line) place m ok h tidy = still schema repos E (Here place (literal_type n)) m (literal_value n) tidy (placed_free schema repos E place (literal_type n) (literal_value n) m (literal_free n))
    node_goes (Expr-F.Null line) place m ok h tidy = still schema repos E (Here place type.Null) m value.Null tidy (placed_free schema repos E place type.Null value.Null m refl)
    node_goes (Expr-F.This line) place m ok h tidy =
        let p = nothing (must (is_some t) T2 line) _ ok in
        still schema repos E (Here place (node_kind (Expr-F.This line))) m (this_value m.this) tidy (this_placed t place m tidy (held _ _ _ p.1))
    node_goes (Expr-F.Field name) place m ok h tidy =
        let p = nothing (must (is_some (option_and_then (λ c. field_of schema.classes c name.text) t)) T2 name.line) _ ok in
        still schema repos E (Here place (node_kind (Expr-F.Field name))) m (field_value w m name.text) tidy (field_placed place name m h tidy (held _ _ _ p.0) (held _ _ _ p.1))
    node_goes (Expr-F.Variable name) place m ok h tidy =
        still schema repos E (Here place (node_kind (Expr-F.Variable name))) m (named_value schema m name.text) tidy (placed_free schema repos E place (node_kind (Expr-F.Variable name)) (named_value schema m name.text) m (name_free name.text))
    node_goes (Expr-F.New class at) place m ok h tidy =
        let p = nothing (is_class schema.classes class ++ must
        (may_be_made place || not (is_part schema.classes (class_or_untold (class_named schema.classes class.text)))) T8 class.line)
        (at_rules s at) ok in
        let made = held _ _ _ (nothing (is_class schema.classes class) _ p.0).1 in
        weaker schema repos E _ (Here place (node_kind (Expr-F.New class at))) m _ _ (create_goes schema repos E t r l class.text at m h tidy)
        (λ a e fresh. new_placed place (node_kind (Expr-F.New class at)) a (create w class.text at m).1 made fresh)
    node_goes (Expr-F.Parens inner line) place m ok h tidy =
        weaker schema repos E (Here AsValue (judged s inner).kind) (Here place (judged s inner).kind) m _ _ (parts t r l free inner AsValue ok m h tidy)
        (λ a e not_part. placed_free schema repos E place (judged s inner).kind a (v inner m).1 not_part)
    node_goes (Expr-F.Negate operand line) place m ok h tidy =
        let p = nothing ((judged s operand).broken AsValue) (must (is_number (judged s operand).kind) T3 line) ok in
        on schema repos E (Here AsValue (judged s operand).kind) (Here place type.Int) m (v operand m).1 (v operand m).0 _ (parts t r l free operand AsValue p.0 m h tidy)
        (λ a e good after grows. still schema repos E (Here place type.Int) (v operand m).1 _ after (int_placed place _ (v operand m).1))
    node_goes (Expr-F.Binary operator left right line) place m ok h tidy =
        let before = beside operator (judged s right).null in
        let behind = beside operator (judged s left).null in
        let p = nothing ((judged s left).broken before ++ (judged s right).broken behind) (must (takes schema.classes operator (judged s left).kind (judged s right).kind) T3 line) ok in
        let q = nothing ((judged s left).broken before) ((judged s right).broken behind) p.0 in
        let typed_went = values t r l left before q.0 m h in
        on schema repos E (Here before (judged s left).kind) (Here place type.Int) m (v left m).1 (v left m).0 _ (parts t r l free left before q.0 m h tidy)
        (λ a e good after grows.
        let n = (v left m).1 in
        on schema repos E (Here behind (judged s right).kind) (Here place type.Int) n (v right n).1 (v right n).0 _ (parts t r l free right behind q.1 n (typed_went.good a e).0 after)
        (λ c is well later more. still schema repos E (Here place type.Int) (v right n).1 (combined operator a c) later (int_placed place (combined operator a c) (v right n).1)))
    node_goes (Expr-F.Call receiver name es) place m ok h tidy =
        weaker schema repos E Any (Here place (node_kind (Expr-F.Call receiver name es))) m _ _ (called_goes receiver name es m ok h tidy)
        (λ a e good. placed_free schema repos E place (node_kind (Expr-F.Call receiver name es)) a _ (called_free (judged s receiver).kind name.text))

    -- ---- receivers

    this_held : (m n : Machine) (p : Option Receiver) → m.this ≡ p → (x : Oref) → this_value p ≡ value.Ref x → Held schema repos E m n x
    this_held m n None at x e = cc
    this_held m n (Some q) at x e = let same : x ≡ q.oref = cc in record { receiver = q; this = at; is = inl same }

    field_held : (m : Machine) (name : Name) → MachineFits w s m → TidyAt schema repos E m → is_some (option_and_then (λ c. field_of schema.classes c name.text) t) ≡ true
        → (x : Oref) → field_value w m name.text ≡ value.Ref x → is_part schema.classes (field_type (scope_of s) name.text) ≡ true → Held schema repos E m m x
    field_held m name h tidy there x e part =
        let owned = field_owned schema repos E t r l m name.text h there x e part in
        record { receiver = owned.receiver; this = owned.this; is = by owned (is_among m.created x) refl }
      where
        by : (owned : OwnedByThis schema repos E t r l m x) (b : Bool) → is_among m.created x ≡ b
            → (x ≡ owned.receiver.oref) ⊎ ((is_among m.created x ≡ true) ⊎ ((i : ℕ) × OwnsIn schema.classes E owned.receiver.oref i x))
        by owned true made = inr (inl made)
        by owned false made = inr (inr (owned.place, tidy.old owned.receiver.oref x owned.place made owned.owner))

    ok_is : {A : Type 0} (a c : A) → ◌≡◌ {A = Result A Stop} (Ok a) (Ok c) → a ≡ c
    ok_is a c e = cc

    node_held : (x : Expr-F Expr) (m : Machine) → broken_at s (map-Expr Expr Judged (judged s) x) AsReceiver ≡ [] → MachineFits w s m → TidyAt schema repos E m
        → is_part schema.classes (node_kind x) ≡ true → (a : Value) → (value_at w v b x m).0 ≡ Ok a → (z : Oref) → a ≡ value.Ref z → Held schema repos E m (value_at w v b x m).1 z
    node_held (Expr-F.Literal n line) m ok h tidy part a is z e = absurd (both_ways (is_part schema.classes (literal_type n)) (literal_free n) part)
    node_held (Expr-F.Null line) m ok h tidy part a is z e = cc
    node_held (Expr-F.This line) m ok h tidy part a is z e = this_held m m m.this refl z (ok_is (this_value m.this) a is ∙ e)
    node_held (Expr-F.Field name) m ok h tidy part a is z e =
        let p = nothing (must (is_some (option_and_then (λ c. field_of schema.classes c name.text) t)) T2 name.line) _ ok in
        field_held m name h tidy (held _ _ _ p.0) z (ok_is (field_value w m name.text) a is ∙ e) part
    node_held (Expr-F.Variable name) m ok h tidy part a is z e = absurd (both_ways (is_part schema.classes (node_kind (Expr-F.Variable name))) (name_free name.text) part)
    node_held (Expr-F.New class at) m ok h tidy part a is z e =
        let p = nothing (is_class schema.classes class ++ must
        (may_be_made AsReceiver || not (is_part schema.classes (class_or_untold (class_named schema.classes class.text)))) T8 class.line)
        (at_rules s at) ok in
        let made = held _ _ _ (nothing (is_class schema.classes class) _ p.0).1 in
        absurd (both_ways (is_part schema.classes (node_kind (Expr-F.New class at))) (not-true (is_part schema.classes (node_kind (Expr-F.New class at))) made) part)
    node_held (Expr-F.Parens inner line) m ok h tidy part a is z e =
        absurd (both_ways (is_part schema.classes (judged s inner).kind) ((parts t r l free inner AsValue ok m h tidy).good a is) part)
    node_held (Expr-F.Negate operand line) m ok h tidy part a is z e = cc
    node_held (Expr-F.Binary operator left right line) m ok h tidy part a is z e = cc
    node_held (Expr-F.Call receiver name es) m ok h tidy part a is z e =
        absurd (both_ways (is_part schema.classes (node_kind (Expr-F.Call receiver name es))) (called_free (judged s receiver).kind name.text) part)

    abbrev stepped : Machine → Machine
    stepped m = record m { steps = m.steps + 1 }

    abbrev behind_step : Bool → Expr-F Expr → Machine → Result Value Stop × Machine
    behind_step few x m =
        let first : Result (Unit {0}) Stop × Machine = cond few (Ok tt, stepped m) (Err (stop.Fault fault.Steps), m) in
        after first.0 first.1 (λ u. value_at w v b x)

    step_held : (few : Bool) (x : Expr-F Expr) (m : Machine) → broken_at s (map-Expr Expr Judged (judged s) x) AsReceiver ≡ [] → MachineFits w s (stepped m) → TidyAt schema repos E (stepped m)
        → is_part schema.classes (node_kind x) ≡ true → (a : Value) → (behind_step few x m).0 ≡ Ok a → (z : Oref) → a ≡ value.Ref z → Held schema repos E m (behind_step few x m).1 z
    step_held true x m ok h tidy part a is z e = let k = node_held x (stepped m) ok h tidy part a is z e in record { receiver = k.receiver; this = k.this; is = k.is }
    step_held false x m ok h tidy part a is z e = cc

    pub receiver_held : (e : Expr) (m : Machine) → (judged s e).broken AsReceiver ≡ [] → MachineFits w s m → TidyAt schema repos E m
        → is_part schema.classes (judged s e).kind ≡ true → (a : Value) → (expression w v b e m).0 ≡ Ok a → (z : Oref) → a ≡ value.Ref z → Held schema repos E m (expression w v b e m).1 z
    unfolding expression step seen
    receiver_held e m ok h tidy part a is z same =
        let k = judged_out s e in
        step_held (nat_lt m.steps STEP_LIMIT) (out-Expr e) m (ap (λ (j : Judged). j.broken AsReceiver) (sym k) ∙ ok)
        (record { objects = h.objects; this = h.this; locals = h.locals; names = h.names }) tidy
        (ap (λ (j : Judged). is_part schema.classes j.kind) (sym k) ∙ part) a is z same

  -- an expression that breaks no rule
  pub expression_goes : PartsGo schema repos E (expression w v b)
  unfolding expression
  expression_goes t r l free e place ok m h tidy =
      let s = sight_of schema repos t r l in
      let k = judged_out s e in
      on schema repos E Any (Placed schema repos E place (judged s e).kind) m (step m).1 (step m).0 _ (steps schema repos E m tidy)
      (λ x is good after grows.
      let n = (step m).1 in
      let fits = (typed_steps w s m h).good x is in
      let went = node_goes t r l free (out-Expr e) place n (ap (λ (j : Judged). j.broken place) (sym k) ∙ ok) fits after in
      subst (λ (j : Judged). Goes schema repos E (Placed schema repos E place j.kind) n (value_at w v b (out-Expr e) n).0 (value_at w v b (out-Expr e) n).1) (sym k) went)
