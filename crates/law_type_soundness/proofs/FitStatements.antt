-- That statements and blocks that break no rule go as they are owed, where their expressions and blocks do.
use Rattle.std.proofs.Common.{◌≡◌, Bool, true, false, cond, not, List, [], ◌∷◌, ◌++◌, Option, Some, None, Result, Ok, refl, ap, sym, subst, true≢false, ◌∙◌, ℕ, zero, suc, map, length, take, append_assoc, append-nil}
use Rattle.std.specs.List.{position_or_len}
use Rattle.std.specs.Prelude.{◌+◌, ◌||◌, find, is_some, option_and_then, option_map, position, slice_get, slice_set}
use Rattle.std.specs.Str.{bytes_eq}
use Rattle.thor_value.specs.declared.names.Oref.{Oref}
use Rattle.thor_value.specs.declared.values.Fault.TheVariants as fault
use Rattle.thor_value.specs.declared.values.Value.{Value}
use Rattle.class_defs.proofs.ActionWords.{over}
use Rattle.law_type_soundness.proofs.FitActions.{assign_goes, writes_so}
use Rattle.law_type_soundness.proofs.FitCalls.{sight_of, ValueGood, FlowGood, ValuesGo, BlocksGo}
use Rattle.law_type_soundness.proofs.FitKinds.{kinds_alike}
use Rattle.law_type_soundness.proofs.FitNames.{placed}
use Rattle.law_type_soundness.proofs.FitObjects.{value_suits}
use Rattle.class_defs.proofs.KeptRules.{ClassSound, nothing, held, place_found, free_is_type, type_told}
use Rattle.law_type_soundness.proofs.FitSteps.{Went, on, gives, value as good_value, faults, weaker, where_so, steps, Fits}
use Rattle.law_type_soundness.proofs.FitStrict.{is_of_so, number_so, printable_so}
use Rattle.law_type_soundness.proofs.FitValues.{locals_keep}
use Rattle.class_defs.specs.ExpressionRules.{judged, is_number, is_printable, line_of}
use Rattle.class_defs.specs.Kinds.{printed_as}
use Rattle.class_defs.specs.Types.{IsDeclared, field_of, field_type, type_named}
use Rattle.law_type_soundness.specs.Fits.{ValueFits, LocalFits, LocalsFit, MachineFits, FlowFits}
use Rattle.class_defs.specs.Objects.{seen, assign_field}
use Rattle.class_defs.specs.Rules.{Sight, fits, is_free_type, is_part, local_named, must, root_named, scope_of}
use Rattle.class_defs.specs.StatementRules.{Ruled, ruled, rule_step, broken_at, declares_at, in_turn, block_rules, assigned_fits, gives_part, must_be_number, place_for}
use Rattle.class_defs.specs.Statements.{assign_local, assigned, assigned_at, block_of, declare, holds, in_order, repeat, statement, statement_at, unless_returned, with_value}
use Rattle.class_defs.specs.Steps.{World, Action, step, ◌>>◌, ◌>>=◌, pure}
use Rattle.law_type_soundness.specs.Strict.{Sure, onward, only_if, is_of, is_int, is_text, writes_field, writes_local, strict_block, strict_in_order, strict_repeat, strict_statement, strict_statement_at, strict_unless_returned}
use Rattle.class_defs.specs.declared.classes.Class.{Class}
use Rattle.class_defs.specs.declared.expressions.Expr.{Expr, out-Expr}
use Rattle.class_defs.specs.declared.expressions.Name.{Name}
use Rattle.class_defs.specs.declared.expressions.TypeName.{TypeName}
use Rattle.class_defs.specs.declared.machine.Flow.{Flow}
use Rattle.class_defs.specs.declared.machine.Flow.TheVariants.{Next, Returned}
use Rattle.class_defs.specs.declared.machine.Local.{Local}
use Rattle.class_defs.specs.declared.machine.Machine.{Machine}
use Rattle.class_defs.specs.declared.machine.Stop.{Stop}
use Rattle.class_defs.specs.declared.rules.NamedType.{NamedType}
use Rattle.class_defs.specs.declared.rules.Position.{Position}
use Rattle.class_defs.specs.declared.rules.Position.TheVariants.{Value as AsValue}
use Rattle.class_defs.specs.declared.rules.Rule.TheVariants.{T2, T3, T6}
use Rattle.class_defs.specs.declared.statements.Stmt.{Stmt, out-Stmt, map-Stmt}
use Rattle.class_defs.specs.declared.statements.Stmt.TheFolds.{fold_out-Stmt}
use Rattle.class_defs.specs.declared.statements.Stmt.TheOpen.{Stmt-F}
use Rattle.class_defs.specs.declared.store.Object.{Object}
use Rattle.class_defs.specs.declared.store.RootDeclaration.{RootDeclaration}
use Rattle.class_defs.specs.declared.store.Schema.{Schema}
use Rattle.class_defs.specs.declared.types.ExprType.{ExprType}

pub ruled_out : (st : Stmt) → ruled st ≡ rule_step (map-Stmt Stmt Ruled ruled (out-Stmt st))
unfolding ruled
ruled_out st = fold_out-Stmt Ruled rule_step st

-- ---- locals

module _ (f : Oref → Option Object) where
  -- the locals of the block around, behind a block
  cut : (l more : List NamedType) (ms ns : List Local) → LocalsFit f l ms → LocalsFit f (l ++ more) ns → LocalsFit f l (take (length ms) ns)
  cut [] more [] ns h k = tt
  cut [] more (m ∷ ms) ns h k = absurd h
  cut (q ∷ qs) more [] ns h k = absurd h
  cut (q ∷ qs) more (m ∷ ms) [] h k = absurd k
  cut (q ∷ qs) more (m ∷ ms) (n ∷ ns) h k = (k.0, cut qs more ms ns h.1 k.1)

  one_more_local : (l : List NamedType) (ls : List Local) (q : NamedType) (x : Local) → LocalsFit f l ls → LocalFits f q x
      → LocalsFit f (l ++ q ∷ []) (ls ++ x ∷ [])
  one_more_local [] [] q x h fit = (fit, tt)
  one_more_local [] (y ∷ ys) q x h fit = absurd h
  one_more_local (n ∷ ns) [] q x h fit = absurd h
  one_more_local (n ∷ ns) (y ∷ ys) q x h fit = (h.0, one_more_local ns ys q x h.1 fit)

  declared_at : (ns : List NamedType) (ls : List Local) (i : ℕ) (n : NamedType) → LocalsFit f ns ls → slice_get ns i ≡ Some n → IsDeclared n.kind
  declared_at [] ls i n h is = cc
  declared_at (q ∷ qs) [] i n h is = absurd h
  declared_at (q ∷ qs) (y ∷ ys) zero n h is = let e : q ≡ n = cc in subst (λ (k : NamedType). IsDeclared k.kind) e h.0.declared
  declared_at (q ∷ qs) (y ∷ ys) (suc i) n h is = declared_at qs ys i n h.1 is

  local_set : (ns : List NamedType) (ls : List Local) (i : ℕ) (n : NamedType) (l : Local) (v : Value) → LocalsFit f ns ls
      → slice_get ns i ≡ Some n → slice_get ls i ≡ Some l → ValueFits f n.kind v
      → LocalsFit f ns (slice_set ls i (record l { value = v }))
  local_set [] ls i n l v h is at fit = cc
  local_set (q ∷ qs) [] i n l v h is at fit = absurd h
  local_set (q ∷ qs) (y ∷ ys) zero n l v h is at fit =
      let e : n ≡ q = cc in
      let d : l ≡ y = cc in (
        record {
          name = ap (λ (k : Local). k.name) d ∙ h.0.name;
          kind = ap (λ (k : Local). k.kind) d ∙ h.0.kind;
          declared = h.0.declared;
          value =
              subst (λ (k : NamedType). ValueFits f k.kind v) e fit;
        },
        h.1,
      )
  local_set (q ∷ qs) (y ∷ ys) (suc i) n l v h is at fit = (h.0, local_set qs ys i n l v h.1 is at fit)

  counted : (b c : Bool) (i j : ℕ) → b ≡ c → i ≡ j → cond (not b) (1 + i) 0 ≡ cond (not c) (1 + j) 0
  counted b c i j e d = rw (e, d) refl

  places_alike : (name : List ℕ) (ns : List NamedType) (ls : List Local) → LocalsFit f ns ls
      → position_or_len (λ (l : Local). bytes_eq l.name name) ls ≡ position_or_len (λ (n : NamedType). bytes_eq n.name name) ns
  places_alike name [] [] h = refl
  places_alike name [] (y ∷ ys) h = absurd h
  places_alike name (n ∷ ns) [] h = absurd h
  places_alike name (n ∷ ns) (y ∷ ys) h = counted _ _ _ _ (ap (λ t. bytes_eq t name) h.0.name) (places_alike name ns ys h.1)

  value_set : (ns : List NamedType) (ls : List Local) (i : ℕ) (n : NamedType) (o : Option Local) (v : Value) → LocalsFit f ns ls
      → slice_get ns i ≡ Some n → slice_get ls i ≡ o → ValueFits f n.kind v
      → LocalsFit f ns (with_value ls i o v)
  value_set ns ls i n None v h is at fit = h
  value_set ns ls i n (Some l) v h is at fit = local_set ns ls i n l v h is at fit

  set_at : (name : List ℕ) (ns : List NamedType) (ls : List Local) (n : NamedType) (o : Option ℕ) (v : Value) → LocalsFit f ns ls
      → slice_get ns (position_or_len (λ (q : NamedType). bytes_eq q.name name) ns) ≡ Some n
      → position (λ (l : Local). bytes_eq l.name name) ls ≡ o → ValueFits f n.kind v → LocalsFit f ns (assigned_at ls o v)
  set_at name ns ls n None v h is at fit = h
  set_at name ns ls n (Some i) v h is at fit =
      let p = (placed _ _ i at).1 in
      value_set ns ls i n _ v h (subst (λ k. slice_get ns k ≡ Some n) (sym (places_alike name ns ls h) ∙ p) is) refl fit

  -- a local is given a value of its type
  assigned_good : (name : List ℕ) (ns : List NamedType) (ls : List Local) (n : NamedType) (v : Value) → LocalsFit f ns ls
      → find (λ (q : NamedType). bytes_eq q.name name) ns ≡ Some n → ValueFits f n.kind v → LocalsFit f ns (assigned ls name v)
  unfolding assigned
  assigned_good name ns ls n v h is fit = set_at name ns ls n _ v h (place_found (λ (q : NamedType). bytes_eq q.name name) ns n is).1 refl fit

  local_told : (name : List ℕ) (ns : List NamedType) (ls : List Local) (n : NamedType) → LocalsFit f ns ls
      → find (λ (q : NamedType). bytes_eq q.name name) ns ≡ Some n → IsDeclared n.kind
  local_told name ns ls n h is = declared_at ns ls _ n h (place_found (λ (q : NamedType). bytes_eq q.name name) ns n is).1

module _ (schema : Schema) (repos : ℕ) (at_hand : Oref → Option Object) where
  abbrev w : World
  w = over schema at_hand

  abbrev s : Option ℕ → ExprType → List NamedType → Sight
  s t r l = sight_of schema repos t r l

  -- the end of statements: some locals more than before are there, and a result is of the declared type
  abbrev pub Ended : Option ℕ → ExprType → List NamedType → Flow → Machine → Type 0
  Ended t r l flow n = (more : List NamedType) × (MachineFits w (s t r (l ++ more)) n × FlowFits (seen w n) r flow)

  -- the end of one statement: just those locals more that it declares, unless it returned
  abbrev pub Done : Option ℕ → ExprType → List NamedType → List NamedType → Flow → Machine → Type 0
  Done t r l more Next n = MachineFits w (s t r (l ++ more)) n
  Done t r l more (Returned v) n = Ended t r l (Returned v) n

  -- statements that break no rule end well
  abbrev pub StatementsGo : (Stmt → Action Flow) → (Stmt → Sure Flow) → Type 0
  StatementsGo run strict = (t : Option ℕ) (r : ExprType) (l : List NamedType) (st : Stmt) → (ruled st).broken (s t r l) ≡ [] → (m : Machine)
      → MachineFits w (s t r l) m
      → Went w Flow (Done t r l ((ruled st).declares schema.classes)) m (run st m).0 (run st m).1 (strict st m)

  module _ (run : Stmt → Action Flow) (strict : Stmt → Sure Flow) (each : StatementsGo run strict) (t : Option ℕ) (r : ExprType) where
    further : (l ds : List NamedType) (flow : Flow) (n : Machine) → Ended t r (l ++ ds) flow n → Ended t r l flow n
    further l ds flow n h =
        (ds ++ h.0, subst (λ (k : List NamedType). MachineFits w (s t r k) n × FlowFits (seen w n) r flow) (append_assoc l ds h.0) h.1)

    goes_on : (p : Action Flow) (q : Sure Flow) (l ds : List NamedType) (n : Machine)
        → (MachineFits w (s t r (l ++ ds)) n → Went w Flow (Ended t r (l ++ ds)) n (p n).0 (p n).1 (q n)) → (flow : Flow) → Done t r l ds flow n
        → Went w Flow (Ended t r l) n (unless_returned flow p n).0 (unless_returned flow p n).1 (strict_unless_returned flow q n)
    goes_on p q l ds n next Next good = weaker w (Ended t r (l ++ ds)) (Ended t r l) n _ _ _ (next good) (λ flow h. further l ds flow _ h)
    goes_on p q l ds n next (Returned v) good = good_value w (Ended t r l) n (Returned v) good

    order_goes : (ss : List Stmt) (l : List NamedType) (m : Machine) → in_turn (map ruled ss) (s t r l) ≡ [] → MachineFits w (s t r l) m
        → Went w Flow (Ended t r l) m (in_order run ss m).0 (in_order run ss m).1 (strict_in_order strict ss m)
    order_goes [] l m ok h = good_value w (Ended t r l) m Next ([], (rw (append-nil l) h, tt))
    order_goes (st ∷ ss) l m ok h =
        let ds = (ruled st).declares schema.classes in
        let p = nothing ((ruled st).broken (s t r l)) (in_turn (map ruled ss) (s t r (l ++ ds))) ok in
        let n = (run st m).1 in
        on w (Done t r l ds) (Ended t r l) m n (run st m).0 _ (strict st m) _ (each t r l st p.0 m h)
        (λ flow good keeps. goes_on (in_order run ss) (strict_in_order strict ss) l ds n (λ fit. order_goes ss (l ++ ds) n p.1 fit) flow good)

  pub block_goes : (run : Stmt → Action Flow) (strict : Stmt → Sure Flow) → StatementsGo run strict
      → BlocksGo schema repos at_hand (block_of run) (strict_block strict)
  unfolding block_of strict_block seen
  block_goes run strict each t r l ss ok m h =
      let n = (in_order run ss m).1 in
      on w (Ended t r l) (FlowGood schema repos at_hand (s t r l)) m n (in_order run ss m).0 _ (strict_in_order strict ss m) _
      (order_goes run strict each t r ss l m ok h)
      (λ flow good keeps.
      let back = record n { locals = take (length m.locals) n.locals } in
      gives w (FlowGood schema repos at_hand (s t r l)) n back flow (λ x d e. e) (λ e. e, λ e. e) (
        record {
          objects = good.1.0.objects;
          this = good.1.0.this;
          locals = cut (seen w n) l good.0 m.locals n.locals (locals_keep (seen w m) (seen w n) keeps l m.locals h.locals) good.1.0.locals;
          names = good.1.0.names;
        },
        good.1.1,
      ))

module _ (schema : Schema) (repos : ℕ) (sound : (c : ℕ) (d : Class) → slice_get schema.classes c ≡ Some d → ClassSound schema repos c d)
    (at_hand : Oref → Option Object)
    (v : Expr → Action Value) (u : Expr → Sure Value) (b : List Stmt → Action Flow) (d : List Stmt → Sure Flow)
    (values : ValuesGo schema repos at_hand v u) (blocks : BlocksGo schema repos at_hand b d) where
  abbrev world : World
  world = over schema at_hand

  module _ (t : Option ℕ) (r : ExprType) (l : List NamedType) where
    abbrev here : Sight
    here = sight_of schema repos t r l

    abbrev Valued : ExprType → Value → Machine → Type 0
    Valued k = ValueGood schema repos at_hand here k

    abbrev Flows : Flow → Machine → Type 0
    Flows = FlowGood schema repos at_hand here

    abbrev Ends : List NamedType → Flow → Machine → Type 0
    Ends ds = Done schema repos at_hand t r l ds

    -- a block's end is that of a statement which declares nothing
    block_ends : (flow : Flow) (n : Machine) → Flows flow n → Ends [] flow n
    block_ends Next n h = rw (append-nil l) h.0
    block_ends (Returned u) n h = ([], rw (append-nil l) h)

    ends : (n : Machine) → MachineFits world here n → Ends [] Next n
    ends n h = rw (append-nil l) h

    -- a step, and then the value of an expression
    abbrev strict_first : Expr → Sure Value
    strict_first e = λ m. onward (Some (step m)) (λ x. u e)

    first_value : (e : Expr) (place : Position) (m : Machine) → (judged here e).broken place ≡ [] → MachineFits world here m
        → Went world Value (Valued (judged here e).kind) m ((step >> v e) m).0 ((step >> v e) m).1 (strict_first e m)
    first_value e place m ok h =
        on world (Fits world here) (Valued (judged here e).kind) m (step m).1 (step m).0 _ (Some (step m)) _ (steps world here m h)
        (λ x fit keeps. values t r l e place ok (step m).1 fit)

    either_goes : (c : Bool) (p q : Action Flow) (x y : Sure Flow) (m : Machine) → Went world Flow Flows m (p m).0 (p m).1 (x m)
        → Went world Flow Flows m (q m).0 (q m).1 (y m)
        → Went world Flow Flows m (cond c p q m).0 (cond c p q m).1 (cond c x y m)
    either_goes true p q x y m h k = h
    either_goes false p q x y m h k = k

    -- a branch of which the condition is a number
    branch_goes : (e : Expr) (a : Value) (p q : Action Flow) (x y : Sure Flow) (n : Machine) → must_be_number here e ≡ []
        → ValueFits (seen world n) (judged here e).kind a
        → Went world Flow Flows n (p n).0 (p n).1 (x n) → Went world Flow Flows n (q n).0 (q n).1 (y n)
        → Went world Flow Flows n (cond (holds a) p q n).0 (cond (holds a) p q n).1 (only_if (is_int a) (cond (holds a) x y) n)
    branch_goes e a p q x y n ok fit h k =
        let o = nothing ((judged here e).broken AsValue) (must (is_number (judged here e).kind) T3 (line_of e)) ok in
        where_so world Flows (is_int a) (cond (holds a) x y) n _ _ (number_so (seen world n) (judged here e).kind a (held _ _ _ o.1) fit)
        (either_goes (holds a) p q x y n h k)

    unless_goes : (flow : Flow) (p : Action Flow) (q : Sure Flow) (n : Machine)
        → (MachineFits world here n → Went world Flow Flows n (p n).0 (p n).1 (q n)) → Flows flow n
        → Went world Flow Flows n (unless_returned flow p n).0 (unless_returned flow p n).1 (strict_unless_returned flow q n)
    unless_goes Next p q n next h = next h.0
    unless_goes (Returned a) p q n next h = good_value world Flows n (Returned a) h

    next_goes : (n : Machine) → MachineFits world here n → Went world Flow Flows n (Ok Next) n (Some (Ok Next, n))
    next_goes n h = good_value world Flows n Next (h, tt)

    unbroken_number : (e : Expr) → must_be_number here e ≡ [] → (judged here e).broken AsValue ≡ []
    unbroken_number e ok = (nothing ((judged here e).broken AsValue) (must (is_number (judged here e).kind) T3 (line_of e)) ok).0

    repeat_goes : (turns : ℕ) (c : Expr) (body : List Stmt) (m : Machine) → must_be_number here c ≡ [] → block_rules here body ≡ []
        → MachineFits world here m
        → Went world Flow Flows m (repeat world v b turns c body m).0 (repeat world v b turns c body m).1 (strict_repeat world u d turns c body m)
    unfolding repeat strict_repeat
    repeat_goes zero c body m ok inner h = faults world Flows m fault.Steps
    repeat_goes (suc turns) c body m ok inner h =
        let n = ((step >> v c) m).1 in
        let again = repeat world v b turns c body in
        let strict_again = strict_repeat world u d turns c body in
        on world (Valued (judged here c).kind) Flows m n ((step >> v c) m).0 _ (strict_first c m) _ (first_value c AsValue m (unbroken_number c ok) h)
        (λ a good keeps. branch_goes c a (b body >>= (λ flow. unless_returned flow again)) (pure Next)
        (λ q. onward (d body q) (λ flow. strict_unless_returned flow strict_again)) (λ q. Some (Ok Next, q)) n ok good.1
        (on world Flows Flows n (b body n).1 (b body n).0 _ (d body n) _ (blocks t r l body inner n good.0)
        (λ flow end more. unless_goes flow again strict_again (b body n).1 (λ fit. repeat_goes turns c body (b body n).1 ok inner fit) end))
        (next_goes n good.0))

    -- what a statement does behind its expression
    behind : (e : Expr) (place : Position) (ds : List NamedType) (k : Value → Action Flow) (x : Value → Sure Flow) (m : Machine)
        → (judged here e).broken place ≡ [] → MachineFits world here m
        → ((a : Value) (n : Machine) → MachineFits world here n → ValueFits (seen world n) (judged here e).kind a
        → Went world Flow (Ends ds) n (k a n).0 (k a n).1 (x a n))
        → Went world Flow (Ends ds) m ((step >> v e >>= k) m).0 ((step >> v e >>= k) m).1 (onward (strict_first e m) x)
    behind e place ds k x m ok h next =
        on world (Valued (judged here e).kind) (Ends ds) m ((step >> v e) m).1 ((step >> v e) m).0 k (strict_first e m) x
        (first_value e place m ok h) (λ a good keeps. next a ((step >> v e) m).1 good.0 good.1)

    as_end : (m n : Machine) (o : Result Flow Stop) (x : Option (Result Flow Stop × Machine)) → Went world Flow Flows m o n x
        → Went world Flow (Ends []) m o n x
    as_end m n o x h = weaker world Flows (Ends []) m n o x h (λ flow good. block_ends flow n good)

    declared_goes : (type_name : TypeName) (name : Name) (given : ExprType) (a : Value) (n : Machine) → is_free_type schema.classes type_name ≡ []
        → fits (type_named schema.classes type_name) given ≡ true
        → MachineFits world here n → ValueFits (seen world n) given a
        → Went world Flow (Ends (record { name = name.text; kind = type_named schema.classes type_name } ∷ [])) n (Ok Next)
        (declare (type_named schema.classes type_name) name.text a n)
        (only_if (is_of (seen world n) (type_named schema.classes type_name) a)
        (λ q. Some (Ok Next, declare (type_named schema.classes type_name) name.text a q)) n)
    unfolding seen
    declared_goes type_name name given a n free suits h fit =
        let kind = type_named schema.classes type_name in
        let told = type_told schema.classes type_name (free_is_type schema.classes type_name free) in
        let seen_local : NamedType = record { name = name.text; kind = kind } in
        let good = value_suits (seen world n) kind given a told suits fit in
        where_so world (Ends (seen_local ∷ [])) _ (λ q. Some (Ok Next, declare kind name.text a q)) n _ _ (is_of_so (seen world n) kind a good)
        (gives world (Ends (seen_local ∷ [])) n (declare kind name.text a n) Next (λ x c e. e) (λ e. e, λ e. e)
        (record {
          objects = h.objects;
          this = h.this;
          locals = one_more_local (seen world n) l n.locals seen_local (record { name = name.text; kind = kind; value = a }) h.locals
              (record { name = refl; kind = refl; declared = told; value = good });
          names = h.names;
        }))

    assigned_goes : (name : Name) (o : Option NamedType) (given : ExprType) (line : ℕ) (a : Value) (n : Machine) → local_named l name.text ≡ o
        → assigned_fits o (root_named here name.text) name given line ≡ []
        → MachineFits world here n → ValueFits (seen world n) given a
        → Went world Flow (Ends []) n (Ok Next) (assign_local name.text a n)
        (only_if (writes_local world n name.text a) (λ q. Some (Ok Next, assign_local name.text a q)) n)
    unfolding seen
    assigned_goes name None given line a n is ok h fit = absurd (refused (root_named here name.text) ok)
      where
        refused : (o : Option RootDeclaration) → assigned_fits None o name given line ≡ [] → ⊥
        refused None ok = true≢false (sym (held false T2 name.line ok))
        refused (Some q) ok = true≢false (sym (held false T3 name.line ok))
    assigned_goes name (Some q) given line a n is ok h fit =
        let told = local_told (seen world n) name.text l n.locals q h.locals is in
        let good = value_suits (seen world n) q.kind given a told (held _ _ _ ok) fit in
        let there : option_map (λ (k : Local). k.kind) (find (λ (k : Local). bytes_eq k.name name.text) n.locals) ≡ Some q.kind =
        kinds_alike (seen world n) name.text l n.locals h.locals ∙ ap (option_map (λ (k : NamedType). k.kind)) is in
        let writes : writes_local world n name.text a ≡ true = rw there (is_of_so (seen world n) q.kind a good) in
        where_so world (Ends []) _ (λ x. Some (Ok Next, assign_local name.text a x)) n _ _ writes
        (gives world (Ends []) n (assign_local name.text a n) Next (λ x c e. e) (λ e. e, λ e. e)
        (ends (assign_local name.text a n) (record {
          objects = h.objects;
          this = h.this;
          locals = assigned_good (seen world n) name.text l n.locals q a h.locals is good;
          names = h.names;
        })))

    abbrev printed : Value → Machine → Machine
    printed a m = record m { printed = m.printed ++ printed_as a }

    printed_goes : (a : Value) (n : Machine) → (is_int a || is_text a) ≡ true → MachineFits world here n
        → Went world Flow (Ends []) n (Ok Next) (printed a n) (only_if (is_int a || is_text a) (λ q. Some (Ok Next, printed a q)) n)
    unfolding seen
    printed_goes a n is h =
        where_so world (Ends []) (is_int a || is_text a) (λ q. Some (Ok Next, printed a q)) n _ _ is
        (gives world (Ends []) n (printed a n) Next (λ x c e. e) (λ e. e, λ e. e)
        (ends (printed a n) (record { objects = h.objects; this = h.this; locals = h.locals; names = h.names })))

    -- the statement that an opened one is, with what a check says of the ones inside
    abbrev ruled_inside : Stmt-F Stmt → Stmt-F Ruled
    ruled_inside x = map-Stmt Stmt Ruled ruled x

    node_goes : (x : Stmt-F Stmt) (m : Machine) → broken_at (ruled_inside x) here ≡ [] → MachineFits world here m
        → Went world Flow (Ends (declares_at (ruled_inside x) schema.classes)) m (statement_at world v b x m).0 (statement_at world v b x m).1
        (strict_statement_at world u d x m)
    node_goes (Stmt-F.Var type_name name line e) m ok h =
        let kind = type_named schema.classes type_name in
        let p = nothing (is_free_type schema.classes type_name ++ (judged here e).broken AsValue)
        (must (fits kind (judged here e).kind) T3 line) ok in
        let q = nothing (is_free_type schema.classes type_name) ((judged here e).broken AsValue) p.0 in
        behind e AsValue _ _ _ m q.1 h (λ a n fit good. declared_goes type_name name (judged here e).kind a n q.0 (held _ _ _ p.1) fit good)
    node_goes (Stmt-F.Assign name line e) m ok h =
        let p = nothing ((judged here e).broken AsValue) (assigned_fits (local_named l name.text) (root_named here name.text) name
        (judged here e).kind line) ok in
        behind e AsValue [] _ _ m p.0 h (λ a n fit good. assigned_goes name (local_named l name.text) (judged here e).kind line a n refl p.1 fit good)
    node_goes (Stmt-F.FieldAssign field line e) m ok h =
        let kind = field_type (scope_of here) field.text in
        let owned = is_part schema.classes kind in
        let there = must (is_some (option_and_then (λ c. field_of schema.classes c field.text) t)) T2 field.line in
        let made = must (not owned || gives_part schema.classes kind (out-Expr e)) T6 field.line in
        let inner = (judged here e).broken (place_for owned) in
        let p = nothing (there ++ made ++ inner) (must (fits kind (judged here e).kind) T3 line) ok in
        let q = nothing (there ++ made) inner p.0 in
        let o = nothing there made q.0 in
        behind e (place_for owned) [] _ _ m q.1 h (λ a n fit good.
        let assigned =
        assign_goes schema repos sound at_hand t r l n field.text a (judged here e).kind fit (held _ _ _ o.0) (held _ _ _ p.1) good in
        let after = assign_field world field.text a n in
        where_so world (Ends []) (writes_field world n field.text a) (λ q. Some (Ok Next, assign_field world field.text a q)) n _ _
        (writes_so schema repos sound at_hand t r l n field.text a (judged here e).kind fit (held _ _ _ o.0) (held _ _ _ p.1) good)
        (on world (Fits world here) (Ends []) n after (Ok tt) (λ x. pure Next) (Some (Ok tt, after)) (λ x q. Some (Ok Next, q)) assigned
        (λ x fits more. good_value world (Ends []) after Next (ends after fits))))
    node_goes (Stmt-F.Return e) m ok h =
        let p = nothing ((judged here e).broken AsValue) (must (fits r (judged here e).kind) T3 (line_of e)) ok in
        behind e AsValue [] _ _ m p.0 h (λ a n fit good. good_value world (Ends []) n (Returned a)
        (block_ends (Returned a) n (fit, λ told. value_suits (seen world n) r (judged here e).kind a told (held _ _ _ p.1) good)))
    node_goes (Stmt-F.If condition body) m ok h =
        let p = nothing (must_be_number here condition) (block_rules here body) ok in
        behind condition AsValue [] _ _ m (unbroken_number condition p.0) h (λ a n fit good.
        as_end n _ _ _ (branch_goes condition a (b body) (pure Next) (d body) (λ q. Some (Ok Next, q)) n p.0 good
        (blocks t r l body p.1 n fit) (next_goes n fit)))
    node_goes (Stmt-F.IfElse condition body otherwise) m ok h =
        let o = nothing (must_be_number here condition ++ block_rules here body) (block_rules here otherwise) ok in
        let p = nothing (must_be_number here condition) (block_rules here body) o.0 in
        behind condition AsValue [] _ _ m (unbroken_number condition p.0) h (λ a n fit good.
        as_end n _ _ _ (branch_goes condition a (b body) (b otherwise) (d body) (d otherwise) n p.0 good (blocks t r l body p.1 n fit)
        (blocks t r l otherwise o.1 n fit)))
    node_goes (Stmt-F.While condition body) m ok h =
        let p = nothing (must_be_number here condition) (block_rules here body) ok in
        as_end m _ _ _ (repeat_goes 100001 condition body m p.0 p.1 h)
    node_goes (Stmt-F.Print e) m ok h =
        let p = nothing ((judged here e).broken AsValue) (must (is_printable (judged here e).kind) T3 (line_of e)) ok in
        behind e AsValue [] _ _ m p.0 h (λ a n fit good. printed_goes a n (printable_so (seen world n) (judged here e).kind a (held _ _ _ p.1) good) fit)
    node_goes (Stmt-F.Evaluate e) m ok h = behind e AsValue [] _ _ m ok h (λ a n fit good. good_value world (Ends []) n Next (ends n fit))

  -- a statement that breaks no rule ends well
  pub statement_goes : StatementsGo schema repos at_hand (statement world v b) (strict_statement world u d)
  unfolding statement strict_statement
  statement_goes t r l st ok m h =
      let k = ruled_out st in
      let went = node_goes t r l (out-Stmt st) m (ap (λ (j : Ruled). j.broken (sight_of schema repos t r l)) (sym k) ∙ ok) h in
      subst (λ (j : Ruled). Went world Flow (Done schema repos at_hand t r l (j.declares schema.classes)) m
      (statement_at world v b (out-Stmt st) m).0 (statement_at world v b (out-Stmt st) m).1 (strict_statement_at world u d (out-Stmt st) m))
      (sym k) went
