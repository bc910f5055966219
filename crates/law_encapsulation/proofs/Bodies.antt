-- Statements and blocks that break no rule give an owned field nothing but a new part.
use Rattle.class_defs.proofs.ActionWords.{over}
use Rattle.class_defs.proofs.KeptRules.{ClassSound, held, nothing}
use Rattle.class_defs.specs.ExpressionRules.{is_number, is_printable, judged, line_of}
use Rattle.class_defs.specs.Kinds.{printed_as}
use Rattle.class_defs.specs.Objects.{seen}
use Rattle.class_defs.specs.Rules.{Sight, fits, is_free_type, is_part, local_named, must, root_named, scope_of}
use Rattle.class_defs.specs.StatementRules.{Ruled, assigned_fits, block_rules, broken_at, declares_at, gives_part, in_turn, must_be_number, place_for, ruled}
use Rattle.class_defs.specs.Statements.{assign_local, block_of, declare, holds, in_order, repeat, statement, statement_at, unless_returned}
use Rattle.class_defs.specs.Steps.{Action, World, pure, step, ◌>>=◌, ◌>>◌}
use Rattle.class_defs.specs.Types.{field_of, field_type, type_named}
use Rattle.class_defs.specs.declared.classes.Class.{Class}
use Rattle.class_defs.specs.declared.expressions.Expr.{Expr, out-Expr}
use Rattle.class_defs.specs.declared.machine.Flow.TheVariants.{Next, Returned}
use Rattle.class_defs.specs.declared.machine.Flow.{Flow}
use Rattle.class_defs.specs.declared.machine.Machine.{Machine}
use Rattle.class_defs.specs.declared.machine.Stop.TheVariants as stop
use Rattle.class_defs.specs.declared.machine.Stop.{Stop}
use Rattle.class_defs.specs.declared.rules.NamedType.{NamedType}
use Rattle.class_defs.specs.declared.rules.Position.TheVariants.{Value as AsValue}
use Rattle.class_defs.specs.declared.rules.Position.{Position}
use Rattle.class_defs.specs.declared.rules.Rule.TheVariants.{T2, T3, T6}
use Rattle.class_defs.specs.declared.statements.Stmt.TheOpen.{Stmt-F}
use Rattle.class_defs.specs.declared.statements.Stmt.{Stmt, map-Stmt, out-Stmt}
use Rattle.class_defs.specs.declared.store.Object.{Object}
use Rattle.class_defs.specs.declared.store.Schema.{Schema}
use Rattle.class_defs.specs.declared.types.ExprType.TheVariants as type
use Rattle.class_defs.specs.declared.types.ExprType.{ExprType}
use Rattle.law_type_soundness.proofs.FitCalls.{BlocksGo as TypedBlocks, ValuesGo as TypedValues, sight_of}
use Rattle.law_type_soundness.proofs.FitObjects.{one_number}
use Rattle.law_type_soundness.proofs.FitStatements.{Done, StatementsGo as TypedStatements, ruled_out}
use Rattle.law_type_soundness.proofs.FitSteps.{steps as typed_steps}
use Rattle.law_type_soundness.specs.Fits.{MachineFits, ValueFits}
use Rattle.law_type_soundness.specs.Strict.{Sure}
use Rattle.law_encapsulation.proofs.Fields.{NewFor, assign_goes}
use Rattle.law_encapsulation.proofs.Steps.{Any, AreFree, BlocksGo, Goes, PartsGo, Placed, TidyAt, free_type, on, steps, still, stops}
use Rattle.law_encapsulation.proofs.Tidy.{grows_no}
use Rattle.std.proofs.Common.{Bool, List, [], ap, cond, false, map, not, refl, subst, sym, true, ℕ, zero, suc, ◌++◌, ◌≡◌, ◌∙◌, ◌∷◌}
use Rattle.std.proofs.lemmas.Bool.{both_ways}
use Rattle.std.specs.Option.{option_and_then}
use Rattle.std.specs.Prelude.{Ok, Option, Result, Some, is_some, slice_get, ◌||◌}
use Rattle.thor_value.specs.declared.names.Oref.{Oref}
use Rattle.thor_value.specs.declared.values.Fault.TheVariants as fault
use Rattle.thor_value.specs.declared.values.Value.TheVariants as value
use Rattle.thor_value.specs.declared.values.Value.{Value}

-- what fits a part class is of one
part_fits : (classes : List Class) (f : Oref → Option Object) (kind given : ExprType) (x : Oref) → fits kind given ≡ true → is_part classes kind ≡ true → ValueFits f given (value.Ref x) → is_part classes given ≡ true
part_fits classes f (type.Class c) (type.Class d) x h part fit = subst (λ j. is_part classes (type.Class j) ≡ true) (sym (one_number c d h)) part
part_fits classes f (type.Class c) type.Int x h part fit = absurd fit
part_fits classes f (type.Class c) type.Text x h part fit = absurd fit
part_fits classes f (type.Class c) type.Null x h part fit = absurd fit
part_fits classes f (type.Class c) type.Untold x h part fit = absurd fit
part_fits classes f type.Int given x h part fit = cc
part_fits classes f type.Text given x h part fit = cc
part_fits classes f type.Null given x h part fit = cc
part_fits classes f type.Untold given x h part fit = cc

module _ (schema : Schema) (repos : ℕ) (E : Oref → Option Object) where
  abbrev w : World
  w = over schema E

  abbrev s : Option ℕ → ExprType → List NamedType → Sight
  s t r l = sight_of schema repos t r l

  pub free_more : (l more : List NamedType) → AreFree schema repos E l → AreFree schema repos E more → AreFree schema repos E (l ++ more)
  free_more [] more h k = k
  free_more (n ∷ l) more h k = (h.0, free_more l more h.1 k)

  -- statements that break no rule go so
  abbrev pub StatementsGo : (Stmt → Action Flow) → Type 0
  StatementsGo run = (t : Option ℕ) (r : ExprType) (l : List NamedType) → AreFree schema repos E l → (st : Stmt) → (ruled st).broken (s t r l) ≡ [] → (m : Machine)
      → MachineFits w (s t r l) m → TidyAt schema repos E m → Goes schema repos E Any m (run st m).0 (run st m).1

  -- the locals that a statement declares are of no parts
  declared_free : (x : Stmt-F Stmt) (t : Option ℕ) (r : ExprType) (l : List NamedType) → broken_at (map-Stmt Stmt Ruled ruled x) (s t r l) ≡ [] → AreFree schema repos E (declares_at (map-Stmt Stmt Ruled ruled x) schema.classes)
  declared_free (Stmt-F.Var type_name name line e) t r l ok =
      let p = nothing (is_free_type schema.classes type_name ++ (judged (s t r l) e).broken AsValue)
      (must (fits (type_named schema.classes type_name) (judged (s t r l) e).kind) T3 line) ok in
      (free_type schema.classes type_name (nothing (is_free_type schema.classes type_name) ((judged (s t r l) e).broken AsValue) p.0).0, tt)
  declared_free (Stmt-F.Assign name line e) t r l ok = tt
  declared_free (Stmt-F.FieldAssign field line e) t r l ok = tt
  declared_free (Stmt-F.Return e) t r l ok = tt
  declared_free (Stmt-F.If condition body) t r l ok = tt
  declared_free (Stmt-F.IfElse condition body otherwise) t r l ok = tt
  declared_free (Stmt-F.While condition body) t r l ok = tt
  declared_free (Stmt-F.Print e) t r l ok = tt
  declared_free (Stmt-F.Evaluate e) t r l ok = tt

  pub declares_free : (st : Stmt) (t : Option ℕ) (r : ExprType) (l : List NamedType) → (ruled st).broken (s t r l) ≡ [] → AreFree schema repos E ((ruled st).declares schema.classes)
  declares_free st t r l ok =
      let k = ruled_out st in
      subst (λ (j : Ruled). AreFree schema repos E (j.declares schema.classes)) (sym k) (declared_free (out-Stmt st) t r l (ap (λ (j : Ruled). j.broken (s t r l)) (sym k) ∙ ok))

  module _ (run : Stmt → Action Flow) (strict : Stmt → Sure Flow) (typed : TypedStatements schema repos E run strict) (each : StatementsGo run) (t : Option ℕ) (r : ExprType) where
    goes_on : (p : Action Flow) (l ds : List NamedType) (n : Machine) → (MachineFits w (s t r (l ++ ds)) n → Goes schema repos E Any n (p n).0 (p n).1) → TidyAt schema repos E n → (flow : Flow) → Done schema repos E t r l ds flow n
        → Goes schema repos E Any n (unless_returned flow p n).0 (unless_returned flow p n).1
    goes_on p l ds n next tidy Next good = next good
    goes_on p l ds n next tidy (Returned v) good = still schema repos E Any n (Returned v) tidy tt

    order_goes : (ss : List Stmt) (l : List NamedType) → AreFree schema repos E l → (m : Machine) → in_turn (map ruled ss) (s t r l) ≡ [] → MachineFits w (s t r l) m → TidyAt schema repos E m
        → Goes schema repos E Any m (in_order run ss m).0 (in_order run ss m).1
    order_goes [] l free m ok h tidy = still schema repos E Any m Next tidy tt
    order_goes (st ∷ ss) l free m ok h tidy =
        let ds = (ruled st).declares schema.classes in
        let p = nothing ((ruled st).broken (s t r l)) (in_turn (map ruled ss) (s t r (l ++ ds))) ok in
        let n = (run st m).1 in
        on schema repos E Any Any m n (run st m).0 _ (each t r l free st p.0 m h tidy)
        (λ flow is good after grows. goes_on (in_order run ss) l ds n (λ fit. order_goes ss (l ++ ds) (free_more l ds free (declares_free st t r l p.0)) n p.1 fit after) after flow
        ((typed t r l st p.0 m h).good flow is))

  pub block_goes : (run : Stmt → Action Flow) (strict : Stmt → Sure Flow) → TypedStatements schema repos E run strict → StatementsGo run → BlocksGo schema repos E (block_of run)
  unfolding block_of
  block_goes run strict typed each t r l free ss ok m h tidy =
      let n = (in_order run ss m).1 in
      on schema repos E Any Any m n (in_order run ss m).0 _ (order_goes run strict typed each t r ss l free m ok h tidy)
      (λ flow is good after grows. record { tidy = after; grows = grows_no schema.classes E n.created n.reads; good = λ a e. tt })

module _ (schema : Schema) (repos : ℕ) (sound : (c : ℕ) (d : Class) → slice_get schema.classes c ≡ Some d → ClassSound schema repos c d)
    (E : Oref → Option Object)
    (v : Expr → Action Value) (u : Expr → Sure Value) (b : List Stmt → Action Flow) (d : List Stmt → Sure Flow)
    (values : TypedValues schema repos E v u) (blocks : TypedBlocks schema repos E b d)
    (parts : PartsGo schema repos E v) (tidies : BlocksGo schema repos E b) where
  abbrev world : World
  world = over schema E

  module _ (t : Option ℕ) (r : ExprType) (l : List NamedType) (free : AreFree schema repos E l) where
    abbrev here : Sight
    here = sight_of schema repos t r l

    abbrev Owed : {A : Type 0} → (A → Machine → Type 0) → Machine → Result A Stop → Machine → Type 0
    Owed Good m o n = Goes schema repos E Good m o n

    -- the value of a statement's expression, in a state that fits
    record First (e : Expr) (place : Position) (a : Value) (n : Machine) : Type 0 where
      fits : MachineFits world here n
      value : ValueFits (seen world n) (judged here e).kind a
      placed : Placed schema repos E place (judged here e).kind a n

    first_value : (e : Expr) (place : Position) (m : Machine) → (judged here e).broken place ≡ [] → MachineFits world here m → TidyAt schema repos E m
        → Owed (First e place) m ((step >> v e) m).0 ((step >> v e) m).1
    first_value e place m ok h tidy =
        on schema repos E Any (First e place) m (step m).1 (step m).0 _ (steps schema repos E m tidy)
        (λ x is good after grows.
        let n = (step m).1 in
        let fit = (typed_steps world here m h).good x is in
        let went = parts t r l free e place ok n fit after in
        let typed_went = values t r l e place ok n fit in
        record { tidy = went.tidy; grows = went.grows; good = λ a at. let g = typed_went.good a at in record { fits = g.0; value = g.1; placed = went.good a at } })

    either_goes : (c : Bool) (p q : Action Flow) (m : Machine) → Owed Any m (p m).0 (p m).1 → Owed Any m (q m).0 (q m).1 → Owed Any m (cond c p q m).0 (cond c p q m).1
    either_goes true p q m h k = h
    either_goes false p q m h k = k

    unless_goes : (flow : Flow) (p : Action Flow) (n : Machine) → Owed Any n (p n).0 (p n).1 → TidyAt schema repos E n → Owed Any n (unless_returned flow p n).0 (unless_returned flow p n).1
    unless_goes Next p n h tidy = h
    unless_goes (Returned a) p n h tidy = still schema repos E Any n (Returned a) tidy tt

    unbroken_number : (e : Expr) → must_be_number here e ≡ [] → (judged here e).broken AsValue ≡ []
    unbroken_number e ok = (nothing ((judged here e).broken AsValue) (must (is_number (judged here e).kind) T3 (line_of e)) ok).0

    repeat_goes : (turns : ℕ) (c : Expr) (body : List Stmt) (m : Machine) → must_be_number here c ≡ [] → block_rules here body ≡ []
        → MachineFits world here m → TidyAt schema repos E m → Owed Any m (repeat world v b turns c body m).0 (repeat world v b turns c body m).1
    unfolding repeat
    repeat_goes zero c body m ok inner h tidy = stops schema repos E Any m (stop.Fault fault.Steps) tidy
    repeat_goes (suc turns) c body m ok inner h tidy =
        let n = ((step >> v c) m).1 in
        let again = repeat world v b turns c body in
        on schema repos E (First c AsValue) Any m n ((step >> v c) m).0 _ (first_value c AsValue m (unbroken_number c ok) h tidy)
        (λ a is good after grows. either_goes (holds a) (b body >>= (λ flow. unless_returned flow again)) (pure Next) n
        (on schema repos E Any Any n (b body n).1 (b body n).0 _ (tidies t r l free body inner n good.fits after)
        (λ flow end any later more.
        let fit = ((blocks t r l body inner n good.fits).good flow end).0 in
        by flow (b body n).1 (repeat_goes turns c body (b body n).1 ok inner fit later) later))
        (still schema repos E Any n Next after tt))
      where
        by : (flow : Flow) (o : Machine) → Owed Any o (repeat world v b turns c body o).0 (repeat world v b turns c body o).1 → TidyAt schema repos E o
            → Owed Any o (unless_returned flow (repeat world v b turns c body) o).0 (unless_returned flow (repeat world v b turns c body) o).1
        by Next o h k = h
        by (Returned a) o h k = still schema repos E Any o (Returned a) k tt

    -- what a statement does behind its expression
    behind : (e : Expr) (place : Position) (k : Value → Action Flow) (m : Machine) → (judged here e).broken place ≡ [] → MachineFits world here m → TidyAt schema repos E m
        → ((a : Value) (n : Machine) → First e place a n → TidyAt schema repos E n → Owed Any n (k a n).0 (k a n).1) → Owed Any m ((step >> v e >>= k) m).0 ((step >> v e >>= k) m).1
    behind e place k m ok h tidy next =
        on schema repos E (First e place) Any m ((step >> v e) m).1 ((step >> v e) m).0 k (first_value e place m ok h tidy) (λ a is good after grows. next a ((step >> v e) m).1 good after)

    -- a change of what parts aren't told by
    goes_next : (n o : Machine) → TidyAt schema repos E o → n.created ≡ o.created → n.reads ≡ o.reads → Owed Any n (Ok Next) o
    goes_next n o tidy c e = record {
      tidy = tidy;
      grows = record { reads_more = λ x h. ap (λ z. Rattle.thor_value.specs.FiniteMap.has z x) (sym e) ∙ h; made_more = λ x h. ap (λ z. Rattle.law_encapsulation.proofs.Made.is_among z x) (sym c) ∙ h };
      good = λ a g. tt;
    }

    given_new : (owned : Bool) (e : Expr) (kind : ExprType) (a : Value) (n : Machine) → is_part schema.classes kind ≡ owned → fits kind (judged here e).kind ≡ true → First e (place_for owned) a n
        → is_part schema.classes kind ≡ true → NewFor schema repos E t r l a n
    given_new true e kind a n is suits good part = λ x at q this. good.placed x at (part_fits schema.classes (seen world n) kind (judged here e).kind x suits part (subst (λ (y : Value). ValueFits (seen world n) (judged here e).kind y) at good.value)) q this
    given_new false e kind a n is suits good part = absurd (both_ways (is_part schema.classes kind) is part)

    node_goes : (x : Stmt-F Stmt) (m : Machine) → broken_at (map-Stmt Stmt Ruled ruled x) here ≡ [] → MachineFits world here m → TidyAt schema repos E m
        → Owed Any m (statement_at world v b x m).0 (statement_at world v b x m).1
    node_goes (Stmt-F.Var type_name name line e) m ok h tidy =
        let kind = type_named schema.classes type_name in
        let p = nothing (is_free_type schema.classes type_name ++ (judged here e).broken AsValue) (must (fits kind (judged here e).kind) T3 line) ok in
        let q = nothing (is_free_type schema.classes type_name) ((judged here e).broken AsValue) p.0 in
        behind e AsValue _ m q.1 h tidy (λ a n good after. goes_next n (declare kind name.text a n) after refl refl)
    node_goes (Stmt-F.Assign name line e) m ok h tidy =
        let p = nothing ((judged here e).broken AsValue) (assigned_fits (local_named l name.text) (root_named here name.text) name (judged here e).kind line) ok in
        behind e AsValue _ m p.0 h tidy (λ a n good after. goes_next n (assign_local name.text a n) after refl refl)
    node_goes (Stmt-F.FieldAssign field line e) m ok h tidy =
        let kind = field_type (scope_of here) field.text in
        let owned = is_part schema.classes kind in
        let there = must (is_some (option_and_then (λ c. field_of schema.classes c field.text) t)) T2 field.line in
        let made = must (not owned || gives_part schema.classes kind (out-Expr e)) T6 field.line in
        let inner = (judged here e).broken (place_for owned) in
        let p = nothing (there ++ made ++ inner) (must (fits kind (judged here e).kind) T3 line) ok in
        let q = nothing (there ++ made) inner p.0 in
        let o = nothing there made q.0 in
        behind e (place_for owned) _ m q.1 h tidy (λ a n good after.
        let went = assign_goes schema repos E t r l n field.text a good.fits after (held _ _ _ o.0) (given_new owned e kind a n refl (held _ _ _ p.1) good) in
        record { tidy = went.tidy; grows = went.grows; good = λ x g. tt })
    node_goes (Stmt-F.Return e) m ok h tidy =
        let p = nothing ((judged here e).broken AsValue) (must (fits r (judged here e).kind) T3 (line_of e)) ok in
        behind e AsValue _ m p.0 h tidy (λ a n good after. still schema repos E Any n (Returned a) after tt)
    node_goes (Stmt-F.If condition body) m ok h tidy =
        let p = nothing (must_be_number here condition) (block_rules here body) ok in
        behind condition AsValue _ m (unbroken_number condition p.0) h tidy (λ a n good after.
        either_goes (holds a) (b body) (pure Next) n (tidies t r l free body p.1 n good.fits after) (still schema repos E Any n Next after tt))
    node_goes (Stmt-F.IfElse condition body otherwise) m ok h tidy =
        let o = nothing (must_be_number here condition ++ block_rules here body) (block_rules here otherwise) ok in
        let p = nothing (must_be_number here condition) (block_rules here body) o.0 in
        behind condition AsValue _ m (unbroken_number condition p.0) h tidy (λ a n good after.
        either_goes (holds a) (b body) (b otherwise) n (tidies t r l free body p.1 n good.fits after) (tidies t r l free otherwise o.1 n good.fits after))
    node_goes (Stmt-F.While condition body) m ok h tidy =
        let p = nothing (must_be_number here condition) (block_rules here body) ok in
        repeat_goes 100001 condition body m p.0 p.1 h tidy
    node_goes (Stmt-F.Print e) m ok h tidy =
        let p = nothing ((judged here e).broken AsValue) (must (is_printable (judged here e).kind) T3 (line_of e)) ok in
        behind e AsValue _ m p.0 h tidy (λ a n good after. goes_next n (record n { printed = n.printed ++ printed_as a }) after refl refl)
    node_goes (Stmt-F.Evaluate e) m ok h tidy = behind e AsValue _ m ok h tidy (λ a n good after. still schema repos E Any n Next after tt)

  -- a statement that breaks no rule
  pub statement_goes : StatementsGo schema repos E (statement world v b)
  unfolding statement
  statement_goes t r l free st ok m h tidy =
      let k = ruled_out st in
      node_goes t r l free (out-Stmt st) m (ap (λ (j : Ruled). j.broken (sight_of schema repos t r l)) (sym k) ∙ ok) h tidy
