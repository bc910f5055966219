-- Statements, blocks and whole transactions of checked code tell the owners above what they need.
use Rattle.std.proofs.Common.{◌≡◌, true, false, map, List, [], ◌∷◌, ◌++◌, Option, Some, None, Result, Ok, refl, ap, sym, subst, ◌∙◌, ℕ, zero, suc, take, length, not}
use Rattle.std.specs.List.{AllByRecursion}
use Rattle.std.specs.Option.{option_and_then}
use Rattle.std.specs.Prelude.{is_some, slice_get, ◌||◌}
use Rattle.thor_value.specs.declared.names.Oref.{Oref}
use Rattle.thor_value.specs.declared.values.Fault.TheVariants as fault
use Rattle.thor_value.specs.declared.values.Value.{Value}
use Rattle.class_defs.proofs.KeptRules.{ClassSound, nothing}
use Rattle.class_defs.specs.ExpressionRules.{is_number, is_printable, judged, line_of}
use Rattle.class_defs.specs.Kinds.{printed_as}
use Rattle.class_defs.specs.Objects.{assign_field}
use Rattle.class_defs.specs.Rules.{Sight, fits, is_free_type, is_part, local_named, must, root_named, scope_of}
use Rattle.class_defs.specs.Run.{execute_all, meaning}
use Rattle.class_defs.specs.SchemaRules.{in_item}
use Rattle.class_defs.specs.StatementRules.{Ruled, assigned_fits, block_rules, broken_at, gives_part, in_turn, must_be_number, place_for, ruled}
use Rattle.class_defs.specs.Statements.{assign_local, block_of, declare, holds, in_order, repeat, statement, statement_at, unless_returned}
use Rattle.class_defs.specs.Steps.{Action, World, pure, step, ◌>>=◌, ◌>>◌}
use Rattle.class_defs.specs.Types.{field_of, field_type, type_named}
use Rattle.class_defs.specs.declared.classes.Class.{Class}
use Rattle.class_defs.specs.declared.expressions.Expr.{Expr, out-Expr}
use Rattle.class_defs.specs.declared.machine.Flow.{Flow}
use Rattle.class_defs.specs.declared.machine.Flow.TheVariants.{Next, Returned}
use Rattle.class_defs.specs.declared.machine.Machine.{Machine}
use Rattle.class_defs.specs.declared.machine.Stop.{Stop}
use Rattle.class_defs.specs.declared.rules.NamedType.{NamedType}
use Rattle.class_defs.specs.declared.rules.Position.{Position}
use Rattle.class_defs.specs.declared.rules.Position.TheVariants.{Value as AsValue}
use Rattle.class_defs.specs.declared.rules.Rule.TheVariants.{T2, T3, T6}
use Rattle.class_defs.specs.declared.statements.Stmt.{Stmt, map-Stmt, out-Stmt}
use Rattle.class_defs.specs.declared.statements.Stmt.TheOpen.{Stmt-F}
use Rattle.class_defs.specs.declared.store.Object.{Object}
use Rattle.class_defs.specs.declared.store.RootDeclaration.{RootDeclaration}
use Rattle.class_defs.specs.declared.store.Schema.{Schema}
use Rattle.class_defs.specs.declared.types.ExprType.{ExprType}
use Rattle.class_defs.specs.declared.expressions.TypeName.TheVariants as type_name
use Rattle.law_eval.proofs.Above.{State, above_on, assign_this, choose, faults, gives, on, same_run, still, steps}
use Rattle.law_eval.proofs.AboveCalls.{BlocksTell, Owed, ValuesTell, alike_at, all, at_hand, blocks_over, expression_tells, parts_over, value_goes}
use Rattle.law_eval.proofs.EndsRun.{both as ends_at, block_goes as ends_blocks}
use Rattle.law_type_soundness.proofs.FitCalls.{sight_of}
use Rattle.law_type_soundness.proofs.FitRun.{both as typed_at}
use Rattle.law_type_soundness.proofs.FitStatements.{Done, ruled_out}
use Rattle.law_type_soundness.specs.Fits.{MachineFits}
use Rattle.law_encapsulation.proofs.Bodies.{declares_free, free_more}
use Rattle.law_encapsulation.proofs.Runs.{deep}
use Rattle.law_encapsulation.proofs.Steps.{Any, AreFree, GrowsTo, TidyAt}
use Rattle.law_frame.proofs.AlikeRun.{block_alike}

module _ (schema : Schema) (repos : ℕ) (sound : (c : ℕ) (d : Class) → slice_get schema.classes c ≡ Some d → ClassSound schema repos c d)
    (roots : AllByRecursion (λ (r : RootDeclaration). is_part schema.classes (type_named schema.classes (type_name.Class r.class)) ≡ false) schema.roots)
    (f g : Oref → Option Object) (agrees : (x : Oref) → is_some (f x) ≡ true → g x ≡ f x) where
  abbrev Held : Sight → Machine → Type 0
  Held s m = State schema repos f g s m

  abbrev Tells : {A : Type 0} → (A → Machine → Type 0) → Machine → Result A Stop → Machine → Type 0
  Tells Good m o n = Owed schema repos sound roots f g agrees Good m o n

  abbrev w : World
  w = at_hand schema repos sound roots f g agrees

  abbrev whole : World
  whole = all schema repos sound roots f g agrees

  -- statements that break no rule tell so
  abbrev StatementsTell : (Stmt → Action Flow) → Type 0
  StatementsTell run = (t : Option ℕ) (r : ExprType) (l : List NamedType) → AreFree schema repos g l → (st : Stmt) → (ruled st).broken (sight_of schema repos t r l) ≡ []
      → (m : Machine) → Held (sight_of schema repos t r l) m → Tells Any m (run st m).0 (run st m).1

  module _ (n : ℕ) where
    abbrev run : Stmt → Action Flow
    run = (meaning w n).execute

    abbrev over_all : Stmt → Action Flow
    over_all = (meaning whole n).execute

    module _ (t : Option ℕ) (r : ExprType) (l : List NamedType) (free : AreFree schema repos g l) where
      abbrev s : Sight
      s = sight_of schema repos t r l

      -- ---- a statement, and a block, behind which the run goes on

      record Found (fits : Flow → Machine → Type 0) (flow : Flow) (m q : Machine) : Type 0 where
        fit : fits flow q
        tidy : TidyAt schema repos g q
        grows : GrowsTo schema repos g m q

      moved_statement : (st : Stmt) (m : Machine) → (ruled st).broken s ≡ [] → Held s m → (run st m).0 ≡ Ok Next → (run st m).1.this ≡ m.this
          → Held (sight_of schema repos t r (l ++ (ruled st).declares schema.classes)) (run st m).1
      moved_statement st m ok h is this =
          let q = (run st m).1 in
          let went = (ends_at w n).statements st m h.known in
          let alike = (alike_at schema repos sound roots f g agrees n).statements st m h.made in
          let same : over_all st m ≡ ((run st m).0, q) = same_run schema repos f g agrees m q (run st m).0 (over_all st m) Next is alike (went.hand h.hand) in
          let end : (over_all st m).1 ≡ q = ap (λ (p : Result Flow Stop × Machine). p.1) same in
          let typed_went = (typed_at schema repos sound g n).statements t r l st ok m h.fits in
          let part_went = (deep schema repos sound roots g n).statements t r l free st ok m h.fits h.tidy in
          let there : Found (Done schema repos g t r l ((ruled st).declares schema.classes)) Next m (over_all st m).1 = record {
            fit = typed_went.good Next (ap (λ (p : Result Flow Stop × Machine). p.0) same ∙ is);
            tidy = part_went.tidy;
            grows = part_went.grows;
          } in
          let found = subst (Found (Done schema repos g t r l ((ruled st).declares schema.classes)) Next m) end there in
          record {
            fits = found.fit;
            tidy = found.tidy;
            hand = went.hand h.hand;
            known = went.sound Next is;
            made = alike.sound Next is;
            above = above_on schema repos f g m q this found.grows.made_more h.above;
          }

      moved_block : (ss : List Stmt) (m : Machine) → block_rules s ss ≡ [] → Held s m → (flow : Flow) → (block_of run ss m).0 ≡ Ok flow → (block_of run ss m).1.this ≡ m.this → Held s (block_of run ss m).1
      moved_block ss m ok h flow is this =
          let q = (block_of run ss m).1 in
          let went = ends_blocks w run (ends_at w n).statements ss m h.known in
          let alike = block_alike f g run over_all (alike_at schema repos sound roots f g agrees n).statements ss m h.made in
          let same : block_of over_all ss m ≡ ((block_of run ss m).0, q) = same_run schema repos f g agrees m q (block_of run ss m).0 (block_of over_all ss m) flow is alike (went.hand h.hand) in
          let end : (block_of over_all ss m).1 ≡ q = ap (λ (p : Result Flow Stop × Machine). p.1) same in
          let typed_went = blocks_over schema repos sound roots f g agrees n t r l ss ok m h.fits in
          let part_went = parts_over schema repos sound roots f g agrees n t r l free ss ok m h.fits h.tidy in
          let there : Found (λ x p. MachineFits whole s p) flow m (block_of over_all ss m).1 = record {
            fit = (typed_went.good flow (ap (λ (p : Result Flow Stop × Machine). p.0) same ∙ is)).0;
            tidy = part_went.tidy;
            grows = part_went.grows;
          } in
          let found = subst (Found (λ x p. MachineFits whole s p) flow m) end there in
          record {
            fits = found.fit;
            tidy = found.tidy;
            hand = went.hand h.hand;
            known = went.sound flow is;
            made = alike.sound flow is;
            above = above_on schema repos f g m q this found.grows.made_more h.above;
          }

    -- ---- blocks

    module _ (each : StatementsTell run) (t : Option ℕ) (r : ExprType) where
      order_tells : (ss : List Stmt) (l : List NamedType) → AreFree schema repos g l → (m : Machine) → in_turn (map ruled ss) (sight_of schema repos t r l) ≡ [] → Held (sight_of schema repos t r l) m
          → Tells Any m (in_order run ss m).0 (in_order run ss m).1
      order_tells [] l free m ok h = still schema repos f g Any m Next tt
      order_tells (st ∷ ss) l free m ok h =
          let ds = (ruled st).declares schema.classes in
          let p = nothing ((ruled st).broken (sight_of schema repos t r l)) (in_turn (map ruled ss) (sight_of schema repos t r (l ++ ds))) ok in
          let q = (run st m).1 in
          on schema repos f g Any Any m q (run st m).0 _ (each t r l free st p.0 m h)
          (λ flow is good this. goes_on flow q (λ e. order_tells ss (l ++ ds) (free_more schema repos g l ds free (declares_free schema repos g st t r l p.0)) q p.1 (moved_statement t r l free st m p.0 h (is ∙ ap Ok e) this)))
        where
          goes_on : (flow : Flow) (q : Machine) → (flow ≡ Next → Tells Any q (in_order run ss q).0 (in_order run ss q).1)
              → Tells Any q (unless_returned flow (in_order run ss) q).0 (unless_returned flow (in_order run ss) q).1
          goes_on Next q next = next refl
          goes_on (Returned v) q next = still schema repos f g Any q (Returned v) tt

    pub block_tells : StatementsTell run → BlocksTell schema repos sound roots f g agrees (block_of run)
    unfolding block_of
    block_tells each t r l free ss ok m h =
        let q = (in_order run ss m).1 in
        on schema repos f g Any Any m q (in_order run ss m).0 _ (order_tells each t r ss l free m ok h)
        (λ flow is good this. gives schema repos f g Any q (record q { locals = take (length m.locals) q.locals }) flow refl tt)

    -- ---- statements

    module _ (values : ValuesTell schema repos sound roots f g agrees (meaning w n).value_of) (blocks : BlocksTell schema repos sound roots f g agrees (block_of run)) where
      abbrev v : Expr → Action Value
      v = (meaning w n).value_of

      abbrev b : List Stmt → Action Flow
      b = block_of run

      module _ (t : Option ℕ) (r : ExprType) (l : List NamedType) (free : AreFree schema repos g l) where
        abbrev here : Sight
        here = sight_of schema repos t r l

        -- the state behind a statement's expression
        abbrev Goes : Value → Machine → Type 0
        Goes a q = Held here q

        first_value : (e : Expr) (place : Position) (m : Machine) → (judged here e).broken place ≡ [] → Held here m → Tells Goes m ((step >> v e) m).0 ((step >> v e) m).1
        first_value e place m ok h =
            on schema repos f g (λ x q. Held here q) Goes m (step m).1 (step m).0 _ (steps schema repos f g here m h)
            (λ x is state this.
            let went = value_goes schema repos sound roots f g agrees n values blocks t r l free e place (step m).1 ok state in
            record { told = went.told; this = went.this; good = λ a e. (went.good a e).state })

        unbroken_number : (e : Expr) → must_be_number here e ≡ [] → (judged here e).broken AsValue ≡ []
        unbroken_number e ok = (nothing ((judged here e).broken AsValue) (must (is_number (judged here e).kind) T3 (line_of e)) ok).0

        -- what a statement does behind its expression
        behind : (e : Expr) (place : Position) (k : Value → Action Flow) (m : Machine) → (judged here e).broken place ≡ [] → Held here m
            → ((a : Value) (q : Machine) → Held here q → Tells Any q (k a q).0 (k a q).1) → Tells Any m ((step >> v e >>= k) m).0 ((step >> v e >>= k) m).1
        behind e place k m ok h next =
            on schema repos f g Goes Any m ((step >> v e) m).1 ((step >> v e) m).0 k (first_value e place m ok h) (λ a is good this. next a ((step >> v e) m).1 good)

        repeat_tells : (turns : ℕ) (c : Expr) (body : List Stmt) (m : Machine) → must_be_number here c ≡ [] → block_rules here body ≡ [] → Held here m
            → Tells Any m (repeat w v b turns c body m).0 (repeat w v b turns c body m).1
        unfolding repeat
        repeat_tells zero c body m ok inner h = faults schema repos f g Any m fault.Steps
        repeat_tells (suc turns) c body m ok inner h =
            let again = repeat w v b turns c body in
            behind c AsValue _ m (unbroken_number c ok) h
            (λ a q state. choose schema repos f g Any (holds a) (b body >>= (λ flow. unless_returned flow again)) (pure Next) q
            (on schema repos f g Any Any q (b body q).1 (b body q).0 _ (blocks t r l free body inner q state)
            (λ flow is good this. by flow (b body q).1 (repeat_tells turns c body (b body q).1 ok inner (moved_block t r l free body q inner state flow is this))))
            (still schema repos f g Any q Next tt))
          where
            by : (flow : Flow) (o : Machine) → Tells Any o (repeat w v b turns c body o).0 (repeat w v b turns c body o).1
                → Tells Any o (unless_returned flow (repeat w v b turns c body) o).0 (unless_returned flow (repeat w v b turns c body) o).1
            by Next o h = h
            by (Returned a) o h = still schema repos f g Any o (Returned a) tt

        node_tells : (x : Stmt-F Stmt) (m : Machine) → broken_at (map-Stmt Stmt Ruled ruled x) here ≡ [] → Held here m
            → Tells Any m (statement_at w v b x m).0 (statement_at w v b x m).1
        node_tells (Stmt-F.Var type_name name line e) m ok h =
            let kind = type_named schema.classes type_name in
            let p = nothing (is_free_type schema.classes type_name ++ (judged here e).broken AsValue) (must (fits kind (judged here e).kind) T3 line) ok in
            let q = nothing (is_free_type schema.classes type_name) ((judged here e).broken AsValue) p.0 in
            behind e AsValue _ m q.1 h (λ a o state. gives schema repos f g Any o (declare kind name.text a o) Next refl tt)
        node_tells (Stmt-F.Assign name line e) m ok h =
            let p = nothing ((judged here e).broken AsValue) (assigned_fits (local_named l name.text) (root_named here name.text) name (judged here e).kind line) ok in
            behind e AsValue _ m p.0 h (λ a o state. gives schema repos f g Any o (assign_local name.text a o) Next refl tt)
        node_tells (Stmt-F.FieldAssign field line e) m ok h =
            let kind = field_type (scope_of here) field.text in
            let owned = is_part schema.classes kind in
            let there = must (is_some (option_and_then (λ c. field_of schema.classes c field.text) t)) T2 field.line in
            let made = must (not owned || gives_part schema.classes kind (out-Expr e)) T6 field.line in
            let inner = (judged here e).broken (place_for owned) in
            let p = nothing (there ++ made ++ inner) (must (fits kind (judged here e).kind) T3 line) ok in
            let q = nothing (there ++ made) inner p.0 in
            behind e (place_for owned) _ m q.1 h (λ a o state. gives schema repos f g Any o (assign_field w field.text a o) Next (assign_this schema repos f g field.text a o) tt)
        node_tells (Stmt-F.Return e) m ok h =
            let p = nothing ((judged here e).broken AsValue) (must (fits r (judged here e).kind) T3 (line_of e)) ok in
            behind e AsValue _ m p.0 h (λ a o state. still schema repos f g Any o (Returned a) tt)
        node_tells (Stmt-F.If condition body) m ok h =
            let p = nothing (must_be_number here condition) (block_rules here body) ok in
            behind condition AsValue _ m (unbroken_number condition p.0) h (λ a o state.
            choose schema repos f g Any (holds a) (b body) (pure Next) o (blocks t r l free body p.1 o state) (still schema repos f g Any o Next tt))
        node_tells (Stmt-F.IfElse condition body otherwise) m ok h =
            let o = nothing (must_be_number here condition ++ block_rules here body) (block_rules here otherwise) ok in
            let p = nothing (must_be_number here condition) (block_rules here body) o.0 in
            behind condition AsValue _ m (unbroken_number condition p.0) h (λ a q state.
            choose schema repos f g Any (holds a) (b body) (b otherwise) q (blocks t r l free body p.1 q state) (blocks t r l free otherwise o.1 q state))
        node_tells (Stmt-F.While condition body) m ok h =
            let p = nothing (must_be_number here condition) (block_rules here body) ok in
            repeat_tells 100001 condition body m p.0 p.1 h
        node_tells (Stmt-F.Print e) m ok h =
            let p = nothing ((judged here e).broken AsValue) (must (is_printable (judged here e).kind) T3 (line_of e)) ok in
            behind e AsValue _ m p.0 h (λ a o state. gives schema repos f g Any o (record o { printed = o.printed ++ printed_as a }) Next refl tt)
        node_tells (Stmt-F.Evaluate e) m ok h = behind e AsValue _ m ok h (λ a o state. still schema repos f g Any o Next tt)

      -- a statement that breaks no rule
      pub statement_tells : StatementsTell (statement w v b)
      unfolding statement
      statement_tells t r l free st ok m h =
          let k = ruled_out st in
          node_tells t r l free (out-Stmt st) m (ap (λ (j : Ruled). j.broken (sight_of schema repos t r l)) (sym k) ∙ ok) h

  -- ---- as deep as n

  record Both (n : ℕ) : Type 0 where
    values : ValuesTell schema repos sound roots f g agrees (meaning w n).value_of
    statements : StatementsTell (meaning w n).execute

  both : (n : ℕ) → Both n
  unfolding meaning
  both zero = record {
    values = λ t r l free e place ok m h. faults schema repos f g Any m fault.Steps;
    statements = λ t r l free st ok m h. faults schema repos f g Any m fault.Steps;
  }
  both (suc n) =
      let inner = both n in
      let blocks = block_tells n inner.statements in
      record {
        values = expression_tells schema repos sound roots f g agrees n inner.values blocks;
        statements = statement_tells n inner.values blocks;
      }

  -- a transaction that breaks no rule
  pub transaction_tells : (tx : List Stmt) → block_rules (in_item schema repos) tx ≡ [] → (m : Machine) → Held (in_item schema repos) m → Tells Any m (execute_all w tx m).0 (execute_all w tx m).1
  unfolding execute_all
  transaction_tells tx ok m h = block_tells 100001 (both 100001).statements None (in_item schema repos).result [] tt tx ok m h
