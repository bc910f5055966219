-- Calls and expressions of checked code tell the owners above what they need, where their parts and the bodies of methods do.
use Rattle.std.proofs.Common.{◌≡◌, ◌⊎◌, Bool, true, false, cond, map, List, [], ◌∷◌, ◌++◌, Option, Some, None, Result, Ok, Err, refl, ap, sym, subst, ◌∙◌, ℕ, zero, suc, append-nil, append_assoc, arith, inl, inr, length}
use Rattle.std.proofs.lemmas.Bool.{both_ways, or_right}
use Rattle.std.specs.List.{AllByRecursion}
use Rattle.std.specs.Prelude.{find, is_some, nat_lt, option_map, slice_get, ◌+◌, ◌==◌, ◌||◌}
use Rattle.thor_value.specs.FiniteMap.{has, insert, len}
use Rattle.thor_value.specs.Names.{same_oref}
use Rattle.thor_value.specs.declared.names.Oref.{Oref}
use Rattle.thor_value.specs.declared.values.Fault.TheVariants as fault
use Rattle.thor_value.specs.declared.values.Value.{Value}
use Rattle.thor_value.specs.declared.values.Value.TheVariants as value
use Rattle.class_defs.proofs.KeptRules.{ClassSound, MethodSound, held, nothing}
use Rattle.class_defs.proofs.SameNames.{one_name, same_itself}
use Rattle.class_defs.specs.Calls.{bound, call, call_object, enter, enter_as, owners_at, owners_by_kind, result_of, run_body}
use Rattle.class_defs.specs.ExpressionRules.{Judged, arguments_rules, beside, broken_at, call_rules, called_rules, is_number, judged, method_called, parameters_of, takes}
use Rattle.class_defs.specs.Expressions.{combined, expression, this_value, value_at, values_from, values_of}
use Rattle.class_defs.specs.Kinds.{literal_value}
use Rattle.class_defs.specs.Objects.{class_found, first_of, field_value, named_value, scope_at, seen, touch}
use Rattle.class_defs.specs.Rules.{Sight, is_part, is_part_kind, must}
use Rattle.class_defs.specs.Run.{meaning}
use Rattle.class_defs.specs.SchemaRules.{in_method, parameter_named}
use Rattle.class_defs.specs.StatementRules.{block_rules}
use Rattle.class_defs.specs.Statements.{block_of}
use Rattle.class_defs.specs.Steps.{Action, World, after, step}
use Rattle.class_defs.specs.Types.{method_of, type_named, type_of}
use Rattle.class_defs.specs.declared.classes.Class.{Class}
use Rattle.class_defs.specs.declared.classes.ClassKind.{ClassKind}
use Rattle.class_defs.specs.declared.classes.ClassKind.TheVariants.{Free, Part}
use Rattle.class_defs.specs.declared.classes.Method.{Method}
use Rattle.class_defs.specs.declared.expressions.Expr.{Expr, map-Expr, out-Expr}
use Rattle.class_defs.specs.declared.expressions.Expr.TheOpen.{Expr-F}
use Rattle.class_defs.specs.declared.expressions.Name.{Name}
use Rattle.class_defs.specs.declared.limits.TheConstants.{DEPTH_LIMIT, READ_LIMIT}
use Rattle.class_defs.specs.declared.machine.Flow.{Flow}
use Rattle.class_defs.specs.declared.machine.Machine.{Machine}
use Rattle.class_defs.specs.declared.machine.Receiver.{Receiver}
use Rattle.class_defs.specs.declared.machine.Stop.{Stop}
use Rattle.class_defs.specs.declared.machine.Stop.TheVariants as stop
use Rattle.class_defs.specs.declared.rules.NamedType.{NamedType}
use Rattle.class_defs.specs.declared.rules.Position.{Position}
use Rattle.class_defs.specs.declared.rules.Position.TheVariants.{Receiver as AsReceiver, Value as AsValue}
use Rattle.class_defs.specs.declared.rules.Rule.TheVariants.{T3}
use Rattle.class_defs.specs.declared.statements.Stmt.{Stmt}
use Rattle.class_defs.specs.declared.store.Object.{Object}
use Rattle.class_defs.specs.declared.store.RootDeclaration.{RootDeclaration}
use Rattle.class_defs.specs.declared.store.Schema.{Schema}
use Rattle.class_defs.specs.declared.types.ExprType.{ExprType}
use Rattle.class_defs.specs.declared.types.ExprType.TheVariants as type
use Rattle.class_defs.specs.declared.expressions.TypeName.TheVariants as type_name
use Rattle.law_eval.proofs.Above.{AreAbove, State, Tells, above_on, choose, create_tells, faults, gives, here, on, same_run, same_stop, still, steps, whole}
use Rattle.law_eval.proofs.Ends.{AllKnown, all_grow, known as is_known_here}
use Rattle.law_eval.proofs.EndsCalls.{owners_known}
use Rattle.law_eval.proofs.EndsObjects.{touch_goes as ends_touch}
use Rattle.law_eval.proofs.EndsRun.{Both as Ends, both as ends_at, block_goes as ends_blocks}
use Rattle.law_type_soundness.proofs.FitActions.{touch_goes as typed_touch}
use Rattle.law_type_soundness.proofs.FitArguments.{ArgumentsFit, Unbroken, ValuesFit, arguments_fit, bound_fits, kinds, one_more_fits, unbroken, values_keep}
use Rattle.law_type_soundness.proofs.FitCalls.{BlocksGo as TypedBlocks, sight_of}
use Rattle.law_type_soundness.proofs.FitKinds.{judged_out, kind_is, scope_is}
use Rattle.law_type_soundness.proofs.FitObjects.{one_number}
use Rattle.law_type_soundness.proofs.FitRun.{Both as Typed, both as typed_at}
use Rattle.law_type_soundness.proofs.FitStatements.{block_goes as typed_block}
use Rattle.law_type_soundness.proofs.FitValues.{Keeps, value_keeps}
use Rattle.law_type_soundness.specs.Fits.{MachineFits, ValueFits, class_of}
use Rattle.law_type_soundness.specs.Strict.{strict_block, strict_meaning}
use Rattle.law_encapsulation.proofs.Bodies.{block_goes as part_block}
use Rattle.law_encapsulation.proofs.Made.{is_among}
use Rattle.law_encapsulation.proofs.Runs.{Deep, deep}
use Rattle.law_encapsulation.proofs.Steps.{Any, AreFree, BlocksGo, GrowsTo, Held, Placed, TidyAt, touch_goes as part_touch}
use Rattle.law_encapsulation.proofs.Tidy.{CanReach, can_more, grows_no, grows_then, is_known, tidy_this}
use Rattle.law_encapsulation.proofs.Walk.{parameters_free, receiver_held as receiver_over, receiver_reached, sound_method}
use Rattle.law_encapsulation.specs.Owning.{OwnsIn}
use Rattle.law_frame.proofs.Alike.{known as is_alike_known}
use Rattle.law_frame.proofs.AlikeCalls.{expression_alike}
use Rattle.law_frame.proofs.AlikeObjects.{touch_alike, touch_known as alike_touched}
use Rattle.law_frame.proofs.AlikeRun.{block_alike, statement_alike}
use Rattle.law_frame.proofs.AlikeSteps.{Alike, failing}

module _ (schema : Schema) (repos : ℕ) (sound : (c : ℕ) (d : Class) → slice_get schema.classes c ≡ Some d → ClassSound schema repos c d)
    (roots : AllByRecursion (λ (r : RootDeclaration). is_part schema.classes (type_named schema.classes (type_name.Class r.class)) ≡ false) schema.roots)
    (f g : Oref → Option Object) (agrees : (x : Oref) → is_some (f x) ≡ true → g x ≡ f x) where
  abbrev pub In : Sight → Machine → Type 0
  In s m = State schema repos f g s m

  abbrev pub Owed : {A : Type 0} → (A → Machine → Type 0) → Machine → Result A Stop → Machine → Type 0
  Owed Good m r n = Tells schema repos f g Good m r n

  abbrev pub at_hand : World
  at_hand = here schema repos f g

  abbrev pub all : World
  all = whole schema repos f g

  -- expressions that break no rule tell so
  abbrev pub ValuesTell : (Expr → Action Value) → Type 0
  ValuesTell v = (t : Option ℕ) (r : ExprType) (l : List NamedType) → AreFree schema repos g l → (e : Expr) (place : Position)
      → (judged (sight_of schema repos t r l) e).broken place ≡ [] → (m : Machine) → In (sight_of schema repos t r l) m → Owed Any m (v e m).0 (v e m).1

  -- and blocks
  abbrev pub BlocksTell : (List Stmt → Action Flow) → Type 0
  BlocksTell b = (t : Option ℕ) (r : ExprType) (l : List NamedType) → AreFree schema repos g l → (ss : List Stmt) → block_rules (sight_of schema repos t r l) ss ≡ []
      → (m : Machine) → In (sight_of schema repos t r l) m → Owed Any m (b ss m).0 (b ss m).1

  -- ---- the same over both, as deep as n

  pub record Both (n : ℕ) : Type 0 where
    pub values : (e : Expr) → Alike f g ((meaning at_hand n).value_of e) ((meaning all n).value_of e)
    pub statements : (st : Stmt) → Alike f g ((meaning at_hand n).execute st) ((meaning all n).execute st)

  pub alike_at : (n : ℕ) → Both n
  unfolding meaning
  alike_at zero = record { values = λ e. failing f g (stop.Fault fault.Steps); statements = λ st. failing f g (stop.Fault fault.Steps) }
  alike_at (suc n) =
      let inner = alike_at n in
      let blocks = block_alike f g (meaning at_hand n).execute (meaning all n).execute inner.statements in
      record {
        values = expression_alike schema f g _ _ _ _ inner.values blocks;
        statements = statement_alike schema f g _ _ _ _ inner.values blocks;
      }

  pub blocks_over : (n : ℕ) → TypedBlocks schema repos g (block_of (meaning all n).execute) (strict_block (strict_meaning all n).execute)
  blocks_over n = typed_block schema repos g (meaning all n).execute (strict_meaning all n).execute (typed_at schema repos sound g n).statements

  pub parts_over : (n : ℕ) → BlocksGo schema repos g (block_of (meaning all n).execute)
  parts_over n =
      part_block schema repos g (meaning all n).execute (strict_meaning all n).execute (typed_at schema repos sound g n).statements
      (deep schema repos sound roots g n).statements

  -- a receiver that is a part
  receiver_held : (n : ℕ) (t : Option ℕ) (r : ExprType) (l : List NamedType) → AreFree schema repos g l → (e : Expr) (m : Machine) → (judged (sight_of schema repos t r l) e).broken AsReceiver ≡ []
      → MachineFits all (sight_of schema repos t r l) m → TidyAt schema repos g m → is_part schema.classes (judged (sight_of schema repos t r l) e).kind ≡ true
      → (a : Value) → ((meaning all n).value_of e m).0 ≡ Ok a → (z : Oref) → a ≡ value.Ref z → Held schema repos g m ((meaning all n).value_of e m).1 z
  unfolding meaning
  receiver_held zero t r l free e m ok h tidy part a is z same = cc
  receiver_held (suc n) t r l free e m ok h tidy part a is z same =
      receiver_over schema repos sound roots g _ _ _ _ (typed_at schema repos sound g n).values (blocks_over n) (deep schema repos sound roots g n).parts (parts_over n)
      t r l free e m ok h tidy part a is z same

  module _ (n : ℕ) (values : ValuesTell (meaning at_hand n).value_of) (blocks : BlocksTell (block_of (meaning at_hand n).execute)) where
    abbrev pub v : Expr → Action Value
    v = (meaning at_hand n).value_of

    abbrev pub b : List Stmt → Action Flow
    b = block_of (meaning at_hand n).execute

    abbrev pub u : Expr → Action Value
    u = (meaning all n).value_of

    abbrev pub typed : Typed schema repos sound g n
    typed = typed_at schema repos sound g n

    abbrev pub parts : Deep schema repos sound roots g n
    parts = deep schema repos sound roots g n

    ends : Ends at_hand n
    ends = ends_at at_hand n

    module _ (t : Option ℕ) (r : ExprType) (l : List NamedType) (free : AreFree schema repos g l) where
      abbrev s : Sight
      s = sight_of schema repos t r l

      -- ---- a value over what is at hand is that over the whole store

      -- what holds of it there
      record Found (e : Expr) (place : Position) (m : Machine) (a : Value) (q : Machine) : Type 0 where
        fits : MachineFits all s q
        tidy : TidyAt schema repos g q
        value : ValueFits (seen all q) (judged s e).kind a
        placed : Placed schema repos g place (judged s e).kind a q
        keeps : Keeps (seen all m) (seen all q)
        grows : GrowsTo schema repos g m q

      -- and here
      pub record Moved (e : Expr) (place : Position) (m : Machine) (a : Value) (q : Machine) : Type 0 where
        pub state : In s q
        pub value : ValueFits (seen all q) (judged s e).kind a
        pub placed : Placed schema repos g place (judged s e).kind a q
        pub keeps : Keeps (seen all m) (seen all q)
        pub grows : GrowsTo schema repos g m q
        pub run : (u e m).0 ≡ Ok a
        pub end : (u e m).1 ≡ q

      moved : (e : Expr) (place : Position) (m : Machine) → (judged s e).broken place ≡ [] → In s m → (a : Value) → (v e m).0 ≡ Ok a → (v e m).1.this ≡ m.this → Moved e place m a (v e m).1
      moved e place m ok h a is this =
          let q = (v e m).1 in
          let went = ends.values e m h.known in
          let alike = (alike_at n).values e m h.made in
          let same : u e m ≡ ((v e m).0, q) = same_run schema repos f g agrees m q (v e m).0 (u e m) a is alike (went.hand h.hand) in
          let run : (u e m).0 ≡ Ok a = ap (λ (p : Result Value Stop × Machine). p.0) same ∙ is in
          let end : (u e m).1 ≡ q = ap (λ (p : Result Value Stop × Machine). p.1) same in
          let typed_went = typed.values t r l e place ok m h.fits in
          let part_went = parts.parts t r l free e place ok m h.fits h.tidy in
          let good = typed_went.good a run in
          let there : Found e place m a (u e m).1 = record { fits = good.0; tidy = part_went.tidy; value = good.1; placed = part_went.good a run; keeps = typed_went.keeps; grows = part_went.grows } in
          let found = subst (Found e place m a) end there in
          record {
            state = record {
              fits = found.fits;
              tidy = found.tidy;
              hand = went.hand h.hand;
              known = went.sound a is;
              made = alike.sound a is;
              above = above_on schema repos f g m q this found.grows.made_more h.above;
            };
            value = found.value;
            placed = found.placed;
            keeps = found.keeps;
            grows = found.grows;
            run = run;
            end = end;
          }

      pub value_goes : (e : Expr) (place : Position) (m : Machine) → (judged s e).broken place ≡ [] → In s m → Owed (Moved e place m) m (v e m).0 (v e m).1
      value_goes e place m ok h =
          let tells = values t r l free e place ok m h in
          record { told = tells.told; this = tells.this; good = λ a is. moved e place m ok h a is (tells.this a is) }

      -- ---- the owners of a receiver

      one_class : (i j : ℕ) → ◌≡◌ {A = Option ℕ} (Some i) (Some j) → i ≡ j
      one_class i j e = cc

      no_this : {A : Type 0} (q : Receiver) → ◌≡◌ {A = Option Receiver} None (Some q) → A
      no_this q e = cc

      same_this : (p q : Receiver) → ◌≡◌ {A = Option Receiver} (Some p) (Some q) → p ≡ q
      same_this p q e = cc

      none_some : {A : Type 0} (o : Object) → ◌≡◌ {A = Option Object} None (Some o) → A
      none_some o e = cc

      -- an object that is no part has no owner above it
      none_above : (c : ℕ) (x : Oref) (m : Machine) → In s m → class_of (seen all m) x ≡ Some c → is_part schema.classes (type.Class c) ≡ false → AreAbove schema repos f g x []
      unfolding seen
      none_above c x m h is not_part o at =
          let k = h.tidy.kept x o at in
          let same : o.class ≡ c = one_class o.class c (ap Some (sym k.2) ∙ ap (option_map (λ (p : Object). p.class)) (sym k.1) ∙ is) in
          subst (λ j. is_part schema.classes (type.Class j) ≡ false) (sym same) not_part

      -- one that is reached through `this` has `this` above it, and what is above that; or it is `this`
      through : (x : Oref) (m o : Machine) (q : Receiver) (same : Bool) → same_oref x q.oref ≡ same → In s o → o.this ≡ Some q → m.this ≡ o.this → ((y : Oref) → is_among m.created y ≡ true → is_among o.created y ≡ true)
          → Held schema repos g m m x → is_among o.created x ≡ false → AreAbove schema repos f g x (cond same q.owners (q.oref ∷ q.owners))
      through x m o q true e h at this more held new =
          let same : x ≡ q.oref = one_name x q.oref true e refl in
          subst (λ y. AreAbove schema repos f g y q.owners) (sym same) (h.above q at (subst (λ y. is_among o.created y ≡ false) same new))
      through x m o q false e h at this more held new =
          let one : held.receiver ≡ q = same_this held.receiver q (sym held.this ∙ this ∙ at) in
          elim held.is [
            | inl same ↦ absurd (both_ways (same_oref x q.oref) e (ap (same_oref x) (sym (same ∙ ap (λ (p : Receiver). p.oref) one)) ∙ same_itself x))
            | inr other ↦ elim other [
              | inl made ↦ absurd (both_ways (is_among o.created x) new (more x made))
              | inr owned ↦
                  let own : OwnsIn schema.classes g q.oref owned.0 x = subst (λ (p : Receiver). OwnsIn schema.classes g p.oref owned.0 x) one owned.1 in
                  ((owned.0, own), h.above q at (unmade own (is_among o.created q.oref) refl))
            ]
          ]
        where
          unmade : {i : ℕ} → OwnsIn schema.classes g q.oref i x → (c : Bool) → is_among o.created q.oref ≡ c → is_among o.created q.oref ≡ false
          unmade own true is = none_some own.object (sym (h.tidy.new q.oref is) ∙ own.stands)
          unmade own false is = is

      -- so the owners that a call gives its receiver are those above it
      owners_above : (c : ℕ) (x : Oref) (m o : Machine) → In s o → class_of (seen all o) x ≡ Some c → (is_part schema.classes (type.Class c) ≡ true → Held schema repos g m m x) → m.this ≡ o.this
          → ((y : Oref) → is_among m.created y ≡ true → is_among o.created y ≡ true) → is_among o.created x ≡ false → AreAbove schema repos f g x (owners_at schema.classes c x o)
      unfolding owners_at
      owners_above c x m o h is held this more new = by (option_map (λ (d : Class). d.kind) (slice_get schema.classes c)) refl o.this refl
        where
          by : (kind : Option ClassKind) → option_map (λ (d : Class). d.kind) (slice_get schema.classes c) ≡ kind → (p : Option Receiver) → o.this ≡ p → AreAbove schema repos f g x (owners_by_kind kind x p)
          by (Some Part) e (Some q) at = through x m o q (same_oref x q.oref) refl h at this more (held (ap is_part_kind e)) new
          by (Some Part) e None at = let k = held (ap is_part_kind e) in no_this k.receiver (sym (this ∙ at) ∙ k.this)
          by (Some Free) e p at = none_above c x o h is (ap is_part_kind e)
          by None e p at = none_above c x o h is (ap is_part_kind e)

      -- ---- the body of a method

      restored : (m inside q : Machine) (end : Result Flow Stop) (k : Flow → Value) → Owed Any inside end q
          → let back : Flow → Machine → Result Value Stop × Machine = λ flow o. (Ok (k flow), record o { depth = m.depth; this = m.this; locals = m.locals }) in
          Owed Any m (after end q back).0 (after end q back).1
      restored m inside q (Ok flow) k h = record { told = λ x owners e. cc; this = λ a e. refl; good = λ a e. tt }
      restored m inside q (Err st) k h = record { told = λ x owners e. h.told x owners (same_stop st (stop.Need x owners) e); this = λ a e. cc; good = λ a e. tt }

      -- a receiver that was read or made, with its owners
      record Ready (this : Receiver) (c : ℕ) (m : Machine) : Type 0 where
        class : this.class ≡ c
        is : class_of (seen all m) this.oref ≡ Some c
        known : is_known schema.classes g m.reads m.created this.oref ≡ true
        alike : is_alike_known m this.oref ≡ true
        owners : AllKnown m this.owners
        above : is_among m.created this.oref ≡ false → AreAbove schema repos f g this.oref this.owners

      body_tells : (this : Receiver) (c : ℕ) (method : Method) (us : List Value) (m : Machine) → Ready this c m → MethodSound schema repos c method
          → ArgumentsFit (seen all m) schema.classes method.parameters us → In s m → Owed Any m (run_body at_hand b this method us m).0 (run_body at_hand b this method us m).1
      unfolding run_body seen
      body_tells this c method us m ready ok fit h =
          let inside = record m { depth = m.depth + 1; this = Some this; locals = bound schema.classes method.parameters us } in
          let callee : In (in_method schema repos c method) inside = record {
            fits = record {
              objects = h.fits.objects;
              this = (ready.class, ready.is);
              locals = bound_fits (seen all m) schema.classes method.parameters us us 0
                  (λ k. let z : 0 + k ≡ k = omega arith in rw z refl) ok.parameters fit;
              names = h.fits.names;
            };
            tidy = tidy_this schema.classes g m.writes m.created m.reads m.this h.tidy (Some this)
                (λ q e. subst (λ (p : Receiver). is_known schema.classes g m.reads m.created p.oref ≡ true) (same_this this q e) ready.known);
            hand = h.hand;
            known = record { this = (ready.known, ready.owners); written = h.known.written };
            made = record { this = ready.alike; created = h.made.created };
            above = λ q e out.
                subst (λ (p : Receiver). AreAbove schema repos f g p.oref p.owners) (same_this this q e)
                (ready.above (ap (λ (p : Receiver). is_among m.created p.oref) (same_this this q e) ∙ out));
          } in
          restored m inside (b method.body inside).1 (b method.body inside).0 (result_of schema.classes method)
          (blocks (Some c) (type_named schema.classes method.result) (map (parameter_named schema.classes) method.parameters)
          (parameters_free schema repos sound roots g _ _ _ _ typed.values (blocks_over n) parts.parts (parts_over n) t r l free method.parameters ok.parameters) method.body ok.body inside callee)

      -- ---- calls

      abbrev judgements : List Expr → List Judged
      judgements es = map (judged s) es

      record CallUnbroken (k : ExprType) (name : Name) (es : List Expr) : Type 0 where
        called : called_rules k (method_called schema.classes k name) name (length (judgements es)) ≡ []
        given : arguments_rules schema.classes (parameters_of (method_called schema.classes k name)) (judgements es) ≡ []

      enter_tells : (this : Receiver) (c : ℕ) (name : Name) (o : Option Method) (es : List Expr) (us : List Value) (m : Machine) → method_of schema.classes c name.text ≡ o
          → called_rules (type.Class c) o name (length (judgements es)) ≡ [] → arguments_rules schema.classes (parameters_of o) (judgements es) ≡ []
          → ValuesFit (seen all m) (kinds s schema.classes es) us → Ready this c m → In s m → Owed Any m (enter at_hand b this o us m).0 (enter at_hand b this o us m).1
      enter_tells this c name None es us m at called given fit ready h = faults schema repos f g Any m fault.NullCall
      enter_tells this c name (Some method) es us m at called given fit ready h =
          let ok = sound_method schema repos sound roots g _ _ _ _ typed.values (blocks_over n) parts.parts (parts_over n) t r l free c name.text method at in
          let count : length method.parameters ≡ length (judgements es) = sym (one_number (length method.parameters) (length (judgements es)) (held _ _ _ called)) in
          body_tells this c method us m ready ok (arguments_fit s schema.classes (seen all m) method.parameters es us given count ok.parameters fit) h

      -- an object that isn't at hand wasn't read or made
      seen_known : (x : Oref) (m : Machine) → In s m → is_known_here m x ≡ true → is_some (seen at_hand m x) ≡ true
      unfolding seen
      seen_known x m h known = by (has m.reads x) refl known
        where
          read_there : (o p : Option Object) → is_some p ≡ true → is_some (first_of o p) ≡ true
          read_there (Some w) p k = refl
          read_there None p k = k

          made_there : (o p : Option Object) → is_some o ≡ true → is_some (first_of o p) ≡ true
          made_there (Some w) p k = refl
          made_there None p k = cc

          by : (c : Bool) → has m.reads x ≡ c → (c || is_among m.created x) ≡ true → is_some (seen at_hand m x) ≡ true
          by true e k = read_there _ _ (h.hand x e)
          by false e k = made_there _ _ (h.made.created x k)

      touched_tells : (c few : Bool) (o : Option Object) (owners : List Oref) (x : Oref) (m : Machine) → In s m → is_known_here m x ≡ c → (c ≡ true → is_some o ≡ true)
          → (is_among m.created x ≡ false → AreAbove schema repos f g x owners)
          → let found : Result ℕ Stop × Machine = cond c (class_found o x owners m)
          (cond few (after (class_found o x owners m).0 (class_found o x owners m).1 (λ k. λ q. (Ok k, record q { reads = insert q.reads x tt }))) (Err (stop.Fault fault.Large), m)) in
          Owed Any m found.0 found.1
      touched_tells true few (Some o) owners x m h is there above = still schema repos f g Any m o.class tt
      touched_tells true few None owners x m h is there above = let e : ◌≡◌ {A = Bool} false true = there refl in cc
      touched_tells false true (Some o) owners x m h is there above = gives schema repos f g Any m _ o.class refl tt
      touched_tells false true None owners x m h is there above = record {
        told = λ y ys e.
            let same : x ≡ y = cc in
            let one : owners ≡ ys = cc in
            subst (λ (zs : List Oref). AreAbove schema repos f g y zs) one (subst (λ z. AreAbove schema repos f g z owners) same (above (new (is_among m.created x) refl)));
        this = λ a e. cc;
        good = λ a e. cc;
      }
        where
          new : (k : Bool) → is_among m.created x ≡ k → is_among m.created x ≡ false
          new true e = absurd (both_ways (is_known_here m x) is (or_right (has m.reads x) (is_among m.created x) e))
          new false e = e
      touched_tells false false o owners x m h is there above = faults schema repos f g Any m fault.Large

      touch_tells : (owners : List Oref) (x : Oref) (m : Machine) → In s m → (is_among m.created x ≡ false → AreAbove schema repos f g x owners) → Owed Any m (touch at_hand owners x m).0 (touch at_hand owners x m).1
      unfolding touch
      touch_tells owners x m h above =
          touched_tells (has m.reads x || is_some (find (same_oref x) m.created)) (nat_lt (len m.reads) READ_LIMIT) (seen at_hand m x) owners x m h refl (λ e. seen_known x m h e) above

      -- behind it the receiver is ready, and the state is as before
      record Entered (c : ℕ) (this : Receiver) (m q : Machine) : Type 0 where
        state : In s q
        ready : Ready this c q
        keeps : Keeps (seen all m) (seen all q)

      record Reached (x : Oref) (m q : Machine) : Type 0 where
        fits : MachineFits all s q
        tidy : TidyAt schema repos g q
        keeps : Keeps (seen all m) (seen all q)
        grows : GrowsTo schema repos g m q
        known : is_known schema.classes g q.reads q.created x ≡ true

      entered : (c : ℕ) (this : Receiver) (m : Machine) → In s m → this.class ≡ c → class_of (seen all m) this.oref ≡ Some c → CanReach schema.classes g m.reads m.created this.oref
          → (is_among m.created this.oref ≡ false → AreAbove schema repos f g this.oref this.owners) → AllKnown m this.owners
          → (found : ℕ) → (touch at_hand this.owners this.oref m).0 ≡ Ok found → (touch at_hand this.owners this.oref m).1.this ≡ m.this → Entered c this m (touch at_hand this.owners this.oref m).1
      entered c this m h class is can above owners found e same =
          let x = this.oref in
          let p = touch at_hand this.owners x m in
          let went = ends_touch at_hand this.owners x m h.known owners in
          let alike = touch_alike schema f g this.owners x m h.made in
          let run : touch all this.owners x m ≡ (p.0, p.1) = same_run schema repos f g agrees m p.1 p.0 (touch all this.owners x m) found e alike (went.hand h.hand) in
          let typed_went = typed_touch schema repos sound g t r l this.owners x c m is h.fits in
          let part_went = part_touch schema repos g this.owners x m can h.tidy in
          let ok : (touch all this.owners x m).0 ≡ Ok found = ap (λ (z : Result ℕ Stop × Machine). z.0) run ∙ e in
          let there : Reached x m (touch all this.owners x m).1 = record { fits = (typed_went.good found ok).1; tidy = part_went.tidy; keeps = typed_went.keeps; grows = part_went.grows; known = part_went.good found ok } in
          let q = subst (Reached x m) (ap (λ (z : Result ℕ Stop × Machine). z.1) run) there in
          record {
            state = record {
              fits = q.fits;
              tidy = q.tidy;
              hand = went.hand h.hand;
              known = went.sound found e;
              made = alike.sound found e;
              above = above_on schema repos f g m p.1 same q.grows.made_more h.above;
            };
            ready = record {
              class = class;
              is = q.keeps x c is;
              known = q.known;
              alike = alike_touched schema f g this.owners x m found h.made e;
              owners = all_grow m p.1 went.grows this.owners owners;
              above = λ out. above (before (is_among m.created x) refl (q.grows.made_more x) out);
            };
            keeps = q.keeps;
          }
        where
          before : (k : Bool) {o : Bool} → is_among m.created this.oref ≡ k → (is_among m.created this.oref ≡ true → o ≡ true) → o ≡ false → is_among m.created this.oref ≡ false
          before true e more out = absurd (both_ways _ out (more e))
          before false e more out = e

      object_tells : (few : Bool) (c : ℕ) (x : Oref) (owners : List Oref) (name : Name) (es : List Expr) (us : List Value) (m : Machine) → CallUnbroken (type.Class c) name es
          → class_of (seen all m) x ≡ Some c → ValuesFit (seen all m) (kinds s schema.classes es) us → In s m → CanReach schema.classes g m.reads m.created x
          → (is_among m.created x ≡ false → AreAbove schema repos f g x owners) → AllKnown m owners
          → let this : Receiver = record { oref = x; class = c; owners = owners } in
          let goes : Result Value Stop × Machine =
          cond few (after (touch at_hand owners x m).0 (touch at_hand owners x m).1 (λ found. enter_as at_hand b this found (method_of schema.classes c name.text) us))
          (Err (stop.Fault fault.Depth), m) in
          Owed Any m goes.0 goes.1
      object_tells false c x owners name es us m ok is fit h can above known = faults schema repos f g Any m fault.Depth
      object_tells true c x owners name es us m ok is fit h can above known =
          let this : Receiver = record { oref = x; class = c; owners = owners } in
          let q = (touch at_hand owners x m).1 in
          on schema repos f g Any Any m q (touch at_hand owners x m).0 _ (touch_tells owners x m h above)
          (λ found e good same.
          let inside = entered c this m h refl is can above known found e same in
          choose schema repos f g Any (found == c) (enter at_hand b this (method_of schema.classes c name.text) us) (λ o. (Err (stop.Fault fault.NullCall), o)) q
          (enter_tells this c name (method_of schema.classes c name.text) es us q refl ok.called ok.given (values_keep (seen all m) (seen all q) inside.keeps (kinds s schema.classes es) us fit) inside.ready inside.state)
          (faults schema repos f g Any q fault.NullCall))

      call_tells : (k : ExprType) (a : Value) (name : Name) (es : List Expr) (us : List Value) (first m : Machine) → CallUnbroken k name es
          → ValueFits (seen all m) k a → ValuesFit (seen all m) (kinds s schema.classes es) us → In s m
          → ((x : Oref) → a ≡ value.Ref x → CanReach schema.classes g m.reads m.created x)
          → ((x : Oref) → a ≡ value.Ref x → is_part schema.classes k ≡ true → Held schema repos g first first x) → first.this ≡ m.this → ((y : Oref) → is_among first.created y ≡ true → is_among m.created y ≡ true)
          → Owed Any m (call at_hand b k a name.text us m).0 (call at_hand b k a name.text us m).1
      unfolding call call_object
      call_tells (type.Class c) (value.Ref x) name es us first m ok is fit h can held this more =
          object_tells (nat_lt m.depth DEPTH_LIMIT) c x (owners_at schema.classes c x m) name es us m ok is fit h (can x refl)
          (λ new. owners_above c x first m h is (held x refl) this more new) (owners_known at_hand v b ends.values (ends_blocks at_hand (meaning at_hand n).execute ends.statements) c x m h.known)
      call_tells (type.Class c) value.Null name es us first m ok is fit h can held this more = faults schema repos f g Any m fault.NullCall
      call_tells (type.Class c) (value.Int k) name es us first m ok is fit h can held this more = faults schema repos f g Any m fault.NullCall
      call_tells (type.Class c) (value.Text k) name es us first m ok is fit h can held this more = faults schema repos f g Any m fault.NullCall
      call_tells type.Int a name es us first m ok is fit h can held this more = faults schema repos f g Any m fault.NullCall
      call_tells type.Text a name es us first m ok is fit h can held this more = faults schema repos f g Any m fault.NullCall
      call_tells type.Null a name es us first m ok is fit h can held this more = faults schema repos f g Any m fault.NullCall
      call_tells type.Untold a name es us first m ok is fit h can held this more = faults schema repos f g Any m fault.NullCall

      -- ---- the values of several expressions

      record Listed (first : Machine) (ks : List ExprType) (us : List Value) (q : Machine) : Type 0 where
        state : In s q
        listed : ValuesFit (seen all q) ks us
        keeps : Keeps (seen all first) (seen all q)
        grows : GrowsTo schema repos g first q

      values_from_tell : (first : Machine) (es : List Expr) (ks : List ExprType) (us : List Value) (m : Machine) → Unbroken s schema.classes es → Listed first ks us m
          → Owed (Listed first (ks ++ kinds s schema.classes es)) m (values_from at_hand v b us es m).0 (values_from at_hand v b us es m).1
      values_from_tell first [] ks us m ok h = still schema repos f g (Listed first (ks ++ [])) m us (subst (λ qs. Listed first qs us m) (sym (append-nil ks)) h)
      values_from_tell first (e ∷ es) ks us m ok h =
          let k = (judged s e).kind in
          on schema repos f g (Moved e AsValue m) (Listed first (ks ++ k ∷ kinds s schema.classes es)) m (v e m).1 (v e m).0 _ (value_goes e AsValue m ok.0 h.state)
          (λ x is good same.
          let q = (v e m).1 in
          let went = values_from_tell first es (ks ++ k ∷ []) (us ++ x ∷ []) q ok.1 (record {
            state = good.state;
            listed = one_more_fits (seen all q) ks us k x (values_keep (seen all m) (seen all q) good.keeps ks us h.listed) good.value;
            keeps = λ y c at. good.keeps y c (h.keeps y c at);
            grows = grows_then schema.classes g _ _ _ _ _ _ h.grows good.grows;
          }) in
          subst (λ (qs : List ExprType). Owed (Listed first qs) q (values_from at_hand v b (us ++ x ∷ []) es q).0 (values_from at_hand v b (us ++ x ∷ []) es q).1)
          (append_assoc ks (k ∷ []) (kinds s schema.classes es)) went)

      values_of_tell : (es : List Expr) (m : Machine) → Unbroken s schema.classes es → In s m
          → Owed (Listed m (kinds s schema.classes es)) m (values_of at_hand v b es m).0 (values_of at_hand v b es m).1
      unfolding values_of
      values_of_tell es m ok h = values_from_tell m es [] [] m ok (record { state = h; listed = tt; keeps = λ y c at. at; grows = grows_no schema.classes g m.created m.reads })

      -- ---- one node

      held_here : (m q o : Machine) (x : Oref) → m.this ≡ q.this → o ≡ q → Held schema repos g m o x → Held schema repos g q q x
      held_here m q o x same end h = record {
        receiver = h.receiver;
        this = sym same ∙ h.this;
        is = subst (λ (p : Machine). (x ≡ h.receiver.oref) ⊎ ((is_among p.created x ≡ true) ⊎ ((i : ℕ) × OwnsIn schema.classes g h.receiver.oref i x))) end h.is;
      }

      called_tells : (receiver : Expr) (name : Name) (es : List Expr) (m : Machine) → call_rules s (judged s receiver) name (judgements es) ≡ []
          → In s m → Owed Any m (value_at at_hand v b (Expr-F.Call receiver name es) m).0 (value_at at_hand v b (Expr-F.Call receiver name es) m).1
      called_tells receiver name es m ok h =
          let k = (judged s receiver).kind in
          let method = method_called schema.classes k name in
          let p = nothing ((judged s receiver).broken AsReceiver ++ called_rules k method name (length (judgements es)))
          (arguments_rules schema.classes (parameters_of method) (judgements es)) ok in
          let q = nothing ((judged s receiver).broken AsReceiver) (called_rules k method name (length (judgements es))) p.0 in
          let kind : type_of (scope_at schema m) receiver ≡ k = ap (λ c. type_of c receiver) (scope_is (seen all m) s m h.fits.this h.fits.locals) ∙ sym (kind_is s receiver) in
          on schema repos f g (Moved receiver AsReceiver m) Any m (v receiver m).1 (v receiver m).0 _ (value_goes receiver AsReceiver m q.0 h)
          (λ a is good this.
          let first = (v receiver m).1 in
          on schema repos f g (Listed first (kinds s schema.classes es)) Any first (values_of at_hand v b es first).1 (values_of at_hand v b es first).0 _
          (values_of_tell es first (unbroken s schema.classes (parameters_of method) es p.1) good.state)
          (λ us there listed same.
          let o = (values_of at_hand v b es first).1 in
          let went = call_tells k a name es us first o (record { called = q.1; given = p.1 }) (value_keeps (seen all first) (seen all o) listed.keeps k a good.value) listed.listed listed.state
          (λ x e. can_more schema.classes g first.created o.created first.reads o.reads listed.grows x
          (receiver_reached schema repos sound roots g _ _ _ _ typed.values (blocks_over n) parts.parts (parts_over n) t r l free k a first good.state.tidy good.value good.placed x e))
          (λ x e part. held_here m first (u receiver m).1 x (sym this) good.end (receiver_held n t r l free receiver m q.0 h.fits h.tidy part a good.run x e))
          (sym same) listed.grows.made_more in
          subst (λ (j : ExprType). Owed Any o (call at_hand b j a name.text us o).0 (call at_hand b j a name.text us o).1) (sym kind) went))

      node_tells : (x : Expr-F Expr) (place : Position) (m : Machine) → broken_at s (map-Expr Expr Judged (judged s) x) place ≡ [] → In s m
          → Owed Any m (value_at at_hand v b x m).0 (value_at at_hand v b x m).1
      node_tells (Expr-F.Literal k line) place m ok h = still schema repos f g Any m (literal_value k) tt
      node_tells (Expr-F.Null line) place m ok h = still schema repos f g Any m value.Null tt
      node_tells (Expr-F.This line) place m ok h = still schema repos f g Any m (this_value m.this) tt
      node_tells (Expr-F.Field name) place m ok h = still schema repos f g Any m (field_value at_hand m name.text) tt
      node_tells (Expr-F.Variable name) place m ok h = still schema repos f g Any m (named_value schema m name.text) tt
      node_tells (Expr-F.New class at) place m ok h = create_tells schema repos f g class.text at m
      node_tells (Expr-F.Parens inner line) place m ok h = values t r l free inner AsValue ok m h
      node_tells (Expr-F.Negate operand line) place m ok h =
          let p = nothing ((judged s operand).broken AsValue) (must (is_number (judged s operand).kind) T3 line) ok in
          on schema repos f g Any Any m (v operand m).1 (v operand m).0 _ (values t r l free operand AsValue p.0 m h)
          (λ a e good same. still schema repos f g Any (v operand m).1 _ tt)
      node_tells (Expr-F.Binary operator left right line) place m ok h =
          let before = beside operator (judged s right).null in
          let behind = beside operator (judged s left).null in
          let p = nothing ((judged s left).broken before ++ (judged s right).broken behind) (must (takes schema.classes operator (judged s left).kind (judged s right).kind) T3 line) ok in
          let q = nothing ((judged s left).broken before) ((judged s right).broken behind) p.0 in
          on schema repos f g (Moved left before m) Any m (v left m).1 (v left m).0 _ (value_goes left before m q.0 h)
          (λ a e good same.
          let o = (v left m).1 in
          on schema repos f g Any Any o (v right o).1 (v right o).0 _ (values t r l free right behind q.1 o good.state)
          (λ c is well more. still schema repos f g Any (v right o).1 (combined operator a c) tt))
      node_tells (Expr-F.Call receiver name es) place m ok h = called_tells receiver name es m ok h

    -- an expression that breaks no rule
    pub expression_tells : ValuesTell (expression at_hand v b)
    unfolding expression
    expression_tells t r l free e place ok m h =
        let here_s = sight_of schema repos t r l in
        let k = judged_out here_s e in
        on schema repos f g (λ x q. In here_s q) Any m (step m).1 (step m).0 _ (steps schema repos f g here_s m h)
        (λ x is state same. node_tells t r l free (out-Expr e) place (step m).1 (ap (λ (j : Judged). j.broken place) (sym k) ∙ ok) state)
