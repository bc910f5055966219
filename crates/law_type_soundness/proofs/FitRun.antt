-- That transactions that break no rule go as they are owed on a store that fits, and leave a store that fits.
use Rattle.std.proofs.Common.{◌≡◌, arith, Bool, true, false, cond, List, [], ◌∷◌, Option, Some, None, Result, Ok, Err, refl, ap, sym, subst, subst₂, ◌∙◌, ℕ, zero, suc, Less}
use Rattle.std.proofs.Math.Path.{fun_ext}
use Rattle.std.specs.BTreeMap.{is_at}
use Rattle.std.specs.List.{AllByRecursion}
use Rattle.std.specs.List.Sorted.{IsStrictlySortedBy}
use Rattle.std.specs.Map.{keys_of, lookup}
use Rattle.std.specs.Prelude.{◌==◌, length, slice_get}
use Rattle.thor_value.proofs.FiniteMap.{get-insert}
use Rattle.thor_value.proofs.NameOrders.{oref_total}
use Rattle.thor_value.specs.FiniteMap.{IsSorted, Map, get, insert, overwrite}
use Rattle.thor_value.specs.Names.{oref_cmp, same_oref}
use Rattle.thor_value.specs.declared.names.Oref.{Oref}
use Rattle.thor_value.specs.declared.values.Fault.TheVariants as fault
use Rattle.thor_value.specs.declared.values.Value.{Value}
use Rattle.class_defs.proofs.ActionWords.{Ended as Had, over}
use Rattle.law_type_soundness.proofs.FitCalls.{FlowGood, ValuesGo, expression_goes}
use Rattle.law_type_soundness.proofs.FitKinds.{kind_is}
use Rattle.class_defs.proofs.KeptRules.{ClassSound, nothing, schema_sound}
use Rattle.law_type_soundness.proofs.FitStatements.{StatementsGo, block_goes, statement_goes}
use Rattle.law_type_soundness.proofs.FitSteps.{Named, Went, faults}
use Rattle.class_defs.proofs.SameNames.{one_name}
use Rattle.class_defs.specs.ExpressionRules.{judged}
use Rattle.law_type_soundness.specs.Fits.{StandInsFit, Fresh, IsAnswered, FlowFits, ObjectsFit, StoreFits, MachineFits, ValueFits}
use Rattle.class_defs.specs.Objects.{first_of, seen}
use Rattle.class_defs.specs.Rules.{Sight, scope_of}
use Rattle.class_defs.specs.Run.{Ran, begun, changed, execute_all, meaning, ran_by, run, takes, world_of}
use Rattle.class_defs.specs.SchemaRules.{in_item, item_names, item_rules, schema_rules}
use Rattle.class_defs.specs.StatementRules.{block_rules}
use Rattle.class_defs.specs.Statements.{block_of}
use Rattle.law_type_soundness.specs.Strict.{strict_block, strict_execute_all, strict_meaning}
use Rattle.class_defs.specs.Touched.{HadObjects}
use Rattle.class_defs.specs.Types.{type_of}
use Rattle.class_defs.specs.declared.classes.Class.{Class}
use Rattle.class_defs.specs.declared.expressions.Expr.{Expr}
use Rattle.class_defs.specs.declared.machine.Flow.{Flow}
use Rattle.class_defs.specs.declared.machine.Machine.{Machine}
use Rattle.class_defs.specs.declared.machine.Stop.{Stop}
use Rattle.class_defs.specs.declared.machine.Stop.TheVariants as stop
use Rattle.class_defs.specs.declared.rules.Position.{Position}
use Rattle.class_defs.specs.declared.statements.Stmt.{Stmt}
use Rattle.class_defs.specs.declared.store.Object.{Object}
use Rattle.class_defs.specs.declared.store.Plain.{Plain}
use Rattle.class_defs.specs.declared.store.Schema.{Schema}
use Rattle.class_defs.specs.declared.types.ExprType.{ExprType}

module _ (schema : Schema) (repos : ℕ) (sound : (c : ℕ) (d : Class) → slice_get schema.classes c ≡ Some d → ClassSound schema repos c d)
    (at_hand : Oref → Option Object) where
  -- expressions and statements go as they are owed, as deep as n
  pub record Both (n : ℕ) : Type 0 where
    pub values : ValuesGo schema repos at_hand (meaning (over schema at_hand) n).value_of (strict_meaning (over schema at_hand) n).value_of
    pub statements : StatementsGo schema repos at_hand (meaning (over schema at_hand) n).execute (strict_meaning (over schema at_hand) n).execute

  pub both : (n : ℕ) → Both n
  unfolding meaning strict_meaning
  both zero = record {
    values = λ t r l e place ok m h. faults (over schema at_hand) _ m fault.Steps;
    statements = λ t r l st ok m h. faults (over schema at_hand) _ m fault.Steps;
  }
  both (suc n) =
      let inner = both n in
      let blocks = block_goes schema repos at_hand (meaning (over schema at_hand) n).execute
      (strict_meaning (over schema at_hand) n).execute inner.statements in
      record {
        values = expression_goes schema repos sound at_hand _ _ _ _ inner.values blocks;
        statements = statement_goes schema repos sound at_hand _ _ _ _ inner.values blocks;
      }

  pub transaction_goes : (tx : List Stmt) → block_rules (in_item schema repos) tx ≡ [] → (m : Machine)
      → MachineFits (over schema at_hand) (in_item schema repos) m
      → Went (over schema at_hand) Flow (FlowGood schema repos at_hand (in_item schema repos)) m (execute_all (over schema at_hand) tx m).0
      (execute_all (over schema at_hand) tx m).1 (strict_execute_all (over schema at_hand) tx m)
  unfolding execute_all strict_execute_all
  transaction_goes tx ok m h = block_goes schema repos at_hand _ _ (both 100001).statements None (in_item schema repos).result [] tx ok m h

-- ---- the store behind a run

absent : (k x : Oref) (kvs : List (Oref × Object)) → x ≡ k → AllByRecursion (λ y. oref_cmp k y ≡ Less) (keys_of kvs)
    → lookup (is_at (oref_cmp x)) kvs ≡ None
absent k x [] e h = refl
absent k x (kv ∷ kvs) e h =
    let less : oref_cmp x kv.0 ≡ Less = subst (λ z. oref_cmp z kv.0 ≡ Less) (sym e) h.0 in
    rw less (absent k x kvs e h.1)

overwritten : (b : Bool) (v : Object) (o p : Option Object) → (b ≡ true → o ≡ None) → first_of o (cond b (Some v) p) ≡ first_of (cond b (Some v) o) p
overwritten true v o p h = rw (h refl) refl
overwritten false v o p h = refl

-- what stands at a name behind writes, the names of which are in order
get_overwritten : (m : Map oref_cmp Object) (kvs : List (Oref × Object)) (x : Oref) → IsStrictlySortedBy oref_cmp (keys_of kvs)
    → get (overwrite m kvs) x ≡ first_of (lookup (is_at (oref_cmp x)) kvs) (get m x)
unfolding IsStrictlySortedBy
get_overwritten m [] x h = refl
get_overwritten m (kv ∷ kvs) x h =
    get_overwritten (insert m kv.0 kv.1) kvs x h.1
    ∙ ap (first_of (lookup (is_at (oref_cmp x)) kvs)) (get-insert oref_total m kv.0 kv.1 x)
    ∙ overwritten (same_oref x kv.0) kv.1 (lookup (is_at (oref_cmp x)) kvs) (get m x) (λ b. absent kv.0 x kvs (one_name x kv.0 true b refl) h.0)

-- the objects as the transaction saw them at its end are those of the store that it leaves
store_seen : (schema : Schema) (store : Plain) (m : Machine) → IsSorted m.writes
    → get (changed store m.writes.pairs).objects ≡ seen (world_of schema store) m
unfolding seen
store_seen schema store m h = fun_ext (λ x. get_overwritten store.objects m.writes.pairs x h)

-- ---- runs

begun_fits : (schema : Schema) (repos : ℕ) (store : Plain) (names : List Oref) (stand_in : Option ℕ) → StandInsFit (get store.objects) 0 stand_in
    → StoreFits schema store → Fresh store names
    → MachineFits (world_of schema store) (in_item schema repos) (begun names stand_in)
unfolding seen
begun_fits schema repos store names stand_in next fit fresh = record {
  objects = fit;
  this = tt;
  locals = tt;
  names = record { waiting = fresh.waiting; distinct = fresh.distinct; stand_ins = next };
}

begun_sorted : (names : List Oref) → IsSorted (begun names (Some 0)).writes
unfolding IsStrictlySortedBy
begun_sorted names = tt

module _ (schema : Schema) (repos : ℕ) (tx : List Stmt) (store : Plain) (names : List Oref) where
  block_unbroken : item_rules schema repos tx ≡ [] → block_rules (in_item schema repos) tx ≡ []
  unfolding item_rules
  block_unbroken h = (nothing (item_names schema tx) (block_rules (in_item schema repos) tx) h).1

  abbrev ended_with : Option ℕ → Result Flow Stop × Machine
  ended_with stand_in = execute_all (world_of schema store) tx (begun names stand_in)

  abbrev ended : Result Flow Stop × Machine
  ended = ended_with (Some 0)

  goes_with : (stand_in : Option ℕ) → StandInsFit (get store.objects) 0 stand_in → schema_rules schema repos ≡ []
      → item_rules schema repos tx ≡ [] → StoreFits schema store → Fresh store names
      → Went (world_of schema store) Flow (FlowGood schema repos (get store.objects) (in_item schema repos)) (begun names stand_in)
      (ended_with stand_in).0 (ended_with stand_in).1
      (strict_execute_all (world_of schema store) tx (begun names stand_in))
  goes_with stand_in next sound ok fit fresh =
      transaction_goes schema repos (schema_sound schema repos sound) (get store.objects) tx (block_unbroken ok) (begun names stand_in)
      (begun_fits schema repos store names stand_in next fit fresh)

  run_goes : schema_rules schema repos ≡ [] → item_rules schema repos tx ≡ [] → StoreFits schema store → Fresh store names
      → Went (world_of schema store) Flow (FlowGood schema repos (get store.objects) (in_item schema repos))
      (begun names (Some 0)) ended.0 ended.1 (strict_execute_all (world_of schema store) tx (begun names (Some 0)))
  run_goes sound ok fit fresh = goes_with (Some 0) (omega arith, λ j le. fresh.stand_ins j) sound ok fit fresh

  objects_had : (o : Result Flow Stop) → Had o → HadObjects o
  objects_had (Ok flow) h = h
  objects_had (Err s) h = h

  pub run_had : schema_rules schema repos ≡ [] → item_rules schema repos tx ≡ [] → StoreFits schema store → Fresh store names
      → HadObjects (ended_with None).0
  run_had sound ok fit fresh = objects_had (ended_with None).0 (goes_with None tt sound ok fit fresh).had

  answered : (o : Result Flow Stop) → Had o → Named o → IsAnswered o
  answered (Ok flow) h k = tt
  answered (Err (stop.Fault f)) h k = tt
  answered (Err (stop.Need x owners)) h k = absurd h
  answered (Err (stop.NeedName repo)) h k = absurd k

  pub run_answered : schema_rules schema repos ≡ [] → item_rules schema repos tx ≡ [] → StoreFits schema store → Fresh store names
      → IsAnswered ended.0
  run_answered sound ok fit fresh = let went = run_goes sound ok fit fresh in answered ended.0 went.had (went.supply refl)

  pub run_strictly : schema_rules schema repos ≡ [] → item_rules schema repos tx ≡ [] → StoreFits schema store → Fresh store names
      → strict_execute_all (world_of schema store) tx (begun names (Some 0)) ≡ Some ended
  run_strictly sound ok fit fresh = (run_goes sound ok fit fresh).same

  taken_over : (b : Bool) (whole r : Ran) → cond b (Some whole) None ≡ Some r → StoreFits schema whole.store → StoreFits schema r.store
  taken_over true whole r is h = let e : whole ≡ r = cc in subst (λ (q : Ran). StoreFits schema q.store) e h
  taken_over false whole r is h = cc

  left_fits : (o : Result Flow Stop) (m : Machine) (r : Ran) → ((flow : Flow) → o ≡ Ok flow → StoreFits schema (changed store m.writes.pairs))
      → StoreFits schema store → ran_by store names o m ≡ Some r → StoreFits schema r.store
  left_fits (Ok flow) m r left fit is = taken_over (takes m.created names) _ r is (left flow refl)
  left_fits (Err (stop.Fault f)) m r left fit is = taken_over (length names == 0) _ r is fit
  left_fits (Err (stop.Need x owners)) m r left fit is = cc
  left_fits (Err (stop.NeedName repo)) m r left fit is = cc

  pub run_fits : (r : Ran) → schema_rules schema repos ≡ [] → item_rules schema repos tx ≡ [] → StoreFits schema store → Fresh store names
      → run schema tx store names ≡ Some r → StoreFits schema r.store
  unfolding run
  run_fits r sound ok fit fresh is =
      let went = run_goes sound ok fit fresh in
      left_fits ended.0 ended.1 r
      (λ flow e. subst (ObjectsFit schema) (sym (store_seen schema store ended.1 (went.stays.1 (begun_sorted names)))) (went.good flow e).0.objects)
      fit is

-- ---- any expression and any block

-- expressions and blocks that break no rule keep a state that fits, and give values of their types
module _ (s : Sight) (objects : Oref → Option Object) (n : ℕ) (m : Machine) (rules : schema_rules s.schema s.repos ≡ [])
    (fit : MachineFits (over s.schema objects) s m) where
  pub values_fit : (e : Expr) (place : Position) (v : Value) (o : Machine) → (judged s e).broken place ≡ []
      → (meaning (over s.schema objects) n).value_of e m ≡ (Ok v, o)
      → MachineFits (over s.schema objects) s o × ValueFits (seen (over s.schema objects) o) (type_of (scope_of s) e) v
  values_fit e place v o ok is =
      let went = (both s.schema s.repos (schema_sound s.schema s.repos rules) objects n).values s.this s.result s.locals e place ok m fit in
      let good = went.good v (ap (λ (p : Result Value Stop × Machine). p.0) is) in
      let P : ExprType → Machine → Type 0 = λ k q. MachineFits (over s.schema objects) s q × ValueFits (seen (over s.schema objects) q) k v in
      subst₂ P (kind_is s e) (ap (λ (p : Result Value Stop × Machine). p.1) is) good

  pub values_strict : (e : Expr) (place : Position) → (judged s e).broken place ≡ []
      → (strict_meaning (over s.schema objects) n).value_of e m ≡ Some ((meaning (over s.schema objects) n).value_of e m)
  values_strict e place ok =
      ((both s.schema s.repos (schema_sound s.schema s.repos rules) objects n).values s.this s.result s.locals e place ok m fit).same

  abbrev goes : (ss : List Stmt) → block_rules s ss ≡ []
      → Went (over s.schema objects) Flow (FlowGood s.schema s.repos objects s) m (block_of (meaning (over s.schema objects) n).execute ss m).0
      (block_of (meaning (over s.schema objects) n).execute ss m).1 (strict_block (strict_meaning (over s.schema objects) n).execute ss m)
  goes ss ok =
      block_goes s.schema s.repos objects (meaning (over s.schema objects) n).execute (strict_meaning (over s.schema objects) n).execute
      (both s.schema s.repos (schema_sound s.schema s.repos rules) objects n).statements s.this s.result s.locals ss ok m fit

  pub blocks_fit : (ss : List Stmt) (flow : Flow) (o : Machine) → block_rules s ss ≡ []
      → block_of (meaning (over s.schema objects) n).execute ss m ≡ (Ok flow, o)
      → MachineFits (over s.schema objects) s o × FlowFits (seen (over s.schema objects) o) s.result flow
  blocks_fit ss flow o ok is =
      subst (λ q. MachineFits (over s.schema objects) s q × FlowFits (seen (over s.schema objects) q) s.result flow)
      (ap (λ (p : Result Flow Stop × Machine). p.1) is)
      ((goes ss ok).good flow (ap (λ (p : Result Flow Stop × Machine). p.0) is))

  pub blocks_strict : (ss : List Stmt) → block_rules s ss ≡ []
      → strict_block (strict_meaning (over s.schema objects) n).execute ss m ≡ Some (block_of (meaning (over s.schema objects) n).execute ss m)
  blocks_strict ss ok = (goes ss ok).same
