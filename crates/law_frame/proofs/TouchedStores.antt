-- That the runs of a transaction on two stores go alike, where they agree on what the one touched.
use Rattle.std.proofs.Common.{◌≡◌, Bool, true, false, cond, List, Option, Some, None, Result, Ok, Err, refl, ap, ◌∙◌, ℕ, length}
use Rattle.std.proofs.lemmas.Map.Views.{Contains-keys_from_lookup, tells_apart}
use Rattle.std.specs.Prelude.{Contains, ◌==◌}
use Rattle.thor_value.proofs.NameOrders.{oref_exact}
use Rattle.thor_value.specs.FiniteMap.{Map, get, has, keys}
use Rattle.thor_value.specs.Names.{oref_cmp}
use Rattle.thor_value.specs.declared.names.Oref.{Oref}
use Rattle.thor_value.specs.declared.values.Fault.{Fault}
use Rattle.class_defs.proofs.ActionWords.{Ended, over}
use Rattle.law_frame.proofs.AlikeRun.{ends_alike}
use Rattle.law_frame.proofs.AlikeSteps.{Agree}
use Rattle.class_defs.specs.Run.{takes, Ran, begun, execute_all, ran_by, run, world_of}
use Rattle.class_defs.specs.Touched.{AgreeOn, HadObjects, on_store}
use Rattle.class_defs.specs.declared.machine.Flow.{Flow}
use Rattle.class_defs.specs.declared.machine.Machine.{Machine}
use Rattle.class_defs.specs.declared.machine.Stop.{Stop}
use Rattle.class_defs.specs.declared.machine.Stop.TheVariants as stop
use Rattle.class_defs.specs.declared.statements.Stmt.{Stmt}
use Rattle.class_defs.specs.declared.store.Object.{Object}
use Rattle.class_defs.specs.declared.store.Plain.{Plain}
use Rattle.class_defs.specs.declared.store.Schema.{Schema}

named : {X : Type 0} (m : Map oref_cmp X) (x : Oref) → has m x ≡ true → Contains (keys m) x
named m x h = Contains-keys_from_lookup (tells_apart oref_exact) x m.pairs h

agree : (f g : Oref → Option Object) (m : Machine) → AgreeOn (keys m.reads) f g → Agree f g m
agree f g m same x h = same x (named m.reads x h)

had : (o : Result Flow Stop) → HadObjects o → Ended o
had (Ok flow) h = tt
had (Err s) h = h

pub state_alike : (schema : Schema) (f g : Oref → Option Object) (tx : List Stmt) (names : List Oref) (stand_in : Option ℕ) (o : Result Flow Stop) (m : Machine)
    → execute_all (record { schema = schema; at_hand = f }) tx (begun names stand_in) ≡ (o, m) → HadObjects o → AgreeOn (keys m.reads) f g
    → execute_all (record { schema = schema; at_hand = g }) tx (begun names stand_in) ≡ (o, m)
state_alike schema f g tx names stand_in o m is h same =
    let h2 : Ended (execute_all (over schema f) tx (begun names stand_in)).0 = rw is (had o h) in
    let same2 : Agree f g (execute_all (over schema f) tx (begun names stand_in)).1 = rw is (agree f g m same) in
    ends_alike schema f g tx names stand_in h2 same2 ∙ is

-- what the outcome of a run that is defined says of the same outcome on another store
record Elsewhere (other : Plain) (names : List Oref) (o : Result Flow Stop) (m : Machine) (r : Ran) : Type 0 where
  had : HadObjects o
  touched : keys m.reads ≡ r.touched
  ran : ran_by other names o m ≡ Some (on_store other r)

picked : (b : Bool) (w r : Ran) → cond b (Some w) None ≡ Some r → (b ≡ true) × (w ≡ r)
picked true w r h = (refl, cc)
picked false w r h = cc

through : (store other : Plain) (flow : Flow) (names : List Oref) (m : Machine) (r : Ran) → ran_by store names (Ok flow) m ≡ Some r → Elsewhere other names (Ok flow) m r
through store other flow names m r is =
    let p = picked (takes m.created names) _ r is in
    record { had = tt; touched = ap (λ (q : Ran). q.touched) p.1; ran = rw p.0 (ap (λ (q : Ran). Some (on_store other q)) p.1) }

into : (store other : Plain) (f : Fault) (names : List Oref) (m : Machine) (r : Ran) → ran_by store names (Err (stop.Fault f)) m ≡ Some r → Elsewhere other names (Err (stop.Fault f)) m r
into store other f names m r is =
    let p = picked (length names == 0) _ r is in
    record { had = tt; touched = ap (λ (q : Ran). q.touched) p.1; ran = rw p.0 (ap (λ (q : Ran). Some (on_store other q)) p.1) }

elsewhere : (store other : Plain) (names : List Oref) (o : Result Flow Stop) (m : Machine) (r : Ran) → ran_by store names o m ≡ Some r → Elsewhere other names o m r
elsewhere store other names (Ok flow) m r is = through store other flow names m r is
elsewhere store other names (Err (stop.Fault f)) m r is = into store other f names m r is
elsewhere store other names (Err (stop.Need x owners)) m r is = cc
elsewhere store other names (Err (stop.NeedName repo)) m r is = cc

pub store_alike : (schema : Schema) (tx : List Stmt) (store other : Plain) (names : List Oref) (r : Ran) → run schema tx store names ≡ Some r
    → AgreeOn r.touched (get store.objects) (get other.objects) → run schema tx other names ≡ Some (on_store other r)
unfolding run
store_alike schema tx store other names r is same =
    let ended = execute_all (world_of schema store) tx (begun names (Some 0)) in
    let e = elsewhere store other names ended.0 ended.1 r is in
    let same2 : AgreeOn (keys ended.1.reads) (get store.objects) (get other.objects) = rw e.touched same in
    rw (state_alike schema (get store.objects) (get other.objects) tx names (Some 0) ended.0 ended.1 refl e.had same2) e.ran
