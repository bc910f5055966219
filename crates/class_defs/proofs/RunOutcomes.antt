-- What the outcome of a run says of the store behind it.
use Rattle.std.proofs.Common.{◌≡◌, arith, Bool, true, false, cond, List, [], ◌∷◌, length, Option, Some, None, Result, Ok, Err, refl, ◌∙◌}
use Rattle.std.proofs.lemmas.Bool.Decides.{nat_tests}
use Rattle.std.specs.BTreeMap.{is_at}
use Rattle.std.specs.Map.{lookup}
use Rattle.std.specs.Prelude.{◌==◌}
use Rattle.thor_value.proofs.FiniteMap.{get-insert}
use Rattle.thor_value.proofs.NameOrders.{oref_total}
use Rattle.thor_value.specs.FiniteMap.{Map, get, keys, insert, overwrite}
use Rattle.thor_value.specs.Names.{oref_cmp}
use Rattle.thor_value.specs.declared.names.Oref.{Oref}
use Rattle.thor_value.specs.declared.values.Answer.TheVariants as answer
use Rattle.thor_value.specs.declared.values.Fault.{Fault}
use Rattle.class_defs.specs.Run.{takes, Ran, begun, execute_all, ran_by, run, world_of}
use Rattle.class_defs.specs.declared.machine.Flow.{Flow}
use Rattle.class_defs.specs.declared.machine.Machine.{Machine}
use Rattle.class_defs.specs.declared.machine.Stop.{Stop}
use Rattle.class_defs.specs.declared.machine.Stop.TheVariants as stop
use Rattle.class_defs.specs.declared.statements.Stmt.{Stmt}
use Rattle.class_defs.specs.declared.store.Object.{Object}
use Rattle.class_defs.specs.declared.store.Plain.{Plain}
use Rattle.class_defs.specs.declared.store.Schema.{Schema}

-- what a run that ended in a fault says of itself
pub record GivenUp (store : Plain) (names : List Oref) (r : Ran) : Type 0 where
  pub left : r.store ≡ store
  pub written : r.written ≡ []
  pub untaken : names ≡ []

-- what a run that is defined, on this store and with these names, says of itself
pub record Behind (store : Plain) (names : List Oref) (r : Ran) : Type 0 where
  pub fault : (f : Fault) → r.answer ≡ answer.Fault f → GivenUp store names r
  pub objects : (x : Oref) → lookup (is_at (oref_cmp x)) r.written ≡ None → get r.store.objects x ≡ get store.objects x
  pub epoch : r.store.epoch ≡ store.epoch
  pub roots : r.store.roots ≡ store.roots

apart : (b : Bool) (v : Object) (o rest : Option Object) → cond b (Some v) o ≡ None → cond b (Some v) rest ≡ rest
apart true v o rest h = cc
apart false v o rest h = refl

behind_apart : (b : Bool) (v : Object) (o : Option Object) → cond b (Some v) o ≡ None → o ≡ None
behind_apart true v o h = cc
behind_apart false v o h = h

pub get-overwrite : (m : Map oref_cmp Object) (kvs : List (Oref × Object)) (x : Oref) → lookup (is_at (oref_cmp x)) kvs ≡ None → get (overwrite m kvs) x ≡ get m x
get-overwrite m [] x h = refl
get-overwrite m (kv ∷ kvs) x h =
    get-overwrite (insert m kv.0 kv.1) kvs x (behind_apart _ kv.1 _ h)
    ∙ get-insert oref_total m kv.0 kv.1 x
    ∙ apart _ kv.1 _ (get m x) h

none : (names : List Oref) → (length names == 0) ≡ true → names ≡ []
none [] h = refl
none (x ∷ xs) h = grind (arith, nat_tests)

through : (b : Bool) (store : Plain) (names : List Oref) (whole : Ran) (r : Ran) → Behind store names whole → cond b (Some whole) None ≡ Some r → Behind store names r
through true store names whole r h is = let e : whole ≡ r = cc in rw (← e) h
through false store names whole r h is = cc

into : (b : Bool) (store : Plain) (names : List Oref) (f : Fault) (m : Machine) (r : Ran) → (length names == 0) ≡ b
    → cond b (Some (record { answer = answer.Fault f; touched = keys m.reads; written = []; store = store })) None ≡ Some r → Behind store names r
into true store names f m r empty is = through true store names _ r (record {
  fault = λ g h. record { left = refl; written = refl; untaken = none names empty };
  objects = λ x h. refl;
  epoch = refl;
  roots = refl;
}) is
into false store names f m r empty is = cc

pub ran : (store : Plain) (names : List Oref) (outcome : Result Flow Stop) (m : Machine) (r : Ran) → ran_by store names outcome m ≡ Some r → Behind store names r
ran store names (Ok flow) m r is =
    through (takes m.created names) store names _ r (record {
      fault = λ f h. cc;
      objects = λ x h. get-overwrite store.objects m.writes.pairs x h;
      epoch = refl;
      roots = refl;
    }) is
ran store names (Err (stop.Fault f)) m r is = into (length names == 0) store names f m r refl is
ran store names (Err (stop.Need x owners)) m r is = cc
ran store names (Err (stop.NeedName repo)) m r is = cc

pub run_behind : (schema : Schema) (tx : List Stmt) (store : Plain) (names : List Oref) (r : Ran) → run schema tx store names ≡ Some r → Behind store names r
unfolding run
run_behind schema tx store names r is =
    let ended = execute_all (world_of schema store) tx (begun names (Some 0)) in
    ran store names ended.0 ended.1 r is
