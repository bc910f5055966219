-- A view of a whole store reads and changes as the store does.
use Rattle.std.proofs.Common.{is_some, IfOk, OnOk, ◌≤◌, if◌then◌else◌, length, ◌==◌, Result, Ok, Err, subst, ◌≡◌, ℕ, Bool, true, false, cond, List, [], ◌∷◌, map, Option, Some, None, option_map, refl, ap, sym, ◌∙◌, nat_lt, arith}
use Rattle.std.proofs.Math.Path.{fun_ext}
use Rattle.std.proofs.lemmas.Bool.Decides.{nat_tests}
use Rattle.std.specs.BTreeMap.{insert_entry, is_at}
use Rattle.std.specs.List.{AllByRecursion}
use Rattle.std.specs.Map.{lookup}
use Rattle.std.specs.Ordering.{match_ordering}
use Rattle.std.specs.declared.cmp.Ordering.TheVariants.{Less, Equal, Greater}
use Rattle.thor_value.specs.FiniteMap.{Map, get, has, insert, overwrite}
use Rattle.thor_value.specs.Names.{oref_cmp}
use Rattle.thor_value.specs.declared.memory.NoMemory.{NoMemory}
use Rattle.thor_value.specs.declared.names.Oref.{Oref}
use Rattle.thor_value.specs.declared.values.Obj.{Obj}
use Rattle.thor_value.specs.declared.values.Answer.{Answer}
use Rattle.thor_value.specs.declared.values.Answer.TheVariants as answer
use Rattle.class_defs.specs.Run.{begun, execute_all, ran_by, run, takes}
use Rattle.class_defs.specs.Steps as steps
use Rattle.class_defs.specs.Steps.{World}
use Rattle.class_defs.specs.declared.machine.Flow.{Flow}
use Rattle.class_defs.specs.declared.machine.Machine.{Machine}
use Rattle.class_defs.specs.declared.machine.Stop.{Stop}
use Rattle.class_defs.specs.declared.machine.Stop.TheVariants as stop
use Rattle.class_defs.specs.declared.statements.Stmt.{Stmt}
use Rattle.class_defs.specs.declared.store.Plain.{Plain}
use Rattle.class_defs.specs.declared.store.Root.{Root}
use Rattle.class_defs.specs.declared.store.Object.{Object}
use Rattle.class_defs.specs.declared.store.Schema.{Schema}
use Rattle.method_eval.specs.Names.{Names, free, listed, orefs, supply, waiting}
use Rattle.method_eval.specs.Answers.{stored_at, ran_at, evaluation}
use Rattle.method_eval.specs.declared.view.Ran.{Ran}
use Rattle.method_eval.specs.declared.view.Ran.TheVariants.{Done, Need, NeedName}
use Rattle.method_eval.specs.declared.view.View.{View}
use Rattle.class_defs.specs.Applied.{number_of}
use Rattle.class_defs.specs.Stored.{bare}
use Rattle.method_eval.specs.Viewed.{current, seen_in}
use Rattle.serial_model.specs.Replaying.{effect, effect_of, RanOn, Settles}
use Rattle.serial_model.specs.Whole.{bare_objects, plain, IsFirst, NoneDue, IsOfItsEpoch}

-- an object without its version, at its name
abbrev pair : Oref × Obj → Oref × Object
pair p = (p.0, bare p.1)

lookup_bare : (test : Oref → Bool) (es : List (Oref × Obj)) → lookup test (map pair es) ≡ option_map bare (lookup test es)
lookup_bare test [] = refl
lookup_bare test (e ∷ es) =
    elim (test e.0) as (λ b. cond b (Some (bare e.1)) (lookup test (map pair es)) ≡ option_map bare (cond b (Some e.1) (lookup test es))) [
      | true ↦ refl
      | false ↦ lookup_bare test es
    ]

pub get_bare : (m : Map oref_cmp Obj) (x : Oref) → get (bare_objects m) x ≡ option_map bare (get m x)
get_bare m x = lookup_bare (is_at (oref_cmp x)) m.pairs

insert_entry_bare : (es : List (Oref × Obj)) (x : Oref) (o : Obj) → map pair (insert_entry oref_cmp es x o) ≡ insert_entry oref_cmp (map pair es) x (bare o)
insert_entry_bare [] x o = refl
insert_entry_bare (e ∷ es) x o =
    elim (oref_cmp x e.0) as (λ c. map pair (match_ordering c ((x, o) ∷ e ∷ es) ((e.0, o) ∷ es) (e ∷ insert_entry oref_cmp es x o)) ≡ match_ordering c ((x, bare o) ∷ map pair (e ∷ es)) ((e.0, bare o) ∷ map pair es) (pair e ∷ insert_entry oref_cmp (map pair es) x (bare o))) [
      | Less ↦ refl
      | Equal ↦ refl
      | Greater ↦ ap (λ fs. pair e ∷ fs) (insert_entry_bare es x o)
    ]

pub insert_bare : (m : Map oref_cmp Obj) (x : Oref) (o : Obj) → bare_objects (insert m x o) ≡ insert (bare_objects m) x (bare o)
insert_bare m x o = ap (λ es. record { pairs = es }) (insert_entry_bare m.pairs x o)

pub overwrite_bare : (m : Map oref_cmp Obj) (epoch : ℕ) (written : List (Oref × Object)) → bare_objects (overwrite m (stored_at epoch written)) ≡ overwrite (bare_objects m) written
overwrite_bare m epoch [] = refl
overwrite_bare m epoch (w ∷ ws) =
    let o : Obj = record { class = w.1.class; ver = epoch; fields = w.1.fields } in
    overwrite_bare (insert m w.0 o) epoch ws ∙ ap (λ n. overwrite n ws) (insert_bare m w.0 o)

none_behind : (n k : ℕ) → k ≤ n → nat_lt n k ≡ false
none_behind n k h = grind (arith, nat_tests)

-- where no object is due, a view reads each as the store does
current_found : (schema : Schema) (test : Oref → Bool) (es : List (Oref × Obj)) → AllByRecursion (λ p. number_of schema.upgraded p.1.class ≤ p.1.ver) es → current schema (lookup test es) ≡ option_map bare (lookup test es)
current_found schema test [] none = refl
current_found schema test (e ∷ es) none =
    elim (test e.0) as (λ b. current schema (cond b (Some e.1) (lookup test es)) ≡ option_map bare (cond b (Some e.1) (lookup test es))) [
      | true ↦ rw (none_behind e.1.ver (number_of schema.upgraded e.1.class) none.0) refl
      | false ↦ current_found schema test es none.1
    ]

at_hand_bare : (schema : Schema) (view : View) → NoneDue schema view → (x : Oref) → current schema (get view.objects x) ≡ get (bare_objects view.objects) x
at_hand_bare schema view none x = current_found schema (is_at (oref_cmp x)) view.objects.pairs none ∙ sym (get_bare view.objects x)

-- so what a run reads of the two is one thing
pub same_world : (schema : Schema) (view : View) → NoneDue schema view → let w : steps.World = record { schema = schema; at_hand = λ x. current schema (get view.objects x) } in w ≡ record { schema = schema; at_hand = get (bare_objects view.objects) }
same_world schema view none = ap (λ (f : Oref → Option Object). record { schema = schema; at_hand = f }) (fun_ext (at_hand_bare schema view none))

-- where no upgrade names a class, no object is due
first_none_due : (schema : Schema) → IsFirst schema → (es : List (Oref × Obj)) → AllByRecursion (λ p. number_of schema.upgraded p.1.class ≤ p.1.ver) es
first_none_due schema first [] = tt
first_none_due schema first (e ∷ es) = (let h = first e.1.class in omega arith, first_none_due schema first es)

pub is_none_due : (schema : Schema) (view : View) → IsFirst schema → NoneDue schema view
is_none_due schema view first = first_none_due schema first view.objects.pairs

-- what the evaluation that ended so tells of the run
abbrev pub Agrees : List Oref → List Root → View → Ran → Option (Answer × Plain) → Type 0
Agrees names roots view (Done (answer.Ints ints) reads writes fresh) e =
    e ≡ (if takes fresh names then Some (answer.Ints ints, plain roots (record view { objects = overwrite view.objects writes })) else None)
Agrees names roots view (Done (answer.Fault f) reads writes fresh) e = e ≡ (if length names == 0 then Some (answer.Fault f, plain roots view) else None)
Agrees names roots view (Need x owners) e = e ≡ None
Agrees names roots view (NeedName repo) e = e ≡ None

map_if : {X Y : Type 0} (f : X → Y) (b : Bool) (x : X) → option_map f (cond b (Some x) None) ≡ cond b (Some (f x)) None
map_if f true x = refl
map_if f false x = refl

agree : (names : List Oref) (roots : List Root) (view : View) (r : Result Flow Stop) (m : Machine) → Agrees names roots view (ran_at view.epoch r m) (option_map effect (ran_by (plain roots view) names r m))
agree names roots view (Ok flow) m =
    map_if effect (takes m.created names) _
    ∙ ap (λ objects. cond (takes m.created names) (Some (answer.Ints m.printed, record (plain roots view) { objects = objects })) None) (sym (overwrite_bare view.objects view.epoch m.writes.pairs))
agree names roots view (Err (stop.Fault f)) m = map_if effect (length names == 0) _
agree names roots view (Err (stop.Need x owners)) m = refl
agree names roots view (Err (stop.NeedName repo)) m = refl

-- all listed names wait
pub listed_wait : (names : List Oref) → orefs (waiting (map free names)) ≡ names
listed_wait [] = refl
listed_wait (x ∷ names) = ap (λ (xs : List Oref). x ∷ xs) (listed_wait names)

-- an evaluation has listed names at hand, and stand-in names behind them
pub listed_supply : (names : List Oref) → supply (listed names) ≡ record { waiting = names; stand_in = Some 0 }
listed_supply names = ap (λ (xs : List Oref). record { waiting = xs; stand_in = Some 0 }) (listed_wait names)

-- the evaluation over a whole store with the given names, and stand-in names behind them, is the run with these names
pub evaluation_is_run : (schema : Schema) (tx : List Stmt) (names : List Oref) (roots : List Root) (view : View) (supplied : Names) → NoneDue schema view → supply supplied ≡ record { waiting = names; stand_in = Some 0 } → Agrees names roots view (evaluation tx schema (record view { names = supplied })) (effect_of schema tx (plain roots view) names)
unfolding evaluation run
evaluation_is_run schema tx names roots view supplied none given =
    let P : World → Type 0 = λ w. Agrees names roots view (let r = execute_all (record { schema = schema; at_hand = λ x. current schema (get view.objects x) }) tx (begun names (Some 0)) in ran_at view.epoch r.0 r.1) (option_map effect (let r = execute_all w tx (begun names (Some 0)) in ran_by (plain roots view) names r.0 r.1)) in
    rw given (subst P (same_world schema view none) (agree names roots view _ _))

by_test : (b : Bool) (schema : Schema) (tx : List Stmt) (names : List Oref) (roots : List Root) (old after : View) (a : Answer) (taken : Option Answer) (new : View)
    → effect_of schema tx (plain roots old) names ≡ cond b (Some (a, plain roots after)) None → taken ≡ cond b (Some a) None → new ≡ cond b after old → RanOn schema tx names roots old taken new
by_test true schema tx names roots old after a taken new e t n =
    subst (λ (k : Option Answer). RanOn schema tx names roots old k new) (sym t) (e ∙ ap (λ (v : View). Some (a, plain roots v)) (sym n))
by_test false schema tx names roots old after a taken new e t n =
    subst (λ (k : Option Answer). RanOn schema tx names roots old k new) (sym t) (e, ap (plain roots) n)

same_either : (b : Bool) (v : View) → v ≡ cond b v v
same_either true v = refl
same_either false v = refl

settled : (schema : Schema) (tx : List Stmt) (names : List Oref) (roots : List Root) (old : View) (a : Answer) (reads fresh : List Oref) (writes : List (Oref × Obj)) (taken : Option Answer) (new : View)
    → Agrees names roots old (Done a reads writes fresh) (effect_of schema tx (plain roots old) names) → Settles names fresh writes old a taken new → RanOn schema tx names roots old taken new
settled schema tx names roots old (answer.Ints ints) reads fresh writes taken new e s = by_test (takes fresh names) schema tx names roots old _ _ taken new e s.0 s.1
settled schema tx names roots old (answer.Fault f) reads fresh writes taken new e s = by_test (length names == 0) schema tx names roots old old _ taken new e s.0 (s.1 ∙ same_either (length names == 0) old)

-- what is taken over of an evaluation that ended is what the run gives
pub done_ran : (schema : Schema) (tx : List Stmt) (names : List Oref) (roots : List Root) (old : View) (supplied : Names) (a : Answer) (reads fresh : List Oref) (writes : List (Oref × Obj)) (taken : Option Answer) (new : View)
    → NoneDue schema old → supply supplied ≡ record { waiting = names; stand_in = Some 0 } → Done a reads writes fresh ≡ evaluation tx schema (record old { names = supplied }) → Settles names fresh writes old a taken new → RanOn schema tx names roots old taken new
done_ran schema tx names roots old supplied a reads fresh writes taken new none given is s =
    settled schema tx names roots old a reads fresh writes taken new (subst (λ (r : Ran). Agrees names roots old r (effect_of schema tx (plain roots old) names)) (sym is) (evaluation_is_run schema tx names roots old supplied none given)) s

-- an evaluation that needs an object or a name is that of a run that is undefined
pub need_ran : (schema : Schema) (tx : List Stmt) (names : List Oref) (roots : List Root) (old : View) (supplied : Names) (x : Oref) (owners : List Oref)
    → NoneDue schema old → supply supplied ≡ record { waiting = names; stand_in = Some 0 } → Need x owners ≡ evaluation tx schema (record old { names = supplied }) → effect_of schema tx (plain roots old) names ≡ None
need_ran schema tx names roots old supplied x owners none given is = subst (λ (r : Ran). Agrees names roots old r (effect_of schema tx (plain roots old) names)) (sym is) (evaluation_is_run schema tx names roots old supplied none given)

pub need_name_ran : (schema : Schema) (tx : List Stmt) (names : List Oref) (roots : List Root) (old : View) (supplied : Names) (repo : ℕ)
    → NoneDue schema old → supply supplied ≡ record { waiting = names; stand_in = Some 0 } → NeedName repo ≡ evaluation tx schema (record old { names = supplied }) → effect_of schema tx (plain roots old) names ≡ None
need_name_ran schema tx names roots old supplied repo none given is = subst (λ (r : Ran). Agrees names roots old r (effect_of schema tx (plain roots old) names)) (sym is) (evaluation_is_run schema tx names roots old supplied none given)

epoch_either : (b : Bool) (after old new : View) → after.epoch ≡ old.epoch → new ≡ cond b after old → new.epoch ≡ old.epoch
epoch_either true after old new same is = ap (λ (v : View). v.epoch) is ∙ same
epoch_either false after old new same is = ap (λ (v : View). v.epoch) is

-- the epoch stays
pub settled_epoch : (names fresh : List Oref) (writes : List (Oref × Obj)) (old : View) (a : Answer) (taken : Option Answer) (new : View) → Settles names fresh writes old a taken new → new.epoch ≡ old.epoch
settled_epoch names fresh writes old (answer.Ints ints) taken new s = epoch_either (takes fresh names) _ old new refl s.1
settled_epoch names fresh writes old (answer.Fault f) taken new s = ap (λ (v : View). v.epoch) s.1

pub done_result : (schema : Schema) (tx : List Stmt) (names : List Oref) (old : View) (supplied : Names) (a : Answer) (reads fresh : List Oref) (writes : List (Oref × Obj)) (new : View) (r : Result (Option Answer) NoMemory)
    → NoneDue schema old → supply supplied ≡ record { waiting = names; stand_in = Some 0 } → Done a reads writes fresh ≡ evaluation tx schema (record old { names = supplied }) → IfOk r (λ t. Settles names fresh writes old a t new) → IfOk r (λ t. (roots : List Root) → RanOn schema tx names roots old t new)
done_result schema tx names old supplied a reads fresh writes new (Ok t) none given is s = λ roots. done_ran schema tx names roots old supplied a reads fresh writes t new none given is s
done_result schema tx names old supplied a reads fresh writes new (Err e) none given is s = tt

some_bare : (o : Option Obj) → is_some (option_map bare o) ≡ is_some o
some_bare None = refl
some_bare (Some o) = refl

-- a name is in the store exactly where the view has it
pub has_bare : (m : Map oref_cmp Obj) (x : Oref) → has (bare_objects m) x ≡ has m x
has_bare m x = ap is_some (get_bare m x) ∙ some_bare (get m x)

-- ---- the epochs at which objects were written, and the order of their names

put_one : (P : Obj → Type 0) (es : List (Oref × Obj)) (x : Oref) (o : Obj) → AllByRecursion (λ p. P p.1) es → P o → AllByRecursion (λ p. P p.1) (insert_entry oref_cmp es x o)
put_one P [] x o h is = (is, tt)
put_one P (e ∷ es) x o h is =
    elim (oref_cmp x e.0) as (λ c. AllByRecursion (λ p. P p.1) (match_ordering c ((x, o) ∷ e ∷ es) ((e.0, o) ∷ es) (e ∷ insert_entry oref_cmp es x o))) [
      | Less ↦ (is, h)
      | Equal ↦ (is, h.1)
      | Greater ↦ (h.0, put_one P es x o h.1 is)
    ]

put_several : (P : Obj → Type 0) (m : Map oref_cmp Obj) (ws : List (Oref × Obj)) → AllByRecursion (λ p. P p.1) m.pairs → AllByRecursion (λ p. P p.1) ws → AllByRecursion (λ p. P p.1) (overwrite m ws).pairs
put_several P m [] h is = h
put_several P m (w ∷ ws) h is = put_several P (insert m w.0 w.1) ws (put_one P m.pairs w.0 w.1 h is.0) is.1

-- what was written so has this epoch
abbrev WritesAt : ℕ → Ran → Type 0
WritesAt epoch (Done a reads writes fresh) = AllByRecursion (λ p. p.1.ver ≡ epoch) writes
WritesAt epoch (Need x owners) = Unit {0}
WritesAt epoch (NeedName repo) = Unit {0}

stored_writes : (epoch : ℕ) (ws : List (Oref × Object)) → AllByRecursion (λ p. p.1.ver ≡ epoch) (stored_at epoch ws)
stored_writes epoch [] = tt
stored_writes epoch (w ∷ ws) = (refl, stored_writes epoch ws)

ran_writes : (epoch : ℕ) (r : Result Flow Stop) (m : Machine) → WritesAt epoch (ran_at epoch r m)
ran_writes epoch (Ok flow) m = stored_writes epoch m.writes.pairs
ran_writes epoch (Err (stop.Fault f)) m = tt
ran_writes epoch (Err (stop.Need x owners)) m = tt
ran_writes epoch (Err (stop.NeedName repo)) m = tt

evaluation_writes : (tx : List Stmt) (schema : Schema) (view : View) → WritesAt view.epoch (evaluation tx schema view)
unfolding evaluation
evaluation_writes tx schema view =
    let r = execute_all (seen_in schema view.objects) tx (begun (supply view.names).waiting (supply view.names).stand_in) in
    ran_writes view.epoch r.0 r.1

kept_either : (P : View → Type 0) (b : Bool) (after old new : View) → P after → P old → new ≡ cond b after old → P new
kept_either P true after old new a o is = subst P (sym is) a
kept_either P false after old new a o is = subst P (sym is) o

settled_versions : (names fresh : List Oref) (writes : List (Oref × Obj)) (old : View) (a : Answer) (taken : Option Answer) (new : View) → Settles names fresh writes old a taken new → AllByRecursion (λ p. p.1.ver ≡ old.epoch) writes → IsOfItsEpoch old → IsOfItsEpoch new
settled_versions names fresh writes old (answer.Ints ints) taken new s written h = kept_either IsOfItsEpoch (takes fresh names) _ old new (put_several (λ o. o.ver ≡ old.epoch) old.objects writes h written) h s.1
settled_versions names fresh writes old (answer.Fault f) taken new s written h = subst IsOfItsEpoch (sym s.1) h

-- objects of the view's epoch stay so
pub done_versions : (schema : Schema) (tx : List Stmt) (names : List Oref) (old : View) (supplied : Names) (a : Answer) (reads fresh : List Oref) (writes : List (Oref × Obj)) (new : View) (r : Result (Option Answer) NoMemory)
    → Done a reads writes fresh ≡ evaluation tx schema (record old { names = supplied }) → IfOk r (λ t. Settles names fresh writes old a t new) → IsOfItsEpoch old → OnOk r (IsOfItsEpoch new)
done_versions schema tx names old supplied a reads fresh writes new (Ok t) is s h = settled_versions names fresh writes old a t new s (subst (WritesAt old.epoch) (sym is) (evaluation_writes tx schema (record old { names = supplied }))) h
done_versions schema tx names old supplied a reads fresh writes new (Err e) is s h = tt
