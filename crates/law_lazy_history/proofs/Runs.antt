-- A transaction that runs on the store which a stored map stands for, and what the map behind it stands for.
use Rattle.class_defs.proofs.Levels.{due_is}
use Rattle.class_defs.specs.Eager.{eager, value, values}
use Rattle.class_defs.specs.Epochs.{schema_at}
use Rattle.class_defs.specs.KeptOwnership.{AllKeepClasses}
use Rattle.class_defs.specs.Levels.{is_due}
use Rattle.class_defs.specs.Ownership.{IsAbove}
use Rattle.class_defs.specs.Run.{Ran as RanOn, begun, changed, execute_all, ran_by, run, world_of}
use Rattle.class_defs.specs.Stored.{Objects, Stored, in_epoch}
use Rattle.class_defs.specs.WellOwned.{IsWellOwned}
use Rattle.class_defs.specs.declared.machine.Flow.{Flow}
use Rattle.class_defs.specs.declared.machine.Machine.{Machine}
use Rattle.class_defs.specs.declared.machine.Stop.TheVariants as stop
use Rattle.class_defs.specs.declared.machine.Stop.{Stop}
use Rattle.class_defs.specs.declared.statements.Stmt.{Stmt}
use Rattle.class_defs.specs.declared.store.Object.{Object}
use Rattle.class_defs.specs.declared.store.Plain.{Plain}
use Rattle.class_defs.specs.declared.store.Schema.{Schema}
use Rattle.class_defs.specs.declared.store.Schemas.{Schemas}
use Rattle.law_lazy_upgrade.proofs.Moving.{sorted-each}
use Rattle.law_lazy_upgrade.proofs.Shrinking.{value_early}
use Rattle.law_lazy_upgrade.proofs.Unseen.{value_below}
use Rattle.law_lazy_upgrade.proofs.Values.{get-each, value_stays}
use Rattle.serial_model.specs.History.{run_on}
use Rattle.std.proofs.Common.{Bool, List, [], ap, arith, false, refl, subst, sym, true, ℕ, ◌≡◌, ◌≤◌, ◌∙◌, ◌∷◌}
use Rattle.std.specs.Option.{option_and_then, option_map, option_or}
use Rattle.std.specs.Ordering.{eq_by_cmp}
use Rattle.std.specs.Prelude.{Err, None, Ok, Option, Result, Some, cond, length, nat_eq}
use Rattle.thor_value.proofs.FiniteMap.{IsSorted-insert, get-insert, same_map}
use Rattle.thor_value.proofs.NameOrders.{oref_exact, oref_total}
use Rattle.thor_value.specs.FiniteMap.{IsSorted, Map, empty, get, insert, overwrite}
use Rattle.thor_value.specs.Names.{oref_cmp}
use Rattle.thor_value.specs.declared.names.Oref.{Oref}
use Rattle.thor_value.specs.declared.values.Obj.{Obj}
use Rattle.law_lazy_history.specs.Standing.{WritesApart, left_at}

-- ---- writes on a map

module _ {X : Type 0} where
  over : (x : Oref) (d : Option X) (m n : Map oref_cmp X) (ws : List (Oref × X)) → get m x ≡ option_or (get n x) d → get (overwrite m ws) x ≡ option_or (get (overwrite n ws) x) d
  over x d m n [] h = h
  over x d m n (w ∷ ws) h = over x d (insert m w.0 w.1) (insert n w.0 w.1) ws (
      get-insert oref_total m w.0 w.1 x
      ∙ by_key (eq_by_cmp oref_cmp x w.0)
      ∙ ap (λ o. option_or o d) (sym (get-insert oref_total n w.0 w.1 x)))
    where
      by_key : (e : Bool) → cond e (Some w.1) (get m x) ≡ option_or (cond e (Some w.1) (get n x)) d
      by_key true = refl
      by_key false = h

  -- what stands at a name behind some writes
  pub get-left : (x : Oref) (m : Map oref_cmp X) (ws : List (Oref × X)) → get (overwrite m ws) x ≡ option_or (left_at ws x) (get m x)
  get-left x m ws = over x (get m x) m empty ws refl

  pub sorted-left : (m : Map oref_cmp X) (ws : List (Oref × X)) → IsSorted m → IsSorted (overwrite m ws)
  sorted-left m [] h = h
  sorted-left m (w ∷ ws) h = sorted-left (insert m w.0 w.1) ws (IsSorted-insert oref_total m w.0 w.1 h)

-- ---- the store behind a run

some_ran : {A : Type 0} (r : RanOn) → ◌≡◌ {A = Option RanOn} None (Some r) → A
some_ran r e = cc

through : (store : Plain) (b : Bool) (a r : RanOn) → a.store ≡ changed store a.written → cond b (Some a) None ≡ Some r → r.store ≡ changed store r.written
through store true a r h e = subst (λ (x : RanOn). x.store ≡ changed store x.written) (same e) h
  where
    same : Some a ≡ Some r → a ≡ r
    same e = Rattle.std.proofs.lemmas.Option.same_Some a r e
through store false a r h e = some_ran r e

changed_by : (store : Plain) (names : List Oref) (o : Result Flow Stop) (m : Machine) (r : RanOn) → ran_by store names o m ≡ Some r → r.store ≡ changed store r.written
changed_by store names (Ok flow) m r e = through store (Rattle.class_defs.specs.Run.takes m.created names) _ r refl e
changed_by store names (Err (stop.Fault f)) m r e = through store (nat_eq (length names) 0) _ r refl e
changed_by store names (Err (stop.Need x owners)) m r e = some_ran r e
changed_by store names (Err (stop.NeedName repo)) m r e = some_ran r e

run_changed : (schema : Schema) (tx : List Stmt) (store : Plain) (names : List Oref) (r : RanOn) → run schema tx store names ≡ Some r → r.store ≡ changed store r.written
unfolding run
run_changed schema tx store names r e =
    let ended = execute_all (world_of schema store) tx (begun names (Some 0)) in
    changed_by store names ended.0 ended.1 r e

pub ran_changed : (s : Schemas) (store : Plain) (tx : List Stmt) (names : List Oref) (r : RanOn) → run_on s store tx names ≡ Some r → r.store ≡ changed store r.written
ran_changed s store tx names r e = by (schema_at s store.epoch) e
  where
    by : (o : Option Schema) → option_and_then (λ schema. run schema tx store names) o ≡ Some r → r.store ≡ changed store r.written
    by None e = some_ran r e
    by (Some schema) e = run_changed schema tx store names r e

-- ---- what the map behind it stands for

module _ (s : Schemas) (N : Stored) (sorted : IsSorted N.objects) (ws : List (Oref × Obj)) (written : List (Oref × Object))
    (is : (x : Oref) → left_at ws x ≡ option_map (in_epoch N.epoch) (left_at written x)) where
  abbrev behind : Objects
  behind = overwrite N.objects ws

  module _ (same : (x : Oref) (o : Obj) → get N.objects x ≡ Some o → left_at written x ≡ None → value s behind N.epoch o ≡ value s N.objects N.epoch o) where
    at_name : (x : Oref) (w : Option Object) (o : Option Obj) → left_at written x ≡ w → get N.objects x ≡ o
        → option_or w (option_map (value s N.objects N.epoch) o) ≡ option_map (value s behind N.epoch) (option_or (option_map (in_epoch N.epoch) w) o)
    at_name x (Some v) o h k = ap Some (sym (value_early s behind N.epoch (in_epoch N.epoch v) (omega arith)))
    at_name x None None h k = refl
    at_name x None (Some o) h k = ap Some (sym (same x o k h))

    at_each : (x : Oref) → get (overwrite (values s N.objects N.epoch) written) x ≡ get (values s behind N.epoch) x
    at_each x =
        get-left x (values s N.objects N.epoch) written
        ∙ ap (option_or (left_at written x)) (get-each (value s N.objects N.epoch) N.objects x)
        ∙ at_name x (left_at written x) (get N.objects x) refl refl
        ∙ ap (option_map (value s behind N.epoch)) (ap (λ w. option_or w (get N.objects x)) (sym (is x)) ∙ sym (get-left x N.objects ws))
        ∙ sym (get-each (value s behind N.epoch) behind x)

    pub eager_changed : changed (eager s N) written ≡ eager s (record N { objects = behind })
    eager_changed = ap (λ (m : Map oref_cmp Object). record { objects = m; epoch = N.epoch; roots = N.roots })
        (same_map oref_total oref_exact (overwrite (values s N.objects N.epoch) written) (values s behind N.epoch)
        (sorted-left (values s N.objects N.epoch) written (sorted-each (value s N.objects N.epoch) N.objects sorted))
        (sorted-each (value s behind N.epoch) behind (sorted-left N.objects ws sorted)) at_each)

  -- without upgrades each value is what is stored
  pub same_at_first : N.epoch ≡ 0 → (x : Oref) (o : Obj) → get N.objects x ≡ Some o → left_at written x ≡ None → value s behind N.epoch o ≡ value s N.objects N.epoch o
  unfolding value
  same_at_first first x o k h = subst (λ e. value s behind e o ≡ value s N.objects e o) (sym first) refl

  -- with upgrades, where nothing was written below what is due
  pub same_apart : AllKeepClasses s N.epoch → IsWellOwned s N → WritesApart s N ws → (x : Oref) (o : Obj) → get N.objects x ≡ Some o → left_at written x ≡ None → value s behind N.epoch o ≡ value s N.objects N.epoch o
  same_apart keeps owned apart x o k h = by (is_due s N.epoch o) refl
    where
      unwritten : is_due s N.epoch o ≡ true → (n : ℕ) (z : Oref) → IsAbove s N.objects n x z → (w : Option Obj) → left_at ws z ≡ w → get N.objects z ≡ option_or w (get N.objects z)
      unwritten due n z above None e = refl
      unwritten due n z above (Some v) e = absurd (apart n x z o v k due above e)

      by : (d : Bool) → is_due s N.epoch o ≡ d → value s behind N.epoch o ≡ value s N.objects N.epoch o
      by true due = sym (value_below s N behind x o N.epoch keeps owned k (omega arith) (λ n z above. unwritten due n z above (left_at ws z) refl ∙ sym (get-left z N.objects ws)))
      by false undue = let lag = sym (due_is s N.epoch o) ∙ undue in value_stays s behind N.epoch o lag ∙ sym (value_stays s N.objects N.epoch o lag)
