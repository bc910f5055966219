-- What a stored map stands for, where it fits, is a store that fits the schema of its epoch.
use Rattle.class_defs.proofs.KeptRules.{schema_sound, there as something, type_told}
use Rattle.class_defs.specs.Eager.{eager, value, values}
use Rattle.class_defs.specs.Epochs.{classes_of, no_schema, schema_at}
use Rattle.class_defs.specs.KeptOwnership.{AllKeepClasses}
use Rattle.class_defs.specs.Objects.{stand_in_name}
use Rattle.class_defs.specs.Ownership.{Names, Owns, Refers}
use Rattle.class_defs.specs.Rules.{is_part, is_type}
use Rattle.class_defs.specs.Run.{Ran, begun, execute_all, ran_by, run, takes, world_of}
use Rattle.class_defs.specs.SchemaRules.{schema_rules}
use Rattle.class_defs.specs.Steps.{fitted}
use Rattle.class_defs.specs.Stored.{Stored, all_written, in_epoch}
use Rattle.class_defs.specs.Types.{IsDeclared, class_named, fields_of, type_named, class_or_word}
use Rattle.class_defs.specs.WellOwned.{IsOfItsClass, IsWellOwned}
use Rattle.class_defs.specs.declared.classes.Class.{Class}
use Rattle.class_defs.specs.declared.classes.Field.{Field}
use Rattle.class_defs.specs.declared.machine.Flow.{Flow}
use Rattle.class_defs.specs.declared.machine.Machine.{Machine}
use Rattle.class_defs.specs.declared.machine.Stop.TheVariants as stop
use Rattle.class_defs.specs.declared.machine.Stop.{Stop}
use Rattle.class_defs.specs.declared.statements.Stmt.{Stmt}
use Rattle.class_defs.specs.declared.store.Object.{Object}
use Rattle.class_defs.specs.declared.store.Plain.{Plain}
use Rattle.class_defs.specs.declared.store.Root.{Root}
use Rattle.class_defs.specs.declared.store.RootDeclaration.{RootDeclaration}
use Rattle.class_defs.specs.declared.store.Schema.{Schema}
use Rattle.class_defs.specs.declared.store.Schemas.{Schemas}
use Rattle.class_defs.specs.declared.types.ExprType.TheVariants as type
use Rattle.class_defs.specs.declared.types.ExprType.{ExprType}
use Rattle.law_type_soundness.proofs.FitObjects.{fields_told}
use Rattle.law_type_soundness.specs.Fits.{FieldsFit, Fresh, IsNew, RootFits, StoreFits, ValueFits, class_of}
use Rattle.law_lazy_upgrade.proofs.OwnedMaps.{all_kinds, all_owned, all_owns}
use Rattle.law_lazy_upgrade.proofs.Shrinking.{same_kind}
use Rattle.law_lazy_upgrade.proofs.Values.{get-each}
use Rattle.law_ownership.specs.Checked.{CheckedRun, RootsStand}
use Rattle.law_encapsulation.proofs.Runs.{run_keeps}
use Rattle.law_encapsulation.specs.Owning.{KeepsParts, OwnsIn}
use Rattle.serial_model.specs.History.{are_fresh}
use Rattle.std.proofs.Common.{Bool, List, [], ap, arith, cond, false, length, not, refl, subst, sym, true, ℕ, zero, suc, ◌≡◌, ◌∙◌, ◌∷◌}
use Rattle.std.proofs.lemmas.Bool.Decides.{nat_tests}
use Rattle.std.proofs.lemmas.Bool.{and_parts, not-true, or_parts}
use Rattle.std.specs.List.{AllByRecursion, IsDistinct, list_any}
use Rattle.std.specs.Option.{IsSomeAnd, option_map, unwrap_or}
use Rattle.std.specs.Prelude.{Err, None, Ok, Option, Result, Some, is_some, slice_get, ◌==◌, ◌&&◌, ◌||◌}
use Rattle.law_lazy_history.specs.Standing.{MapFits}
use Rattle.thor_value.specs.FiniteMap.{get}
use Rattle.thor_value.specs.Names.{same_oref}
use Rattle.thor_value.specs.declared.names.Oref.{Oref}
use Rattle.thor_value.specs.declared.values.Obj.{Obj}
use Rattle.thor_value.specs.declared.values.Value.TheVariants as value_form
use Rattle.thor_value.specs.declared.values.Value.{Value}

pub some_and : {X : Type 0} (o : Option X) (P : X → Type 0) → IsSomeAnd o P → (x : X) × (o ≡ Some x) × P x
some_and None P h = absurd h
some_and (Some x) P h = (x, refl, h)

-- a value of its kind, whose reference is to an object of the class
value_fits : (f : Oref → Option Object) (t : ExprType) (w : Value) → IsDeclared t → fitted t w ≡ w → ((d : ℕ) (z : Oref) → t ≡ type.Class d → w ≡ value_form.Ref z → class_of f z ≡ Some d) → ValueFits f t w
value_fits f type.Int (value_form.Int n) told is refers = tt
value_fits f type.Text (value_form.Int n) told is refers = cc
value_fits f type.Text (value_form.Text n) told is refers = tt
value_fits f type.Int (value_form.Text n) told is refers = cc
value_fits f type.Int (value_form.Ref x) told is refers = cc
value_fits f type.Text (value_form.Ref x) told is refers = cc
value_fits f type.Int value_form.Null told is refers = cc
value_fits f type.Text value_form.Null told is refers = cc
value_fits f (type.Class c) (value_form.Int n) told is refers = cc
value_fits f (type.Class c) (value_form.Text n) told is refers = cc
value_fits f (type.Class c) (value_form.Ref x) told is refers = refers c x refl refl
value_fits f (type.Class c) value_form.Null told is refers = tt
value_fits f type.Null w told is refers = absurd told
value_fits f type.Untold w told is refers = absurd told

fields_fit : (f : Oref → Option Object) (classes : List Class) (fs : List Field) (vs : List Value) → AllByRecursion (λ (g : Field). is_type classes g.type_name ≡ []) fs → length vs ≡ length fs
    → ((i : ℕ) (g : Field) (w : Value) → slice_get fs i ≡ Some g → slice_get vs i ≡ Some w → IsDeclared (type_named classes g.type_name) → ValueFits f (type_named classes g.type_name) w) → FieldsFit f classes fs vs
fields_fit f classes [] [] told n each = tt
fields_fit f classes [] (v ∷ vs) told n each = absurd (omega (arith, n))
fields_fit f classes (g ∷ gs) [] told n each = absurd (omega (arith, n))
fields_fit f classes (g ∷ gs) (v ∷ vs) told n each = (
  each zero g v refl refl (type_told classes g.type_name told.0),
  fields_fit f classes gs vs told.1 (omega (arith, n)) (λ i h w is at. each (suc i) h w is at),
)

-- names that are fresh
fresh_names : (store : Plain) (names : List Oref) → are_fresh store names ≡ true → AllByRecursion (λ (x : Oref). get store.objects x ≡ None) names × IsDistinct same_oref names
unfolding IsDistinct
fresh_names store [] h = (tt, tt)
fresh_names store (x ∷ xs) h =
    let p = and_parts _ _ h in
    let q = and_parts _ _ p.0 in
    let more = fresh_names store xs p.1 in
    ((none (get store.objects x) q.0, more.0), (apart xs (not-true _ q.1), more.1))
  where
    none : (o : Option Object) → not (is_some o) ≡ true → o ≡ None
    none None e = refl
    none (Some v) e = cc

    apart : (ys : List Oref) → list_any (same_oref x) ys ≡ false → AllByRecursion (λ y. same_oref x y ≡ false) ys
    apart [] e = tt
    apart (y ∷ ys) e = let k = or_parts (same_oref x y) (list_any (same_oref x) ys) e in (k.0, apart ys k.1)

no_ran : {A : Type 0} (r : Ran) → ◌≡◌ {A = Option Ran} None (Some r) → A
no_ran r e = cc

-- the names that a run takes lie where no stand-in names lie
names_placed : (store : Plain) (names : List Oref) (o : Result Flow Stop) (m : Machine) (r : Ran) → ran_by store names o m ≡ Some r → list_any (λ (x : Oref). x.repo == 255) names ≡ false
names_placed store names (Ok flow) m r e = by (takes m.created names) _ refl e
  where
    by : (b : Bool) (a : Ran) → takes m.created names ≡ b → cond b (Some a) None ≡ Some r → list_any (λ (x : Oref). x.repo == 255) names ≡ false
    by true a is e = second _ _ is
      where
        second : (a b : Bool) → (a && not b) ≡ true → b ≡ false
        second true true h = cc
        second true false h = refl
        second false b h = cc
    by false a is e = no_ran r e
names_placed store names (Err (stop.Fault f)) m r e = by names (length names == 0) _ refl e
  where
    by : (ns : List Oref) (b : Bool) (a : Ran) → (length ns == 0) ≡ b → cond b (Some a) None ≡ Some r → list_any (λ (x : Oref). x.repo == 255) ns ≡ false
    by [] b a is e = refl
    by (n ∷ ns) true a is e = absurd (grind (arith, nat_tests))
    by (n ∷ ns) false a is e = no_ran r e
names_placed store names (Err (stop.Need x owners)) m r e = no_ran r e
names_placed store names (Err (stop.NeedName repo)) m r e = no_ran r e

run_placed : (schema : Schema) (tx : List Stmt) (store : Plain) (names : List Oref) (r : Ran) → run schema tx store names ≡ Some r → list_any (λ (x : Oref). x.repo == 255) names ≡ false
unfolding run
run_placed schema tx store names r e =
    let ended = execute_all (world_of schema store) tx (begun names (Some 0)) in
    names_placed store names ended.0 ended.1 r e

new_names : (store : Plain) (names : List Oref) → AllByRecursion (λ (x : Oref). get store.objects x ≡ None) names → list_any (λ (x : Oref). x.repo == 255) names ≡ false → AllByRecursion (IsNew (get store.objects)) names
new_names store [] h k = tt
new_names store (x ∷ xs) h k = by (x.repo == 255) refl k (new_names store xs h.1)
  where
    by : (b : Bool) → (x.repo == 255) ≡ b → (b || list_any (λ (y : Oref). y.repo == 255) xs) ≡ false → (list_any (λ (y : Oref). y.repo == 255) xs ≡ false → AllByRecursion (IsNew (get store.objects)) xs) → AllByRecursion (IsNew (get store.objects)) (x ∷ xs)
    by true is e more = cc
    by false is e more = ((h.0, λ at. grind (arith, nat_tests)), more e)

-- a map that fits, and the schema of its epoch, which breaks no rule and whose roots are there
module _ (s : Schemas) (N : Stored) (schema : Schema) (repos : ℕ) (epoch : schema_at s N.epoch ≡ Some schema) (rules : schema_rules schema repos ≡ []) (keeps : AllKeepClasses s N.epoch) (fits : MapFits s N) (stand : RootsStand schema N.roots) where
  abbrev pub F : Oref → Option Object
  F = get (eager s N).objects

  pub classes-are : classes_of s N.epoch ≡ schema.classes
  classes-are = ap (λ (o : Option Schema). (unwrap_or o no_schema).classes) epoch

  pub plain-at : (x : Oref) → F x ≡ option_map (value s N.objects N.epoch) (get N.objects x)
  plain-at x = get-each (value s N.objects N.epoch) N.objects x

  all_at : (x : Oref) → get (all_written (eager s N)).objects x ≡ option_map (in_epoch N.epoch) (F x)
  all_at x = get-each (in_epoch N.epoch) (values s N.objects N.epoch) x

  pub whole-owned : IsWellOwned s (all_written (eager s N))
  whole-owned = all_owned s N keeps fits.owned

  kinds_of : (x : Oref) (v : Object) → F x ≡ Some v → IsOfItsClass schema.classes v
  kinds_of x v is = subst (λ cs. IsOfItsClass cs v) classes-are (all_kinds s N keeps fits.owned fits.kinds x (in_epoch N.epoch v) (all_at x ∙ ap (option_map (in_epoch N.epoch)) is))

  declared_of : (x : Oref) (v : Object) (i d : ℕ) (z : Oref) → F x ≡ Some v → Refers schema.classes v i d z → class_of F z ≡ Some d
  declared_of x v i d z is refers =
      let names : Names s (all_written (eager s N)).objects x i d z = record {
        object = in_epoch N.epoch v;
        stored = all_at x ∙ ap (option_map (in_epoch N.epoch)) is;
        refers = subst (λ cs. Refers cs v i d z) (sym classes-are) refers;
      } in
      let k = some_and (get (all_written (eager s N)).objects z) (λ o. o.class ≡ d) (whole-owned.declared x i d z names) in
      class_there (F z) k.0 (sym (all_at z) ∙ k.1) k.2
    where
      class_there : (o : Option Object) (p : Obj) → option_map (in_epoch N.epoch) o ≡ Some p → p.class ≡ d → option_map (λ (q : Object). q.class) o ≡ Some d
      class_there None p e c = cc
      class_there (Some q) p e c = let same : in_epoch N.epoch q ≡ p = cc in ap Some (ap (λ (o : Obj). o.class) same ∙ c)

  roots_fit : (ds : List RootDeclaration) → AllByRecursion (λ (d : RootDeclaration). (i : ℕ) × (q : Root) × (slice_get N.roots i ≡ Some q) × (q.oref ≡ d.oref) × (class_named schema.classes d.class.text ≡ Some q.class)) ds → AllByRecursion (RootFits F schema.classes) ds
  roots_fit [] k = tt
  roots_fit (d ∷ ds) k =
      let i : ℕ = k.0.0 in
      let q : Root = k.0.1 in
      let found = some_and (get (all_written (eager s N)).objects q.oref) (λ o. o.class ≡ q.class) (whole-owned.roots i q k.0.2).1 in
      (subst (λ o. ValueFits F (class_or_word d.class.text o) (value_form.Ref d.oref)) (sym k.0.4) (subst (λ x. class_of F x ≡ Some q.class) k.0.3 (class_there (F q.oref) found.0 q.class (sym (all_at q.oref) ∙ found.1) found.2)), roots_fit ds k.1)
    where
      class_there : (o : Option Object) (p : Obj) (c : ℕ) → option_map (in_epoch N.epoch) o ≡ Some p → p.class ≡ c → option_map (λ (q : Object). q.class) o ≡ Some c
      class_there None p c e g = cc
      class_there (Some q) p c e g = let same : in_epoch N.epoch q ≡ p = cc in ap Some (ap (λ (o : Obj). o.class) same ∙ g)

  pub store-fits : StoreFits schema (eager s N)
  store-fits = record {
    each = λ x v is.
        let k = kinds_of x v is in
        let sound = schema_sound schema repos rules in
        let c = something (slice_get schema.classes v.class) k.class in
        record {
          class = k.class;
          fields = fields_fit F schema.classes (fields_of schema.classes v.class) v.fields (fields_told schema repos sound v.class c.0 c.1) k.count
              (λ i g w at val told. value_fits F (type_named schema.classes g.type_name) w told (k.kinds i (type_named schema.classes g.type_name) w (ap (option_map (λ (f : Field). type_named schema.classes f.type_name)) at) val)
              (λ d z t v_is. declared_of x v i d z is (record { declared = ap (option_map (λ (f : Field). type_named schema.classes f.type_name)) at ∙ ap Some t; names = val ∙ ap Some v_is })));
        };
    roots = roots_fit schema.roots stand;
  }

  -- a class keeps its kind
  pub part-at : (d : ℕ) → is_part schema.classes (type.Class d) ≡ is_part (classes_of s 0) (type.Class d)
  part-at d = ap (λ cs. is_part cs (type.Class d)) (sym classes-are) ∙ same_kind s N.epoch keeps N.epoch (omega arith) (type.Class d)

  -- an owner in what the map stands for is one in the map
  pub owns-stored : (a : Oref) (i : ℕ) (z : Oref) → OwnsIn schema.classes F a i z → (j : ℕ) × Owns s N.objects a j z
  owns-stored a i z own = all_owns s N keeps fits.owned a i z (record {
    class = own.class;
    part = sym (part-at own.class) ∙ own.part;
    reference = record {
      object = in_epoch N.epoch own.object;
      stored = all_at a ∙ ap (option_map (in_epoch N.epoch)) own.stands;
      refers = subst (λ cs. Refers cs own.object i own.class z) (sym classes-are) own.refers;
    };
  })

module _ (s : Schemas) (N : Stored) (schema : Schema) (repos : ℕ) (tx : List Stmt) (names : List Oref) (r : Ran) (h : CheckedRun s N schema repos tx names r) where
  abbrev pub E : Oref → Option Object
  E = get (eager s N).objects

  pub classes_are : classes_of s N.epoch ≡ schema.classes
  classes_are = classes-are s N schema repos h.epoch h.rules h.keeps h.fits h.roots

  pub plain_at : (x : Oref) → E x ≡ option_map (value s N.objects N.epoch) (get N.objects x)
  plain_at = plain-at s N schema repos h.epoch h.rules h.keeps h.fits h.roots

  pub whole_owned : IsWellOwned s (all_written (eager s N))
  whole_owned = whole-owned s N schema repos h.epoch h.rules h.keeps h.fits h.roots

  pub store_fits : StoreFits schema (eager s N)
  store_fits = store-fits s N schema repos h.epoch h.rules h.keeps h.fits h.roots

  pub store_fresh : Fresh (eager s N) names
  store_fresh =
      let k = fresh_names (eager s N) names h.fresh in
      record {
        waiting = new_names (eager s N) names k.0 (run_placed schema tx (eager s N) names r h.ran);
        distinct = k.1;
        stand_ins = λ j. plain_at (stand_in_name j) ∙ absent (stand_in_name j) (get N.objects (stand_in_name j)) refl refl;
      }
    where
      absent : (x : Oref) (o : Option Obj) → get N.objects x ≡ o → x.repo ≡ 255 → option_map (value s N.objects N.epoch) o ≡ None
      absent x None is at = refl
      absent x (Some o) is at = absurd (h.placed x o is at)

  pub parts_kept : KeepsParts schema (eager s N) r
  parts_kept = run_keeps schema repos tx (eager s N) names r h.rules h.item store_fits store_fresh h.ran
