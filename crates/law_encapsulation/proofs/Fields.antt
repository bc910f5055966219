-- Reading and writing the fields of `this`, and making an object, as far as parts go.
use Rattle.class_defs.proofs.ActionWords.{over}
use Rattle.class_defs.proofs.KeptRules.{there as something}
use Rattle.class_defs.specs.Objects.{assign_field, assign_receiver, create, create_in, field_at, field_of_receiver, field_value, make, name_at, new_object, repo_for, scope_at, seen, stand_in_from, stand_in_name, take_name}
use Rattle.class_defs.specs.Ownership.{type_at}
use Rattle.class_defs.specs.Rules.{Sight, is_part, scope_of}
use Rattle.class_defs.specs.Steps.{World, beginning}
use Rattle.class_defs.specs.Types.{class_named, field_named, field_of, field_type, fields_of, type_named, typed}
use Rattle.class_defs.specs.declared.classes.Class.{Class}
use Rattle.class_defs.specs.declared.classes.Field.{Field}
use Rattle.class_defs.specs.declared.expressions.At.{At}
use Rattle.class_defs.specs.declared.limits.TheConstants.{CREATE_LIMIT, STAND_IN_LIMIT}
use Rattle.class_defs.specs.declared.machine.Machine.{Machine}
use Rattle.class_defs.specs.declared.machine.NameSupply.{NameSupply}
use Rattle.class_defs.specs.declared.machine.Receiver.{Receiver}
use Rattle.class_defs.specs.declared.machine.Stop.TheVariants as stop
use Rattle.class_defs.specs.declared.machine.Stop.{Stop}
use Rattle.class_defs.specs.declared.rules.NamedType.{NamedType}
use Rattle.class_defs.specs.declared.store.Object.{Object}
use Rattle.class_defs.specs.declared.store.Schema.{Schema}
use Rattle.class_defs.specs.declared.types.ExprType.TheVariants as type
use Rattle.class_defs.specs.declared.types.ExprType.{ExprType}
use Rattle.law_type_soundness.proofs.FitCalls.{sight_of}
use Rattle.law_type_soundness.proofs.FitKinds.{scope_is}
use Rattle.law_type_soundness.proofs.FitNames.{placed, taken}
use Rattle.law_type_soundness.proofs.FitObjects.{FieldFound, find_field, fitted_is}
use Rattle.law_type_soundness.proofs.FitValues.{field_there}
use Rattle.law_type_soundness.specs.Fits.{MachineFits, ObjectsFit, ThisFits, ValueFits}
use Rattle.law_encapsulation.proofs.Made.{age, age-less, age-more, age-new, among-cases, among-new, is_among}
use Rattle.law_encapsulation.proofs.Steps.{Any, Goes, TidyAt, still, stops}
use Rattle.law_encapsulation.proofs.Tidy.{CanReach, IsFresh, IsPartAt, Owner, grows_made, grows_no, newest, sees, tidy_made, tidy_set, unowned}
use Rattle.law_encapsulation.specs.Owning.{OwnsIn}
use Rattle.std.proofs.Common.{Bool, List, [], ap, arith, cond, false, inl, inr, length, map, refl, subst, sym, true, ℕ, zero, suc, ◌+◌, ◌++◌, ◌<◌, ◌≡◌, ◌∙◌, ◌∷◌}
use Rattle.std.proofs.lemmas.Bool.Decides.{nat_tests}
use Rattle.std.proofs.lemmas.List.Folds.{find_at}
use Rattle.std.proofs.lemmas.Bool.{or_cases, or_right}
use Rattle.std.proofs.lemmas.Option.{none-some}
use Rattle.std.specs.List.{position_or_len}
use Rattle.std.specs.Option.{option_and_then, option_map}
use Rattle.std.specs.Prelude.{Err, None, Ok, Option, Result, Some, find, is_some, nat_lt, position, remove, slice_get, ◌==◌, ◌⊎◌}
use Rattle.thor_value.specs.FiniteMap.{has, insert}
use Rattle.thor_value.specs.declared.names.Oref.{Oref}
use Rattle.thor_value.specs.declared.values.Fault.TheVariants as fault
use Rattle.thor_value.specs.declared.values.Value.TheVariants as value
use Rattle.thor_value.specs.declared.values.Value.{Value}

no_receiver : {A : Type 0} (r : Receiver) → ◌≡◌ {A = Option Receiver} None (Some r) → A
no_receiver r e = cc

-- a part class is a class
part_is_class : (classes : List Class) (k : ExprType) → is_part classes k ≡ true → (c : ℕ) × (k ≡ type.Class c)
part_is_class classes (type.Class c) h = (c, refl)
part_is_class classes type.Int h = cc
part_is_class classes type.Text h = cc
part_is_class classes type.Null h = cc
part_is_class classes type.Untold h = cc

-- a field of a class with this declaration
type_there : (classes : List Class) (c i : ℕ) (g : Field) → slice_get (fields_of classes c) i ≡ Some g → type_at classes c i ≡ Some (type_named classes g.type_name)
type_there classes c i g is = ap (option_map (λ (f : Field). type_named classes f.type_name)) is

declared_there : (classes : List Class) (o : Option Field) (t : ExprType) → option_map (λ (f : Field). type_named classes f.type_name) o ≡ Some t → (g : Field) × (o ≡ Some g) × (type_named classes g.type_name ≡ t)
declared_there classes None t h = cc
declared_there classes (Some g) t h = (g, refl, cc)

-- ---- what an owner names is there

class_is_there : (o : Option Object) (d : ℕ) → option_map (λ (p : Object). p.class) o ≡ Some d → is_some o ≡ true
class_is_there None d h = cc
class_is_there (Some p) d h = refl

module _ (schema : Schema) where
  same_value : (a b : Value) → ◌≡◌ {A = Option Value} (Some a) (Some b) → a ≡ b
  same_value a b e = cc

  pub owned_there : (f : Oref → Option Object) → ObjectsFit schema f → (b y : Oref) (i : ℕ) → OwnsIn schema.classes f b i y → is_some (f y) ≡ true
  owned_there f fit b y i h =
      let g = declared_there schema.classes (slice_get (fields_of schema.classes h.object.class) i) (type.Class h.class) h.refers.declared in
      let v = field_there f schema.classes (fields_of schema.classes h.object.class) h.object.fields i g.0 (fit.each b h.object h.stands).fields g.1 in
      let is : v.0 ≡ value.Ref y = same_value v.0 (value.Ref y) (sym v.1.0 ∙ h.refers.names) in
      class_is_there (f y) h.class (subst (λ (u : Value). ValueFits f (type.Class h.class) u) is (subst (λ (k : ExprType). ValueFits f k v.0) g.2 v.1.1))

-- ---- names that are taken

find_passes : {X : Type 0} (test : X → Bool) (xs : List X) (x : X) → find test xs ≡ Some x → test x ≡ true
find_passes test [] x h = cc
find_passes test (y ∷ ys) x h = by (test y) refl h (find_passes test ys x)
  where
    by : (b : Bool) → test y ≡ b → cond b (Some y) (find test ys) ≡ Some x → (find test ys ≡ Some x → test x ≡ true) → test x ≡ true
    by true e h more = let same : y ≡ x = cc in subst (λ z. test z ≡ true) same e
    by false e h more = more h

same_repo : (x : Oref) (repo : ℕ) → (x.repo == repo) ≡ true → x.repo ≡ repo
same_repo x repo h = grind (arith, nat_tests)

from_waiting : (names : NameSupply) (repo i : ℕ) (x : Option Oref) (n : Oref × NameSupply) → position_or_len (λ (y : Oref). y.repo == repo) names.waiting ≡ i → slice_get names.waiting i ≡ x
    → option_map (λ (y : Oref). (y, record names { waiting = remove names.waiting i })) x ≡ Some n → n.0.repo ≡ repo
from_waiting names repo i (Some x) n at is h =
    let e : (x, record names { waiting = remove names.waiting i }) ≡ n = cc in
    ap (λ (p : Oref × NameSupply). p.0.repo) (sym e) ∙ same_repo x repo (find_passes (λ (y : Oref). y.repo == repo) names.waiting x (find_at (λ (y : Oref). y.repo == repo) names.waiting ∙ ap (slice_get names.waiting) at ∙ is))
from_waiting names repo i None n at is h = cc

next_stand_in : (b : Bool) (names : NameSupply) (k : ℕ) (n : Oref × NameSupply) → cond b (Some (stand_in_name k, record names { stand_in = Some (k + 1) })) None ≡ Some n → n.0.repo ≡ 255
next_stand_in true names k n h = let e : (stand_in_name k, record names { stand_in = Some (k + 1) }) ≡ n = cc in ap (λ (p : Oref × NameSupply). p.0.repo) (sym e)
next_stand_in false names k n h = cc

from_stand_in : (names : NameSupply) (s : Option ℕ) (n : Oref × NameSupply) → stand_in_from names s ≡ Some n → n.0.repo ≡ 255
from_stand_in names None n h = cc
from_stand_in names (Some k) n h = next_stand_in (nat_lt k STAND_IN_LIMIT) names k n h

from_place : (names : NameSupply) (repo : ℕ) (p : Option ℕ) (n : Oref × NameSupply) → position (λ (y : Oref). y.repo == repo) names.waiting ≡ p → name_at names p ≡ Some n → (n.0.repo ≡ repo) ⊎ (n.0.repo ≡ 255)
from_place names repo (Some i) n at h = inl (from_waiting names repo i (slice_get names.waiting i) n (placed _ _ i at).1 refl h)
from_place names repo None n at h = inr (from_stand_in names names.stand_in n h)

pub taken_near : (names : NameSupply) (repo : ℕ) (n : Oref × NameSupply) → take_name repo names ≡ Some n → (n.0.repo ≡ repo) ⊎ (n.0.repo ≡ 255)
unfolding take_name
taken_near names repo n h = from_place names repo (position (λ (y : Oref). y.repo == repo) names.waiting) n refl h

-- ---- an object as it begins names nothing

begins_bare : (k : ExprType) (y : Oref) → beginning k ≡ value.Ref y → ⊥
begins_bare type.Int y h = cc
begins_bare type.Text y h = cc
begins_bare type.Null y h = cc
begins_bare (type.Class c) y h = cc
begins_bare type.Untold y h = cc

pub new_bare : (classes : List Class) (fs : List Field) (i : ℕ) (y : Oref) → slice_get (map (λ (f : Field). beginning (type_named classes f.type_name)) fs) i ≡ Some (value.Ref y) → ⊥
new_bare classes [] i y h = cc
new_bare classes (f ∷ fs) zero y h = begins_bare (type_named classes f.type_name) y cc
new_bare classes (f ∷ fs) (suc i) y h = new_bare classes fs i y h

module _ (schema : Schema) (repos : ℕ) (E : Oref → Option Object) (t : Option ℕ) (r : ExprType) (l : List NamedType) where
  abbrev w : World
  w = over schema E

  abbrev s : Sight
  s = sight_of schema repos t r l

  -- ---- making an object

  -- a new object is fresh for `this`
  abbrev pub NewFor : Value → Machine → Type 0
  NewFor v n = (x : Oref) → v ≡ value.Ref x → (q : Receiver) → n.this ≡ Some q → IsFresh schema.classes E n.writes n.created q.oref x

  owned_seen : (m : Machine) → MachineFits w s m → (b y : Oref) (i : ℕ) → Owner schema.classes E m.writes b i y → is_some (sees schema.classes E m.writes y) ≡ true
  unfolding seen
  owned_seen m h b y i own = owned_there schema (sees schema.classes E m.writes) h.objects b y i own

  made_goes : (c repo : ℕ) (m : Machine) (n : Oref × NameSupply) → ((q : Receiver) → m.this ≡ Some q → repo ≡ q.oref.repo) → take_name repo m.names ≡ Some n → MachineFits w s m → TidyAt schema repos E m
      → let o = record m { writes = insert m.writes n.0 (new_object w c); created = m.created ++ n.0 ∷ []; names = n.1 } in Goes schema repos E NewFor m (Ok (value.Ref n.0)) o
  unfolding seen new_object
  made_goes c repo m n near took h tidy = record {
    tidy = tidy_made schema.classes E m.writes m.created m.reads m.this tidy n.0 (new_object w c) none bare there;
    grows = grows_made schema.classes E m.writes m.created m.reads m.this tidy n.0 (new_object w c) none bare there;
    good = λ a e x is q at. fresh a x e is q at;
  }
    where
      none : sees schema.classes E m.writes n.0 ≡ None
      none = (taken (seen w m) (length m.created) (new_object w c) repo m.names n h.names took).new

      bare : (i : ℕ) (y : Oref) → slice_get (new_object w c).fields i ≡ Some (value.Ref y) → ⊥
      bare i y e = new_bare schema.classes (fields_of schema.classes c) i y e

      there : (b y : Oref) (i : ℕ) → Owner schema.classes E m.writes b i y → is_some (sees schema.classes E m.writes y) ≡ true
      there = owned_seen m h

      ref_is : (x y : Oref) → value.Ref x ≡ value.Ref y → x ≡ y
      ref_is x y e = cc

      ok_is : (a b : Value) → ◌≡◌ {A = Result Value Stop} (Ok a) (Ok b) → a ≡ b
      ok_is a b e = cc

      fresh_itself : (q : Receiver) → m.this ≡ Some q → IsFresh schema.classes E (insert m.writes n.0 (new_object w c)) (m.created ++ n.0 ∷ []) q.oref n.0
      fresh_itself q at = record {
        made = among-new m.created n.0;
        unowned = λ b i own. unowned schema.classes E m.writes m.created m.reads m.this tidy n.0 (new_object w c) none bare there b i own;
        near = elim (taken_near m.names repo n took) [
          | inl e ↦ inl (sym (e ∙ near q at))
          | inr e ↦ inr e
        ];
        rises = λ was. older was (is_among m.created q.oref) refl;
      }
        where
          new_age : age (m.created ++ n.0 ∷ []) n.0 ≡ length m.created
          new_age = age-new m.created n.0 (newest schema.classes E m.writes m.created m.reads m.this tidy n.0 (new_object w c) none bare there)

          older : is_among (m.created ++ n.0 ∷ []) q.oref ≡ true → (b : Bool) → is_among m.created q.oref ≡ b → age (m.created ++ n.0 ∷ []) q.oref < age (m.created ++ n.0 ∷ []) n.0
          older was true e =
              let less : age m.created q.oref < length m.created = age-less m.created q.oref e in
              subst (λ k. k < age (m.created ++ n.0 ∷ []) n.0) (sym (age-more m.created (n.0 ∷ []) q.oref e)) (subst (λ k. age m.created q.oref < k) (sym new_age) less)
          older was false e = absurd (is_none (sees schema.classes E m.writes n.0) (ap (λ y. is_some (sees schema.classes E m.writes y)) (sym (among-cases m.created n.0 q.oref false e was refl)) ∙ this_seen t m.this h.this q at) none)
            where
              is_none : (p : Option Object) → is_some p ≡ true → p ≡ None → ⊥
              is_none None k i = cc
              is_none (Some v) k i = cc

              this_seen : (u : Option ℕ) (p : Option Receiver) → ThisFits (seen w m) u p → (q : Receiver) → p ≡ Some q → is_some (sees schema.classes E m.writes q.oref) ≡ true
              this_seen u None k q at = no_receiver q at
              this_seen None (Some p) k q at = absurd k
              this_seen (Some d) (Some p) k q at = let same : p ≡ q = cc in subst (λ (x : Receiver). is_some (sees schema.classes E m.writes x.oref) ≡ true) same (class_is_there (sees schema.classes E m.writes p.oref) d k.1)

      fresh : (a : Value) (x : Oref) → ◌≡◌ {A = Result Value Stop} (Ok (value.Ref n.0)) (Ok a) → a ≡ value.Ref x → (q : Receiver) → m.this ≡ Some q
          → IsFresh schema.classes E (insert m.writes n.0 (new_object w c)) (m.created ++ n.0 ∷ []) q.oref x
      fresh a x e is q at = subst (λ y. IsFresh schema.classes E (insert m.writes n.0 (new_object w c)) (m.created ++ n.0 ∷ []) q.oref y) (ref_is n.0 x (ok_is (value.Ref n.0) a e ∙ is)) (fresh_itself q at)

  make_goes : (c repo : ℕ) (m : Machine) (n : Option (Oref × NameSupply)) → ((q : Receiver) → m.this ≡ Some q → repo ≡ q.oref.repo) → take_name repo m.names ≡ n → MachineFits w s m → TidyAt schema repos E m
      → Goes schema repos E NewFor m (make w c repo n m).0 (make w c repo n m).1
  make_goes c repo m (Some n) near took h tidy = made_goes c repo m n near took h tidy
  make_goes c repo m None near took h tidy = stops schema repos E NewFor m (stop.NeedName repo) tidy

  few_goes : (b : Bool) (c repo : ℕ) (m : Machine) → ((q : Receiver) → m.this ≡ Some q → repo ≡ q.oref.repo) → MachineFits w s m → TidyAt schema repos E m
      → let made : Result Value Stop × Machine = cond b (make w c repo (take_name repo m.names) m) (Err (stop.Fault fault.Large), m) in Goes schema repos E NewFor m made.0 made.1
  few_goes true c repo m near h tidy = make_goes c repo m (take_name repo m.names) near refl h tidy
  few_goes false c repo m near h tidy = stops schema repos E NewFor m (stop.Fault fault.Large) tidy

  create_in_goes : (repo : ℕ) (o : Option ℕ) (m : Machine) → ((q : Receiver) → m.this ≡ Some q → repo ≡ q.oref.repo) → MachineFits w s m → TidyAt schema repos E m
      → Goes schema repos E NewFor m (create_in w repo o m).0 (create_in w repo o m).1
  create_in_goes repo None m near h tidy = still schema repos E NewFor m value.Null tidy (λ x is q at. cc)
  create_in_goes repo (Some c) m near h tidy = few_goes (nat_lt (length m.created) CREATE_LIMIT) c repo m near h tidy

  near_this : (p : Option Receiver) (at : Option At) (q : Receiver) → p ≡ Some q → repo_for p at ≡ q.oref.repo
  near_this None at q is = no_receiver q is
  near_this (Some p) at q is = let same : p ≡ q = cc in ap (λ (x : Receiver). x.oref.repo) same

  pub create_goes : (class : List ℕ) (at : Option At) (m : Machine) → MachineFits w s m → TidyAt schema repos E m
      → Goes schema repos E NewFor m (create w class at m).0 (create w class at m).1
  unfolding create
  create_goes class at m h tidy = create_in_goes (repo_for m.this at) (class_named schema.classes class) m (λ q is. near_this m.this at q is) h tidy

  -- ---- the fields of `this`

  abbrev field_of_this : Option ℕ → List ℕ → Option Field
  field_of_this c name = option_and_then (λ k. field_of schema.classes k name) c

  typed_as : (o : Option Field) (d : Field) → o ≡ Some d → typed schema.classes (option_map (λ (g : Field). g.type_name) o) ≡ type_named schema.classes d.type_name
  typed_as o d is = rw is refl

  -- `this` owns an object by a field
  pub record OwnedByThis (m : Machine) (x : Oref) : Type 0 where
    pub receiver : Receiver
    pub this : m.this ≡ Some receiver
    pub place : ℕ
    pub owner : Owner schema.classes E m.writes receiver.oref place x

  -- what `this` owns may be read
  reach_by : (m : Machine) (q : Receiver) → m.this ≡ Some q → TidyAt schema repos E m → (i : ℕ) (x : Oref) → Owner schema.classes E m.writes q.oref i x → (b : Bool) → is_among m.created x ≡ b
      → CanReach schema.classes E m.reads m.created x
  reach_by m q at tidy i x own true made = inl (or_right (has m.reads x) (is_among m.created x) made)
  reach_by m q at tidy i x own false made =
      let before : OwnsIn schema.classes E q.oref i x = tidy.old q.oref x i made own in
      let read : has m.reads q.oref ≡ true = was_read before (or_cases (has m.reads q.oref) (is_among m.created q.oref) (tidy.this q at)) in
      inr (λ o is part. (q.oref, i, before, read))
    where
      was_read : OwnsIn schema.classes E q.oref i x → (has m.reads q.oref ≡ true) ⊎ (is_among m.created q.oref ≡ true) → has m.reads q.oref ≡ true
      was_read before (inl k) = k
      was_read before (inr k) = absurd (none-some before.object (sym (tidy.new q.oref k) ∙ before.stands))

  -- what an owned field of `this` names is owned by `this`
  owned_of : (m : Machine) (c : Option ℕ) (p : Option Receiver) (name : List ℕ) → m.this ≡ p → ObjectsFit schema (seen w m) → ThisFits (seen w m) c p
      → is_some (field_of_this c name) ≡ true → field_type (scope_at schema m) name ≡ typed schema.classes (option_map (λ (g : Field). g.type_name) (field_of_this c name))
      → (x : Oref) → field_of_receiver w m p name ≡ value.Ref x → is_part schema.classes (typed schema.classes (option_map (λ (g : Field). g.type_name) (field_of_this c name))) ≡ true
      → OwnedByThis m x
  unfolding seen
  owned_of m None p name at objects this is kind x v part = cc
  owned_of m (Some c) None name at objects this is kind x v part = absurd this
  owned_of m (Some c) (Some q) name at objects this is kind x v part =
      let d = something (field_of schema.classes c name) is in
      let found : FieldFound (sees schema.classes E m.writes) schema.classes q.oref c name d.0 = find_field schema (sees schema.classes E m.writes) q.oref c name d.0 objects this.1 d.1 in
      let stands : field_at (sees schema.classes E m.writes q.oref) (field_named schema.classes q.class name) ≡ Some found.value = rw (this.0, found.of.at, found.named) found.stands in
      let e = typed_as (field_of schema.classes c name) d.0 d.1 in
      let same : field_of_receiver w m (Some q) name ≡ found.value = rw (kind, stands, e, fitted_is (sees schema.classes E m.writes) (type_named schema.classes d.0.type_name) found.value found.fits) refl in
      let k = part_is_class schema.classes (type_named schema.classes d.0.type_name) (subst (λ j. is_part schema.classes j ≡ true) e part) in
      record {
        receiver = q;
        this = at;
        place = found.place;
        owner = record {
          object = found.of.object;
          stands = found.of.at;
          class = k.0;
          part = subst (λ j. is_part schema.classes j ≡ true) (e ∙ k.1) part;
          refers = record {
            declared = ap (λ j. type_at schema.classes j found.place) found.of.class ∙ type_there schema.classes c found.place d.0 found.field ∙ ap Some k.1;
            names = found.stands ∙ ap Some (sym same ∙ v);
          };
        };
      }

  pub field_owned : (m : Machine) (name : List ℕ) → MachineFits w s m → is_some (field_of_this t name) ≡ true
      → (x : Oref) → field_value w m name ≡ value.Ref x → is_part schema.classes (field_type (scope_of s) name) ≡ true → OwnedByThis m x
  unfolding field_value
  field_owned m name h is x v part =
      owned_of m t m.this name refl h.objects h.this is (ap (λ k. field_type k name) (scope_is (seen w m) s m h.this h.locals)) x v part

  -- so it may be read
  pub field_goes : (m : Machine) (name : List ℕ) → MachineFits w s m → TidyAt schema repos E m → is_some (field_of_this t name) ≡ true
      → (x : Oref) → field_value w m name ≡ value.Ref x → is_part schema.classes (field_type (scope_of s) name) ≡ true → CanReach schema.classes E m.reads m.created x
  field_goes m name h tidy is x v part =
      let owned = field_owned m name h is x v part in
      reach_by m owned.receiver owned.this tidy owned.place x owned.owner (is_among m.created x) refl

  -- ---- a field is given a value

  assign_of : (m : Machine) (c : Option ℕ) (p : Option Receiver) (name : List ℕ) (v : Value) → m.this ≡ p → ObjectsFit schema (seen w m) → ThisFits (seen w m) c p → TidyAt schema repos E m
      → is_some (field_of_this c name) ≡ true
      → (is_part schema.classes (typed schema.classes (option_map (λ (g : Field). g.type_name) (field_of_this c name))) ≡ true → NewFor v m)
      → Goes schema repos E {A = Unit {0}} Any m (Ok tt) (assign_receiver w p name v m)
  unfolding seen
  assign_of m None p name v at objects this tidy is new = cc
  assign_of m (Some c) None name v at objects this tidy is new = absurd this
  assign_of m (Some c) (Some q) name v at objects this tidy is new =
      let d = something (field_of schema.classes c name) is in
      let found : FieldFound (sees schema.classes E m.writes) schema.classes q.oref c name d.0 = find_field schema (sees schema.classes E m.writes) q.oref c name d.0 objects this.1 d.1 in
      let e = typed_as (field_of schema.classes c name) d.0 d.1 in
      let fresh : (z : Oref) → value.Ref z ≡ v → IsPartAt schema.classes found.of.object.class found.place → IsFresh schema.classes E m.writes m.created q.oref z = λ z is part.
      new (part_of d.0 found.of.object.class found.place (ap (λ j. type_at schema.classes j found.place) found.of.class ∙ type_there schema.classes c found.place d.0 found.field) e part) z (sym is) q at in
      rw (found.of.at, this.0, found.named) (record {
        tidy = tidy_set schema.classes E m.writes m.created m.reads m.this tidy q.oref found.of.object found.place v found.of.at (tidy.this q at) fresh;
        grows = grows_no schema.classes E m.created m.reads;
        good = λ a g. tt;
      })
    where
      part_of : (d : Field) (j i : ℕ) → type_at schema.classes j i ≡ Some (type_named schema.classes d.type_name)
          → typed schema.classes (option_map (λ (g : Field). g.type_name) (field_of_this (Some c) name)) ≡ type_named schema.classes d.type_name
          → IsPartAt schema.classes j i → is_part schema.classes (typed schema.classes (option_map (λ (g : Field). g.type_name) (field_of_this (Some c) name))) ≡ true
      part_of d j i declared e part =
          let same : type_named schema.classes d.type_name ≡ type.Class part.0 = one_type (type_named schema.classes d.type_name) (type.Class part.0) (sym declared ∙ part.1) in
          ap (is_part schema.classes) (e ∙ same) ∙ part.2
        where
          one_type : (a b : ExprType) → ◌≡◌ {A = Option ExprType} (Some a) (Some b) → a ≡ b
          one_type a b g = cc

  pub assign_goes : (m : Machine) (name : List ℕ) (v : Value) → MachineFits w s m → TidyAt schema repos E m → is_some (field_of_this t name) ≡ true
      → (is_part schema.classes (field_type (scope_of s) name) ≡ true → NewFor v m) → Goes schema repos E {A = Unit {0}} Any m (Ok tt) (assign_field w name v m)
  unfolding assign_field
  assign_goes m name v h tidy is new = assign_of m t m.this name v refl h.objects h.this tidy is new
