-- That checked code reads, writes and creates objects as it is owed, in a state that fits.
use Rattle.std.proofs.Common.{◌≡◌, arith, Bool, true, false, cond, List, [], ◌∷◌, ◌++◌, Option, Some, None, Result, Ok, Err, refl, ap, sym, subst, true≢false, ◌∙◌, ℕ}
use Rattle.std.specs.Prelude.{◌+◌, ◌||◌, find, is_some, length, nat_lt, option_and_then, option_map, slice_get, slice_set}
use Rattle.std.specs.Str.{bytes_eq}
use Rattle.thor_value.proofs.FiniteMap.{IsSorted-insert}
use Rattle.thor_value.proofs.NameOrders.{oref_total}
use Rattle.thor_value.specs.FiniteMap.{has, insert, len}
use Rattle.thor_value.specs.Names.{same_oref}
use Rattle.thor_value.specs.declared.names.Oref.{Oref}
use Rattle.thor_value.specs.declared.values.Fault.TheVariants as fault
use Rattle.thor_value.specs.declared.values.Value.{Value}
use Rattle.thor_value.specs.declared.values.Value.TheVariants as value
use Rattle.class_defs.proofs.SameNames.{same_itself}
use Rattle.class_defs.proofs.ActionWords.{over}
use Rattle.law_type_soundness.proofs.FitKinds.{scope_is}
use Rattle.law_type_soundness.proofs.FitNames.{Taken, each_so, taken, never_short, stands_there}
use Rattle.law_type_soundness.proofs.FitObjects.{fitted_is, value_suits, find_field, find_object, class_there, field_told, fields_told, begin_fields}
use Rattle.class_defs.proofs.KeptRules.{ClassSound, there}
use Rattle.law_type_soundness.proofs.FitStrict.{is_of_so}
use Rattle.law_type_soundness.proofs.FitSteps.{Went, keeps_no, gives, value, faults, Fits}
use Rattle.law_type_soundness.proofs.FitValues.{Keeps, put, insert_put, keeps_put, none_put, objects_put, this_keeps, locals_keep, fields_keep, fields_set}
use Rattle.class_defs.specs.Types.{IsDeclared, class_named, field_named, field_of, field_type, fields_of, type_named, typed}
use Rattle.law_type_soundness.specs.Fits.{class_of, IsNew, ValueFits, ObjectFits, ObjectsFit, NamesFit, StandInsFit, LocalsFit, ThisFits, MachineFits}
use Rattle.class_defs.specs.Objects.{seen, touch, class_found, field_value, field_of_receiver, field_at, scope_at, assign_field, assign_receiver, create, create_in, make, take_name, new_object, repo_for, stand_in_name}
use Rattle.class_defs.specs.Rules.{Sight, fits, scope_of}
use Rattle.class_defs.specs.Steps.{World, ◌>>=◌}
use Rattle.law_type_soundness.specs.Strict.{has_value, reads_field, value_of_field, writes_field}
use Rattle.class_defs.specs.declared.classes.Class.{Class}
use Rattle.class_defs.specs.declared.classes.Field.{Field}
use Rattle.class_defs.specs.declared.expressions.At.{At}
use Rattle.class_defs.specs.declared.limits.TheConstants.{CREATE_LIMIT, READ_LIMIT}
use Rattle.class_defs.specs.declared.machine.Local.{Local}
use Rattle.class_defs.specs.declared.machine.Machine.{Machine}
use Rattle.class_defs.specs.declared.machine.NameSupply.{NameSupply}
use Rattle.class_defs.specs.declared.machine.Receiver.{Receiver}
use Rattle.class_defs.specs.declared.machine.Stop.{Stop}
use Rattle.class_defs.specs.declared.machine.Stop.TheVariants as stop
use Rattle.class_defs.specs.declared.rules.NamedType.{NamedType}
use Rattle.class_defs.specs.declared.store.Object.{Object}
use Rattle.class_defs.specs.declared.store.Schema.{Schema}
use Rattle.class_defs.specs.declared.types.ExprType.{ExprType}
use Rattle.class_defs.specs.declared.types.ExprType.TheVariants as type

-- what fits among some objects, with as many objects made
record Whole (schema : Schema) (g : Oref → Option Object) (s : Sight) (q : Option Receiver) (ls : List Local) (made : ℕ)
    (n : NameSupply) : Type 0 where
  objects : ObjectsFit schema g
  this : ThisFits g s.this q
  locals : LocalsFit g s.locals ls
  names : NamesFit g made n

-- where an object is put anew, with its class, the names that wait are new still
names_put : (f : Oref → Option Object) (x : Oref) (o p : Object) (made : ℕ) (names : NameSupply) → f x ≡ Some p → NamesFit f made names
    → NamesFit (put f x o) made names
names_put f x o p made names at h =
    let apart : (y : Oref) → f y ≡ None → y ≡ x → ⊥ = λ y n e. none_some (sym n ∙ subst (λ z. f z ≡ Some p) (sym e) at) in
    record {
      waiting = each_so (IsNew f) (IsNew (put f x o)) (λ y n. (none_put f x y o n.0 (apart y n.0), n.1)) names.waiting h.waiting;
      distinct = h.distinct;
      stand_ins = stand_ins apart names.stand_in h.stand_ins;
    }
  where
    none_some : None ≡ Some p → ⊥
    none_some e = subst holds e tt
      where
        holds : Option Object → Type 0
        holds None = Unit {0}
        holds (Some q) = ⊥

    stand_ins : ((y : Oref) → f y ≡ None → y ≡ x → ⊥) → (s : Option ℕ) → StandInsFit f made s → StandInsFit (put f x o) made s
    stand_ins apart None h = tt
    stand_ins apart (Some k) h = (h.0, λ j le. none_put f x (stand_in_name j) o (h.1 j le) (apart (stand_in_name j) (h.1 j le)))

one_longer : (xs : List Oref) (x : Oref) → length (xs ++ x ∷ []) ≡ length xs + 1
one_longer [] x = refl
one_longer (y ∷ ys) x = omega (arith, one_longer ys x)

module _ (schema : Schema) (repos : ℕ) (sound : (c : ℕ) (d : Class) → slice_get schema.classes c ≡ Some d → ClassSound schema repos c d)
    (at_hand : Oref → Option Object) where
  abbrev w : World
  w = over schema at_hand

  abbrev pub sight : Option ℕ → ExprType → List NamedType → Sight
  sight t r l = record { schema = schema; repos = repos; this = t; result = r; locals = l }

  module _ (t : Option ℕ) (r : ExprType) (l : List NamedType) where
    abbrev s : Sight
    s = sight t r l

    -- a state with one object written
    written : (m : Machine) (x : Oref) (o : Object) (made : List Oref) (names : NameSupply)
        → ((c : ℕ) → class_of (seen w m) x ≡ Some c → o.class ≡ c) → ObjectFits (put (seen w m) x o) schema.classes o
        → NamesFit (put (seen w m) x o) (length made) names
        → MachineFits w s m → let n =
        record m { writes = insert m.writes x o; created = made; names = names } in Keeps (seen w m) (seen w n) × MachineFits w s n
    unfolding seen
    written m x o made names class fit new h =
        let e = insert_put m.writes at_hand x o in
        let keeps = keeps_put (seen w m) x o class in
        let P : (Oref → Option Object) → Type 0 = λ g. Keeps (seen w m) g × Whole schema g s m.this m.locals (length made) names in
        let whole = subst P (sym e) (
          keeps,
          record {
            objects = objects_put schema (seen w m) x o class h.objects fit;
            this = this_keeps (seen w m) (put (seen w m) x o) keeps t m.this h.this;
            locals = locals_keep (seen w m) (put (seen w m) x o) keeps l m.locals h.locals;
            names = new;
          },
        ) in
        (whole.0, record { objects = whole.1.objects; this = whole.1.this; locals = whole.1.locals; names = whole.1.names })

    -- ---- an object becomes a receiver

    abbrev pub Entered : ℕ → ℕ → Machine → Type 0
    Entered c found n = (found ≡ c) × MachineFits w s n

    abbrev read : Machine → Oref → Machine
    read m x = record m { reads = insert m.reads x tt }

    abbrev touched : Bool → Bool → Option Object → List Oref → Oref → Machine → Result ℕ Stop × Machine
    touched b few o owners x m =
        cond b (class_found o x owners m) (cond few ((class_found o x owners >>= (λ c. λ n. (Ok c, read n x))) m) (Err (stop.Fault fault.Large), m))

    touched_goes : (b few : Bool) (o : Option Object) (p : Object) (owners : List Oref) (x : Oref) (c : ℕ) (m : Machine) → o ≡ Some p
        → p.class ≡ c → MachineFits w s m
        → Went w ℕ (Entered c) m (touched b few o owners x m).0 (touched b few o owners x m).1 (Some (touched b few o owners x m))
    unfolding seen
    touched_goes b few None p owners x c m is class h = cc
    touched_goes true few (Some q) p owners x c m is class h = let e : q.class ≡ c = cc in value w (Entered c) m q.class (e, h)
    touched_goes false true (Some q) p owners x c m is class h =
        let e : q.class ≡ c = cc in
        gives w (Entered c) m (read m x) q.class (keeps_no w m) (λ k. k, λ k. k)
        (e, record { objects = h.objects; this = h.this; locals = h.locals; names = h.names })
    touched_goes false false (Some q) p owners x c m is class h = faults w (Entered c) m fault.Large

    -- a reference of a class is to an object of just this class
    pub touch_goes : (owners : List Oref) (x : Oref) (c : ℕ) (m : Machine) → class_of (seen w m) x ≡ Some c → MachineFits w s m
        → Went w ℕ (Entered c) m (touch w owners x m).0 (touch w owners x m).1 (Some (touch w owners x m))
    unfolding touch
    touch_goes owners x c m is h =
        let of = find_object schema (seen w m) x c h.objects is in
        touched_goes (has m.reads x || is_some (find (same_oref x) m.created)) (nat_lt (len m.reads) READ_LIMIT)
        (seen w m x) of.object owners x c m of.at of.class h

    -- ---- the fields of `this`

    abbrev field_of_this : Option ℕ → List ℕ → Option Field
    field_of_this c name = option_and_then (λ k. field_of schema.classes k name) c

    typed_as : (o : Option Field) (d : Field) → o ≡ Some d
        → typed schema.classes (option_map (λ (g : Field). g.type_name) o) ≡ type_named schema.classes d.type_name
    typed_as o d is = rw is refl

    -- a field that was read: its value is of its type, and was there
    record FieldRead (m : Machine) (kind : ExprType) (stored : Option Value) (given : Value) : Type 0 where
      pub fits : ValueFits (seen w m) kind given
      pub there : has_value (seen w m) kind stored ≡ true

    read_of : (m : Machine) (c : Option ℕ) (q : Option Receiver) (name : List ℕ) → ObjectsFit schema (seen w m) → ThisFits (seen w m) c q
        → is_some (field_of_this c name) ≡ true
        → field_type (scope_at schema m) name ≡ typed schema.classes (option_map (λ (g : Field). g.type_name) (field_of_this c name))
        → FieldRead m (typed schema.classes (option_map (λ (g : Field). g.type_name) (field_of_this c name))) (value_of_field w m q name)
        (field_of_receiver w m q name)
    read_of m None None name objects this is kind = cc
    read_of m None (Some q) name objects this is kind = absurd this
    read_of m (Some c) None name objects this is kind = absurd this
    read_of m (Some c) (Some q) name objects this is kind =
        let d = there (field_of schema.classes c name) is in
        let at = find_field schema (seen w m) q.oref c name d.0 objects this.1 d.1 in
        let stands : field_at (seen w m q.oref) (field_named schema.classes q.class name) ≡ Some at.value =
        rw (this.0, at.of.at, at.named) at.stands in
        let e = typed_as (field_of schema.classes c name) d.0 d.1 in
        record {
          fits = rw (kind, stands, e, fitted_is (seen w m) (type_named schema.classes d.0.type_name) at.value at.fits) at.fits;
          there = rw (stands, e) (is_of_so (seen w m) (type_named schema.classes d.0.type_name) at.value at.fits);
        }

    -- a field that the check found has a value of its type
    pub field_goes : (m : Machine) (name : List ℕ) → MachineFits w s m → is_some (field_of_this t name) ≡ true
        → ValueFits (seen w m) (field_type (scope_of s) name) (field_value w m name) × (reads_field w m name ≡ true)
    unfolding field_value
    field_goes m name h is =
        let kind = ap (λ k. field_type k name) (scope_is (seen w m) s m h.this h.locals) in
        let read = read_of m t m.this name h.objects h.this is kind in
        (read.fits, rw kind read.there)

    told_of : (m : Machine) (c : Option ℕ) (q : Option Receiver) (name : List ℕ) → ObjectsFit schema (seen w m) → ThisFits (seen w m) c q
        → is_some (field_of_this c name) ≡ true
        → IsDeclared (typed schema.classes (option_map (λ (g : Field). g.type_name) (field_of_this c name)))
    told_of m None q name objects this is = cc
    told_of m (Some c) None name objects this is = absurd this
    told_of m (Some c) (Some q) name objects this is =
        let d = there (field_of schema.classes c name) is in
        let class = class_there schema (seen w m) q.oref c (find_object schema (seen w m) q.oref c objects this.1) in
        rw (typed_as (field_of schema.classes c name) d.0 d.1) (field_told schema repos sound c class.0 name d.0 class.1 d.1)

    -- a field that the check found may be given a value of its type
    pub writes_so : (m : Machine) (name : List ℕ) (v : Value) (given : ExprType) → MachineFits w s m → is_some (field_of_this t name) ≡ true
        → fits (field_type (scope_of s) name) given ≡ true → ValueFits (seen w m) given v → writes_field w m name v ≡ true
    writes_so m name v given h is suits fit =
        let kind = ap (λ k. field_type k name) (scope_is (seen w m) s m h.this h.locals) in
        let good = value_suits (seen w m) (field_type (scope_of s) name) given v (told_of m t m.this name h.objects h.this is) suits fit in
        rw ((field_goes m name h is).1, kind) (is_of_so (seen w m) (field_type (scope_of s) name) v good)

    class_stays : (a : Option Object) (o : Object) (c : ℕ) → a ≡ Some o → option_map (λ (p : Object). p.class) a ≡ Some c → o.class ≡ c
    class_stays (Some p) o c is h = cc
    class_stays None o c is h = cc

    assign_of : (m : Machine) (c : Option ℕ) (q : Option Receiver) (name : List ℕ) (v : Value) (given : ExprType) → ThisFits (seen w m) c q
        → MachineFits w s m → is_some (field_of_this c name) ≡ true
        → fits (typed schema.classes (option_map (λ (g : Field). g.type_name) (field_of_this c name))) given ≡ true → ValueFits (seen w m) given v
        → Went w (Unit {0}) (Fits w s) m (Ok tt) (assign_receiver w q name v m) (Some (Ok tt, assign_receiver w q name v m))
    assign_of m None None name v given this h is suits fit = cc
    assign_of m None (Some q) name v given this h is suits fit = absurd this
    assign_of m (Some c) None name v given this h is suits fit = absurd this
    assign_of m (Some c) (Some q) name v given this h is suits fit =
        let f = seen w m in
        let d = there (field_of schema.classes c name) is in
        let at = find_field schema f q.oref c name d.0 h.objects this.1 d.1 in
        let class = class_there schema f q.oref c at.of in
        let told = field_told schema repos sound c class.0 name d.0 class.1 d.1 in
        let good : ValueFits f (type_named schema.classes d.0.type_name) v =
        value_suits f _ given v told (subst (λ k. fits k given ≡ true) (typed_as (field_of schema.classes c name) d.0 d.1) suits) fit in
        let o = record at.of.object { fields = slice_set at.of.object.fields at.place v } in
        let stays : (k : ℕ) → class_of f q.oref ≡ Some k → o.class ≡ k = λ k e. class_stays (f q.oref) at.of.object k at.of.at e in
        let there : slice_get (fields_of schema.classes at.of.object.class) at.place ≡ Some d.0 = rw at.of.class at.field in
        let set = fields_set f schema.classes (fields_of schema.classes at.of.object.class) at.of.object.fields at.place d.0 v at.of.fits.fields there good in
        let p = written m q.oref o m.created m.names stays
        (record { class = at.of.fits.class; fields = fields_keep f (put f q.oref o) (keeps_put f q.oref o stays) schema.classes _ o.fields set })
        (names_put f q.oref o at.of.object (length m.created) m.names at.of.at h.names) h in
        rw (at.of.at, this.0, at.named) (gives w (Fits w s) m _ tt p.0 (λ e. e, λ k. IsSorted-insert oref_total m.writes q.oref o k) p.1)

    -- a field is given a value of its type
    pub assign_goes : (m : Machine) (name : List ℕ) (v : Value) (given : ExprType) → MachineFits w s m → is_some (field_of_this t name) ≡ true
        → fits (field_type (scope_of s) name) given ≡ true → ValueFits (seen w m) given v
        → Went w (Unit {0}) (Fits w s) m (Ok tt) (assign_field w name v m) (Some (Ok tt, assign_field w name v m))
    unfolding assign_field
    assign_goes m name v given h is suits fit = assign_of m t m.this name v given h.this h is suits fit

    -- ---- new objects

    -- a value of a type, in a state that fits
    abbrev pub Valued : ExprType → Value → Machine → Type 0
    Valued k v n = MachineFits w s n × ValueFits (seen w n) k v

    made_goes : (c : ℕ) (d : Class) (m : Machine) (n : Oref × NameSupply) → slice_get schema.classes c ≡ Some d
        → Taken (seen w m) (length m.created) m.names (new_object w c) n → MachineFits w s m
        → let o = record m { writes = insert m.writes n.0 (new_object w c); created = m.created ++ n.0 ∷ []; names = n.1 } in
        Went w Value (Valued (type.Class c)) m (Ok (value.Ref n.0)) o (Some (Ok (value.Ref n.0), o))
    unfolding new_object seen
    made_goes c d m n is took h =
        let f = seen w m in
        let o = new_object w c in
        let class : (k : ℕ) → class_of f n.0 ≡ Some k → o.class ≡ k = λ k e. class_of_none (f n.0) took.new k e in
        let names : NamesFit (put f n.0 o) (length (m.created ++ n.0 ∷ [])) n.1 = rw (one_longer m.created n.0) took.names in
        let p = written m n.0 o (m.created ++ n.0 ∷ []) n.1 class
        (record {
          class = rw is refl;
          fields =
              begin_fields schema repos sound (put f n.0 o) (fields_of schema.classes c) (fields_told schema repos sound c d is);
        }) names h in
        let e = ap (λ (g : Oref → Option Object). class_of g n.0) (insert_put m.writes at_hand n.0 o) in
        gives w (Valued (type.Class c)) m _ (value.Ref n.0) p.0 (took.stands, λ k. IsSorted-insert oref_total m.writes n.0 o k)
        (p.1, e ∙ at_itself f n.0 o)
      where
        class_of_none : (a : Option Object) → a ≡ None → (k : ℕ) → option_map (λ (p : Object). p.class) a ≡ Some k → c ≡ k
        class_of_none None e k h = cc
        class_of_none (Some p) e k h = cc

        at_itself : (f : Oref → Option Object) (x : Oref) (o : Object) → class_of (put f x o) x ≡ Some o.class
        at_itself f x o = rw (same_itself x) refl

    make_goes : (c repo : ℕ) (d : Class) (m : Machine) (n : Option (Oref × NameSupply)) → slice_get schema.classes c ≡ Some d
        → take_name repo m.names ≡ n → nat_lt (length m.created) CREATE_LIMIT ≡ true
        → MachineFits w s m → Went w Value (Valued (type.Class c)) m (make w c repo n m).0 (make w c repo n m).1 (Some (make w c repo n m))
    make_goes c repo d m (Some n) is took few h =
        made_goes c d m n is (taken (seen w m) (length m.created) (new_object w c) repo m.names n h.names took) h
    make_goes c repo d m None is took few h = record {
      keeps = keeps_no w m;
      had = tt;
      stays = (λ k. k, λ k. k);
      supply = λ stocked. absurd (none_there (take_name repo m.names) took
          (never_short (seen w m) (length m.created) (new_object w c) repo m.names stocked h.names few));
      good = λ a e. cc;
      same = refl;
    }
      where
        none_there : (o : Option (Oref × NameSupply)) → o ≡ None → is_some o ≡ true → ⊥
        none_there o e k = true≢false (sym k ∙ ap is_some e)

    few_goes : (b : Bool) (c repo : ℕ) (d : Class) (m : Machine) → slice_get schema.classes c ≡ Some d
        → (b ≡ true → nat_lt (length m.created) CREATE_LIMIT ≡ true) → MachineFits w s m
        → let made = cond b (make w c repo (take_name repo m.names) m) (Err (stop.Fault fault.Large), m) in Went w Value
        (Valued (type.Class c)) m made.0 made.1 (Some made)
    few_goes true c repo d m is few h = make_goes c repo d m _ is refl (few refl) h
    few_goes false c repo d m is few h = faults w (Valued (type.Class c)) m fault.Large

    create_in_goes : (repo : ℕ) (o : Option ℕ) (c : ℕ) (m : Machine) → o ≡ Some c → is_some (slice_get schema.classes c) ≡ true → MachineFits w s m
        → Went w Value (Valued (type.Class c)) m (create_in w repo o m).0 (create_in w repo o m).1 (Some (create_in w repo o m))
    create_in_goes repo None c m is known h = cc
    create_in_goes repo (Some k) c m is known h =
        let e : c ≡ k = cc in
        let d = there (slice_get schema.classes c) known in
        subst (λ (i : ℕ). Went w Value (Valued (type.Class c)) m (create_in w repo (Some i) m).0 (create_in w repo (Some i) m).1
        (Some (create_in w repo (Some i) m))) e
        (few_goes (nat_lt (length m.created) CREATE_LIMIT) c repo d.0 m d.1 (λ k. k) h)

    -- a new object is of its class
    pub create_goes : (class : List ℕ) (at : Option At) (c : ℕ) (m : Machine) → class_named schema.classes class ≡ Some c → MachineFits w s m
        → Went w Value (Valued (type.Class c)) m (create w class at m).0 (create w class at m).1 (Some (create w class at m))
    unfolding create
    create_goes class at c m is h =
        create_in_goes (repo_for m.this at) (class_named schema.classes class) c m is
        (stands_there (λ (d : Class). bytes_eq d.name.text class) schema.classes c is) h
