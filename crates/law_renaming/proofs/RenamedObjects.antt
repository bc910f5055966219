-- That objects are read, written and created the same way in runs whose new objects take other names.
use Rattle.std.proofs.Common.{◌≡◌, ◌⊎◌, Bool, true, false, cond, List, [], ◌∷◌, ◌++◌, Option, Some, None, Result, Ok, Err, refl, ap, sym, ◌∙◌, subst, ℕ, suc, inl, inr, length, map, append_assoc}
use Rattle.std.proofs.lemmas.Map.Views.{All-values-insert_entry, tells_apart}
use Rattle.std.proofs.lemmas.List.Elements.{All-weaker, AllZip-push, length_all_zip}
use Rattle.std.proofs.lemmas.Bool.{or_right}
use Rattle.std.specs.List.{AllByRecursion, AllZip, IsDistinct}
use Rattle.std.specs.Prelude.{All, ◌||◌, ◌==◌, find, is_some, nat_lt}
use Rattle.thor_value.proofs.FiniteMap.{get-insert}
use Rattle.thor_value.proofs.NameOrders.{oref_exact, oref_total}
use Rattle.thor_value.specs.FiniteMap.{Map, get, has, insert, len, values}
use Rattle.thor_value.specs.Names.{oref_cmp, same_oref}
use Rattle.thor_value.specs.declared.names.Oref.{Oref}
use Rattle.thor_value.specs.declared.values.Fault.TheVariants as fault
use Rattle.thor_value.specs.declared.values.Value.{Value}
use Rattle.thor_value.specs.declared.values.Value.TheVariants as value
use Rattle.class_defs.proofs.SameNames.{same_itself}
use Rattle.law_renaming.proofs.Renamed.{Both, Names, Objects, Receivers, Time, Later, Values, each_at, each_found, each_set, both_there, paired_found, paired_last, paired_split, differ, more, more_later, more_split, object_later, this_later, locals_later, names_later, same_times}
use Rattle.law_renaming.proofs.RenamedMachines.{Setting, Known, Made, Twins, now, Went, Alike, Nothing, Exact, InOrder, on, gives, fails, same_scope}
use Rattle.law_renaming.proofs.RenamedSupply.{ByStandIn, Left, all_in, Given, name_given, never_ends, takes_first, takes_in_order}
use Rattle.class_defs.specs.Objects.{seen, touch, class_found, field_value, field_of_receiver, fitted_or_beginning, field_at, first_of, scope_at, assign_field, assign_receiver, with_field, create, create_in, make, take_name, new_object, repo_for}
use Rattle.law_renaming.specs.Renaming.{Paired}
use Rattle.class_defs.specs.Steps.{after, beginning, change, fitted}
use Rattle.class_defs.specs.Types.{class_named, field_named, field_type, fields_of, type_named}
use Rattle.class_defs.specs.declared.classes.Field.{Field}
use Rattle.class_defs.specs.declared.expressions.At.{At}
use Rattle.class_defs.specs.declared.limits.TheConstants.{CREATE_LIMIT, READ_LIMIT}
use Rattle.class_defs.specs.declared.machine.Machine.{Machine}
use Rattle.class_defs.specs.declared.machine.NameSupply.{NameSupply}
use Rattle.class_defs.specs.declared.machine.Receiver.{Receiver}
use Rattle.class_defs.specs.declared.machine.Stop.{Stop}
use Rattle.class_defs.specs.declared.machine.Stop.TheVariants as stop
use Rattle.class_defs.specs.declared.store.Object.{Object}
use Rattle.class_defs.specs.declared.types.ExprType.{ExprType}
use Rattle.class_defs.specs.declared.types.ExprType.TheVariants as type

-- the two numbers are one
abbrev pub Numbers : Time → ℕ → ℕ → Type 0
Numbers t a b = a ≡ b

module _ (s : Setting) where
  -- ---- an object becomes a receiver

  class_found_same : (o p : Option Object) (x y : Oref) (owners others : List Oref) (m n : Machine) → Twins s m n → Names s.fresh (now s m n) x y
      → AllZip (Names s.fresh (now s m n)) owners others → Objects s.fresh (now s m n) o p → (Paired m.created n.created x y → is_some o ≡ true)
      → Went s Numbers (now s m n) (class_found o x owners m) (class_found p y others n)
  class_found_same (Some o) (Some p) x y owners others m n tw i os h there = gives s Numbers m n m n o.class p.class (λ a b j. j) tw h.0
  class_found_same None None x y owners others m n tw (inl e) os h there =
      fails s Numbers (now s m n) (stop.Need x owners) (stop.Need y others) m n tw (λ g f. (e.0, e.1, os))
  class_found_same None None x y owners others m n tw (inr p) os h there = let missing = there p in cc
  class_found_same (Some o) None x y owners others m n tw i os h there = absurd h
  class_found_same None (Some p) x y owners others m n tw i os h there = absurd h

  abbrev known : Machine → Oref → Bool
  known m x = has m.reads x || is_some (find (same_oref x) m.created)

  -- what was read or created by the one was so by the other, and all else has one name
  record Tested (m n : Machine) (x y : Oref) : Type 0 where
    same : known n y ≡ known m x
    old : known m x ≡ false → x ≡ y

  tested : (m n : Machine) (x y : Oref) → Twins s m n → Names s.fresh (now s m n) x y → Tested m n x y
  tested m n x y tw i = by i
    where
      same_created : is_some (find (same_oref x) m.created) ≡ is_some (find (same_oref y) n.created)
      same_created =
          both_there _ _ _ (each_found (Names s.fresh (now s m n)) (same_oref x) (same_oref y)
          (λ a b j. tw.made.one_one x y a b i j) m.created n.created tw.made.created)

      by : Names s.fresh (now s m n) x y → Tested m n x y
      by (inl e) = record { same = rw (sym same_created, tw.reads, sym e.1) refl; old = λ f. e.1 }
      by (inr p) =
          let there : is_some (find (same_oref x) m.created) ≡ true = paired_found m.created n.created x y p in
          let all : known m x ≡ true = ap (λ b. has m.reads x || b) there ∙ or_right (has m.reads x) true refl in
          let all2 : known n y ≡ true = ap (λ b. has n.reads y || b) (sym same_created ∙ there) ∙ or_right (has n.reads y) true refl in
          record { same = all2 ∙ sym all; old = λ f. cc }

  abbrev read : Machine → Oref → Machine
  read m x = record m { reads = insert m.reads x tt }

  read_same : (m n : Machine) (x y : Oref) → x ≡ y → Twins s m n → Twins s (read m x) (read n y)
  read_same m n x y e tw = record {
    steps = tw.steps;
    depth = tw.depth;
    printed = tw.printed;
    reads = rw (tw.reads, e) refl;
    this = tw.this;
    locals = tw.locals;
    made = tw.made;
  }

  abbrev touched : Bool → Bool → Option Object → List Oref → Oref → Machine → Result ℕ Stop × Machine
  touched b l o owners x m =
      cond b (class_found o x owners m) (cond l (after (class_found o x owners m).0 (class_found o x owners m).1 (λ c. λ n. (Ok c, read n x)))
      (Err (stop.Fault fault.Large), m))

  touched_same : (b c l k : Bool) (o p : Option Object) (x y : Oref) (owners others : List Oref) (m n : Machine) → c ≡ b → k ≡ l → (b ≡ false → x ≡ y)
      → Twins s m n
      → Names s.fresh (now s m n) x y → AllZip (Names s.fresh (now s m n)) owners others → Objects s.fresh (now s m n) o p
      → (Paired m.created n.created x y → is_some o ≡ true)
      → Went s Numbers (now s m n) (touched b l o owners x m) (touched c k p others y n)
  touched_same true true l k o p x y owners others m n e f old tw i os h there = class_found_same o p x y owners others m n tw i os h there
  touched_same false false true true o p x y owners others m n e f old tw i os h there =
      let a = (class_found o x owners m).1 in
      let b = (class_found p y others n).1 in
      on s Numbers Numbers (now s m n) (class_found o x owners m).0 (class_found p y others n).0 a b (λ c. λ o. (Ok c, read o x))
      (λ c. λ o. (Ok c, read o y))
      (class_found_same o p x y owners others m n tw i os h there)
      (λ c d v later now_twins. gives s Numbers a b (read a x) (read b y) c d (λ k l j. j) (read_same a b x y (old refl) now_twins) v)
  touched_same false false false false o p x y owners others m n e f old tw i os h there = fails s Numbers (now s m n) _ _ m n tw (λ g j. refl)
  touched_same true false l k o p x y owners others m n e f old tw i os h there = cc
  touched_same false true l k o p x y owners others m n e f old tw i os h there = cc
  touched_same false false true false o p x y owners others m n e f old tw i os h there = cc
  touched_same false false false true o p x y owners others m n e f old tw i os h there = cc

  pub touch_same : (x y : Oref) (owners others : List Oref) (m n : Machine) → Twins s m n → Names s.fresh (now s m n) x y
      → AllZip (Names s.fresh (now s m n)) owners others
      → Went s Numbers (now s m n) (touch s.world owners x m) (touch s.world others y n)
  unfolding touch seen
  touch_same x y owners others m n tw i os =
      let t = tested m n x y tw i in
      touched_same (known m x) (known n y) (nat_lt (len m.reads) READ_LIMIT) (nat_lt (len n.reads) READ_LIMIT) (seen s.world m x)
      (seen s.world n y) x y owners others m n
      t.same (ap (λ (r : Map oref_cmp (Unit {0})). nat_lt (len r) READ_LIMIT) tw.reads) t.old tw i os (tw.made.seen x y i) (tw.made.there x y)

  -- ---- the fields of `this`

  pub begins_same : (t : Time) (k : ExprType) → Values s.fresh t (beginning k) (beginning k)
  begins_same t type.Int = refl
  begins_same t type.Text = refl
  begins_same t type.Null = tt
  begins_same t (type.Class c) = tt
  begins_same t type.Untold = tt

  fitted_same : (t : Time) (k : ExprType) (v u : Value) → Values s.fresh t v u → Values s.fresh t (fitted k v) (fitted k u)
  fitted_same t type.Int (value.Int a) (value.Int b) h = h
  fitted_same t type.Int (value.Text a) (value.Text b) h = refl
  fitted_same t type.Text (value.Int a) (value.Int b) h = refl
  fitted_same t type.Text (value.Text a) (value.Text b) h = h
  fitted_same t type.Int (value.Ref x) (value.Ref y) h = refl
  fitted_same t type.Text (value.Ref x) (value.Ref y) h = refl
  fitted_same t type.Int value.Null value.Null h = refl
  fitted_same t type.Text value.Null value.Null h = refl
  fitted_same t (type.Class c) (value.Int a) (value.Int b) h = tt
  fitted_same t (type.Class c) (value.Text a) (value.Text b) h = tt
  fitted_same t (type.Class c) (value.Ref x) (value.Ref y) h = h
  fitted_same t (type.Class c) value.Null value.Null h = tt
  fitted_same t type.Null v u h = tt
  fitted_same t type.Untold v u h = tt
  fitted_same t k v u h = absurd h

  fitted_or_same : (t : Time) (k : ExprType) (v u : Option Value) → Both (Values s.fresh t) v u
      → Values s.fresh t (fitted_or_beginning k v) (fitted_or_beginning k u)
  fitted_or_same t k (Some v) (Some u) h = fitted_same t k v u h
  fitted_or_same t k None None h = begins_same t k
  fitted_or_same t k (Some v) None h = absurd h
  fitted_or_same t k None (Some u) h = absurd h

  field_at_same : (t : Time) (o p : Option Object) (i : Option ℕ) → Objects s.fresh t o p → Both (Values s.fresh t) (field_at o i) (field_at p i)
  field_at_same t (Some o) (Some p) (Some i) h = each_at (Values s.fresh t) o.fields p.fields i h.1
  field_at_same t (Some o) (Some p) None h = tt
  field_at_same t None None i h = tt
  field_at_same t (Some o) None i h = absurd h
  field_at_same t None (Some p) i h = absurd h

  field_same : (m n : Machine) (r q : Option Receiver) (name : List ℕ) → Twins s m n → Both (Receivers s.fresh (now s m n)) r q
      → Values s.fresh (now s m n) (field_of_receiver s.world m r name) (field_of_receiver s.world n q name)
  unfolding seen
  field_same m n None None name tw h = tt
  field_same m n (Some r) (Some q) name tw h =
      let e : field_type (scope_at s.world.schema n) name ≡ field_type (scope_at s.world.schema m) name =
      ap (λ c. field_type c name) (same_scope s m n tw) in
      let f : field_named s.world.schema.classes q.class name ≡ field_named s.world.schema.classes r.class name =
      ap (λ c. field_named s.world.schema.classes c name) h.class in
      rw (e, f) (fitted_or_same (now s m n) _ _ _ (field_at_same (now s m n) (seen s.world m r.oref) (seen s.world n q.oref)
      (field_named s.world.schema.classes r.class name) (tw.made.seen r.oref q.oref h.oref)))
  field_same m n (Some r) None name tw h = absurd h
  field_same m n None (Some q) name tw h = absurd h

  pub field_value_same : (m n : Machine) (name : List ℕ) → Twins s m n
      → Values s.fresh (now s m n) (field_value s.world m name) (field_value s.world n name)
  unfolding field_value
  field_value_same m n name tw = field_same m n m.this n.this name tw tw.this

  -- ---- an object is written

  picked : (t : Time) (b c : Bool) (v u : Object) (o p : Option Object) → b ≡ c → Objects s.fresh t (Some v) (Some u) → Objects s.fresh t o p
      → Objects s.fresh t (cond b (Some v) o) (cond c (Some u) p)
  picked t true true v u o p e h i = h
  picked t false false v u o p e h i = i
  picked t true false v u o p e h i = cc
  picked t false true v u o p e h i = cc

  picked_seen : (t : Time) (b c : Bool) (v u : Object) (o p d e : Option Object) → b ≡ c → Objects s.fresh t (Some v) (Some u)
      → Objects s.fresh t (first_of o d) (first_of p e)
      → Objects s.fresh t (first_of (cond b (Some v) o) d) (first_of (cond c (Some u) p) e)
  picked_seen t true true v u o p d e f h i = h
  picked_seen t false false v u o p d e f h i = i
  picked_seen t true false v u o p d e f h i = cc
  picked_seen t false true v u o p d e f h i = cc

  stays_seen : (b : Bool) (v : Object) (o d : Option Object) → is_some (first_of o d) ≡ true → is_some (first_of (cond b (Some v) o) d) ≡ true
  stays_seen true v o d h = refl
  stays_seen false v o d h = h

  only_by : (t : Time) (ws : Map oref_cmp Object) (a b x : Oref) (v : Object) → Names s.fresh t a b
      → ((y : Oref) → has ws y ≡ true → (z : Oref) × Names s.fresh t y z) → (c : Bool) → same_oref x a ≡ c
      → is_some (cond c (Some v) (get ws x)) ≡ true → (z : Oref) × Names s.fresh t x z
  only_by t ws a b x v i only true e h = (b, subst (λ z. Names s.fresh t z b) (sym (tells_apart oref_exact x a e)) i)
  only_by t ws a b x v i only false e h = only x h

  only_put : (t : Time) (ws : Map oref_cmp Object) (a b : Oref) (v : Object) → Names s.fresh t a b
      → ((y : Oref) → has ws y ≡ true → (z : Oref) × Names s.fresh t y z)
      → (x : Oref) → has (insert ws a v) x ≡ true → (z : Oref) × Names s.fresh t x z
  only_put t ws a b v i only x h =
      only_by t ws a b x v i only (same_oref x a) refl (ap is_some (sym (get-insert oref_total ws a v x)) ∙ h)

  -- the same object is written into both
  put_made : (t : Time) (ws os : Map oref_cmp Object) (names left : NameSupply) (a b : Oref) (v u : Object) → Made s t ws os names left
      → Names s.fresh t a b
      → Objects s.fresh t (Some v) (Some u) → Made s t (insert ws a v) (insert os b u) names left
  put_made t ws os names left a b v u made i h = record {
    created = made.created;
    one_one = made.one_one;
    written = λ x y j. rw (get-insert oref_total ws a v x, get-insert oref_total os b u y)
        (picked t _ _ v u _ _ (made.one_one x y a b j i) h (made.written x y j));
    seen = λ x y j. rw (get-insert oref_total ws a v x, get-insert oref_total os b u y)
        (picked_seen t _ _ v u _ _ _ _ (made.one_one x y a b j i) h (made.seen x y j));
    there = λ x y p. rw (get-insert oref_total ws a v x) (stays_seen (same_oref x a) v (get ws x) (s.world.at_hand x) (made.there x y p));
    kept = All-values-insert_entry oref_cmp a v (Known s t) ws.pairs made.kept (u, h);
    only = only_put t ws a b v i made.only;
    stock = made.stock;
    other_stock = made.other_stock;
    apart = made.apart;
    other_apart = made.other_apart;
    left_new = made.left_new;
    taken = made.taken;
    still = made.still;
    without = made.without;
    exact = made.exact;
    in_order = made.in_order;
  }

  written_same : (m n : Machine) (o p : Option Object) (i : Option ℕ) (v u : Value) (x y : Oref) → Twins s m n → Names s.fresh (now s m n) x y
      → Objects s.fresh (now s m n) o p → Values s.fresh (now s m n) v u
      → Went s (Nothing s) (now s m n) (Ok tt, with_field o i v x m) (Ok tt, with_field p i u y n)
  written_same m n (Some o) (Some p) (Some i) v u x y tw j h e = gives s (Nothing s) m n _ _ tt tt (λ a b k. k) (record {
    steps = tw.steps;
    depth = tw.depth;
    printed = tw.printed;
    reads = tw.reads;
    this = tw.this;
    locals = tw.locals;
    made = put_made (now s m n) m.writes n.writes m.names n.names x y _ _ tw.made j
        (h.0, each_set (Values s.fresh (now s m n)) o.fields p.fields i v u e h.1);
  }) tt
  written_same m n (Some o) (Some p) None v u x y tw j h e = gives s (Nothing s) m n m n tt tt (λ a b k. k) tw tt
  written_same m n None None i v u x y tw j h e = gives s (Nothing s) m n m n tt tt (λ a b k. k) tw tt
  written_same m n (Some o) None i v u x y tw j h e = absurd h
  written_same m n None (Some p) i v u x y tw j h e = absurd h

  assigned_same : (m n : Machine) (r q : Option Receiver) (name : List ℕ) (v u : Value) → Twins s m n → Both (Receivers s.fresh (now s m n)) r q
      → Values s.fresh (now s m n) v u
      → Went s (Nothing s) (now s m n) (Ok tt, assign_receiver s.world r name v m) (Ok tt, assign_receiver s.world q name u n)
  unfolding seen
  assigned_same m n None None name v u tw h e = gives s (Nothing s) m n m n tt tt (λ a b k. k) tw tt
  assigned_same m n (Some r) (Some q) name v u tw h e =
      let f : field_named s.world.schema.classes q.class name ≡ field_named s.world.schema.classes r.class name =
      ap (λ c. field_named s.world.schema.classes c name) h.class in
      rw f (written_same m n (seen s.world m r.oref) (seen s.world n q.oref)
      (field_named s.world.schema.classes r.class name) v u r.oref q.oref tw h.oref (tw.made.seen r.oref q.oref h.oref) e)
  assigned_same m n (Some r) None name v u tw h e = absurd h
  assigned_same m n None (Some q) name v u tw h e = absurd h

  pub assign_field_same : (t : Time) (name : List ℕ) (v u : Value) → ((w : Time) → Later s.fresh t w → Values s.fresh w v u)
      → Alike s (Nothing s) t (change (assign_field s.world name v)) (change (assign_field s.world name u))
  unfolding assign_field
  assign_field_same t name v u h m n lt tw = assigned_same m n m.this n.this name v u tw tw.this (h (now s m n) lt)

  -- ---- new objects

  fields_begin : (t : Time) (fs : List Field) → AllZip (Values s.fresh t) (map (λ f. beginning (type_named s.world.schema.classes f.type_name)) fs)
      (map (λ f. beginning (type_named s.world.schema.classes f.type_name)) fs)
  fields_begin t [] = tt
  fields_begin t (f ∷ fs) = (begins_same t (type_named s.world.schema.classes f.type_name), fields_begin t fs)

  new_same : (t : Time) (c : ℕ) → Objects s.fresh t (Some (new_object s.world c)) (Some (new_object s.world c))
  unfolding new_object
  new_same t c = (refl, fields_begin t (fields_of s.world.schema.classes c))

  hit : (t : Time) (b c : Bool) (v u : Object) (o p : Option Object) → b ≡ true → c ≡ true → Objects s.fresh t (Some v) (Some u)
      → Objects s.fresh t (cond b (Some v) o) (cond c (Some u) p)
  hit t b c v u o p e f h = rw (e, f) h

  hit_seen : (t : Time) (b c : Bool) (v u : Object) (o p d e : Option Object) → b ≡ true → c ≡ true → Objects s.fresh t (Some v) (Some u)
      → Objects s.fresh t (first_of (cond b (Some v) o) d) (first_of (cond c (Some u) p) e)
  hit_seen t b c v u o p d e f g h = rw (f, g) h

  longer : (xs : List Oref) (a : Oref) → length (xs ++ a ∷ []) ≡ suc (length xs)
  longer [] a = refl
  longer (x ∷ xs) a = ap suc (longer xs a)

  all_behind : (P : Oref → Type 0) (xs ys : List Oref) → AllByRecursion P (xs ++ ys) → AllByRecursion P ys
  all_behind P [] ys h = h
  all_behind P (x ∷ xs) ys h = all_behind P xs ys h.1

  all_push : (P : Oref → Type 0) (xs : List Oref) (a : Oref) → AllByRecursion P xs → P a → AllByRecursion P (xs ++ a ∷ [])
  all_push P [] a h p = (p, tt)
  all_push P (x ∷ xs) a h p = (h.0, all_push P xs a h.1 p)

  once_push : (xs : List Oref) (a : Oref) → IsDistinct same_oref xs → AllByRecursion (λ x. same_oref x a ≡ false) xs
      → IsDistinct same_oref (xs ++ a ∷ [])
  unfolding IsDistinct
  once_push [] a h p = (tt, tt)
  once_push (x ∷ xs) a h p = (all_push (λ y. same_oref x y ≡ false) xs a h.0 p.0, once_push xs a h.1 p.1)

  all_first : (R : Oref → Oref → Type 0) (P : Oref → Type 0) → ((a b : Oref) → R a b → P a) → (xs ys : List Oref) → AllZip R xs ys
      → AllByRecursion P xs
  all_first R P f [] [] h = tt
  all_first R P f (x ∷ xs) (y ∷ ys) h = (f x y h.0, all_first R P f xs ys h.1)
  all_first R P f xs ys h = absurd h

  -- a name was taken in both
  module _ (t : Time) (ws os : Map oref_cmp Object) (names left : NameSupply) (made : Made s t ws os names left) (repo other : ℕ)
      (one_repo : t.1 ≡ t.0 → repo ≡ other)
      (x y : Oref × NameSupply) (taken : take_name repo names ≡ Some x) (other_taken : take_name other left ≡ Some y) (o : Object)
      (itself : (u : Time) → Objects s.fresh u (Some o) (Some o)) where
    abbrev u : Time
    u = more s.fresh t x.0 y.0

    given : Given s.endless (length t.0) repo names x
    given = name_given s.endless (length t.0) repo names x made.stock taken

    other_given : Given s.other_endless (length t.1) other left y
    other_given = name_given s.other_endless (length t.1) other left y made.other_stock other_taken

    abbrev Split : Oref → Oref → Type 0
    Split a b = Names s.fresh t a b ⊎ ((a ≡ x.0) × (b ≡ y.0))

    split : (a b : Oref) → Names s.fresh u a b → Split a b
    split a b i = more_split s.fresh t x.0 y.0 a b made.created i

    new_pair : Names s.fresh u x.0 y.0
    new_pair = inr (paired_last (Names s.fresh t) t.0 t.1 x.0 y.0 made.created)

    other_name : (a b : Oref) → Names s.fresh t a b → same_oref a x.0 ≡ false
    other_name a b i = differ a x.0 (λ e. made.apart a b i (subst (Left names) (sym e) given.left))

    other_name_there : (a b : Oref) → Names s.fresh t a b → same_oref b y.0 ≡ false
    other_name_there a b i = differ b y.0 (λ e. made.other_apart a b i (subst (Left left) (sym e) other_given.left))

    not_new : (a b : Oref) → Names s.fresh t a b → same_oref x.0 a ≡ false
    not_new a b i = differ x.0 a (λ e. made.apart a b i (subst (Left names) e given.left))

    not_new_there : (a b : Oref) → Names s.fresh t a b → same_oref y.0 b ≡ false
    not_new_there a b i = differ y.0 b (λ e. made.other_apart a b i (subst (Left left) e other_given.left))

    one_one_by : (a b c d : Oref) → Split a b → Split c d → same_oref a c ≡ same_oref b d
    one_one_by a b c d (inl i) (inl j) = made.one_one a b c d i j
    one_one_by a b c d (inl i) (inr e) = rw (e.0, e.1) (other_name a b i ∙ sym (other_name_there a b i))
    one_one_by a b c d (inr e) (inl j) = rw (e.0, e.1) (not_new c d j ∙ sym (not_new_there c d j))
    one_one_by a b c d (inr e) (inr f) = rw (e.0, e.1, f.0, f.1) (same_itself x.0 ∙ sym (same_itself y.0))

    written_by : (a b : Oref) → Split a b → Objects s.fresh u (cond (same_oref a x.0) (Some o) (get ws a))
        (cond (same_oref b y.0) (Some o) (get os b))
    written_by a b (inl i) =
        picked u _ _ o o _ _ (other_name a b i ∙ sym (other_name_there a b i)) (itself u)
        (object_later s.fresh t u (more_later s.fresh t x.0 y.0) _ _ (made.written a b i))
    written_by a b (inr e) = hit u _ _ o o _ _ (ap (λ z. same_oref z x.0) e.0 ∙ same_itself x.0) (ap (λ z. same_oref z y.0) e.1 ∙ same_itself y.0)
        (itself u)

    seen_by_split : (a b : Oref) → Split a b
        → Objects s.fresh u (first_of (cond (same_oref a x.0) (Some o) (get ws a)) (s.world.at_hand a))
        (first_of (cond (same_oref b y.0) (Some o) (get os b)) (s.world.at_hand b))
    seen_by_split a b (inl i) =
        picked_seen u _ _ o o _ _ _ _ (other_name a b i ∙ sym (other_name_there a b i)) (itself u)
        (object_later s.fresh t u (more_later s.fresh t x.0 y.0) _ _ (made.seen a b i))
    seen_by_split a b (inr e) = hit_seen u _ _ o o _ _ _ _ (ap (λ z. same_oref z x.0) e.0 ∙ same_itself x.0)
        (ap (λ z. same_oref z y.0) e.1 ∙ same_itself y.0) (itself u)

    real_place : names.stand_in ≡ None → Left names x.0 → (x.0.repo == 255) ≡ false
    real_place none (inl i) = all_in (λ (z : Oref). (z.repo == 255) ≡ false) names.waiting x.0 made.stock.placed i
    real_place none (inr h) = absurd (subst (λ k. ByStandIn k x.0) none h)

    seen_first : (b : Bool) (p d : Option Object) → b ≡ true → is_some (first_of (cond b (Some o) p) d) ≡ true
    seen_first b p d e = rw e refl

    there_by : (a b : Oref) → Paired t.0 t.1 a b ⊎ ((a ≡ x.0) × (b ≡ y.0))
        → is_some (first_of (cond (same_oref a x.0) (Some o) (get ws a)) (s.world.at_hand a)) ≡ true
    there_by a b (inl p) = stays_seen (same_oref a x.0) o (get ws a) (s.world.at_hand a) (made.there a b p)
    there_by a b (inr e) = seen_first (same_oref a x.0) (get ws a) (s.world.at_hand a) (ap (λ z. same_oref z x.0) e.0 ∙ same_itself x.0)

    only_on : (a : Oref) → has ws a ≡ true → (b : Oref) × Names s.fresh u a b
    only_on a h = let n = made.only a h in (n.0, more_later s.fresh t x.0 y.0 a n.0 n.1)

    kept_on : All (Known s u) (values ws)
    kept_on = All-weaker (Known s t) (Known s u) (λ p h. (h.0, object_later s.fresh t u (more_later s.fresh t x.0 y.0) (Some p) (Some h.0) h.1))
        (values ws) made.kept

    apart_by : (a b : Oref) → Split a b → ¬ (Left x.1 a)
    apart_by a b (inl i) l = made.apart a b i (given.still a l)
    apart_by a b (inr e) l = given.gone a l e.0

    other_apart_by : (a b : Oref) → Split a b → ¬ (Left y.1 b)
    other_apart_by a b (inl i) l = made.other_apart a b i (other_given.still b l)
    other_apart_by a b (inr e) l = other_given.gone b l e.1

    exact_by : Exact s u x.1 y.1
    exact_by none rest is =
        let here = given.without none in
        let p = made.exact here (x.0 ∷ rest) (is ∙ append_assoc t.0 (x.0 ∷ []) rest) in
        let q = takes_first other left y x.0 rest p.1 (subst (λ r. (x.0.repo == r) ≡ true) (one_repo p.0) (given.placed here)) other_taken in
        (rw (p.0, q.0) refl, q.1)

    in_order_by : InOrder s u x.1
    in_order_by none all =
        let here = given.without none in
        let e = made.in_order here all in
        let f = takes_in_order repo s.repo names x here (all_behind _ t.0 names.waiting
        (subst (AllByRecursion (λ (z : Oref). z.repo ≡ s.repo)) (sym e) all)) given.left (given.placed here) taken in
        append_assoc t.0 (x.0 ∷ []) x.1.waiting ∙ ap (λ zs. t.0 ++ zs) (sym f) ∙ e

    pub new_made : Made s u (insert ws x.0 o) (insert os y.0 o) x.1 y.1
    new_made = record {
      created = AllZip-push (Names s.fresh u) t.0 t.1 x.0 y.0 (names_later s.fresh t u (more_later s.fresh t x.0 y.0) t.0 t.1 made.created) new_pair;
      one_one = λ a b c d i j. one_one_by a b c d (split a b i) (split c d j);
      written = λ a b i. rw (get-insert oref_total ws x.0 o a, get-insert oref_total os y.0 o b) (written_by a b (split a b i));
      seen = λ a b i. rw (get-insert oref_total ws x.0 o a, get-insert oref_total os y.0 o b) (seen_by_split a b (split a b i));
      there = λ a b p. rw (get-insert oref_total ws x.0 o a) (there_by a b (paired_split (Names s.fresh t) t.0 t.1 x.0 y.0 a b made.created p));
      kept = All-values-insert_entry oref_cmp x.0 o (Known s u) ws.pairs kept_on (o, itself u);
      only = only_put u ws x.0 y.0 o new_pair only_on;
      stock = rw (longer t.0 x.0) given.stock;
      other_stock = rw (longer t.1 y.0) other_given.stock;
      apart = λ a b i. apart_by a b (split a b i);
      other_apart = λ a b i. other_apart_by a b (split a b i);
      left_new = λ a l. made.left_new a (given.still a l);
      still = λ a l. made.still a (given.still a l);
      taken = record {
        new = all_push _ t.0 x.0 made.taken.new (made.left_new x.0 given.left);
        once = once_push t.0 x.0 made.taken.once (all_first (Names s.fresh t) _ other_name t.0 t.1 made.created);
        placed = λ none. all_push _ t.0 x.0 (made.taken.placed (given.without none)) (real_place (given.without none) given.left);
      };
      without = λ none. given.still_without (made.without none);
      exact = exact_by;
      in_order = in_order_by;
    }

  -- a new object is the same in both, under the name that each takes
  abbrev new : Machine → Oref × NameSupply → Object → Machine
  new m n o = record m { writes = insert m.writes n.0 o; created = m.created ++ n.0 ∷ []; names = n.1 }

  new_twins : (m n : Machine) (x y : Oref × NameSupply) (o : Object) → Twins s m n
      → Made s (more s.fresh (now s m n) x.0 y.0) (insert m.writes x.0 o) (insert n.writes y.0 o) x.1 y.1
      → Twins s (new m x o) (new n y o)
  new_twins m n x y o tw made =
      let later = more_later s.fresh (now s m n) x.0 y.0 in
      record {
        steps = tw.steps;
        depth = tw.depth;
        printed = tw.printed;
        reads = tw.reads;
        this = this_later s.fresh (now s m n) (more s.fresh (now s m n) x.0 y.0) later m.this n.this tw.this;
        locals = locals_later s.fresh (now s m n) (more s.fresh (now s m n) x.0 y.0) later m.locals n.locals tw.locals;
        made = made;
      }

  make_same : (c repo other : ℕ) (m n : Machine) (p q : Option (Oref × NameSupply)) → Twins s m n → (m.created ≡ n.created → repo ≡ other)
      → nat_lt (length m.created) CREATE_LIMIT ≡ true → nat_lt (length n.created) CREATE_LIMIT ≡ true → take_name repo m.names ≡ p
      → take_name other n.names ≡ q
      → Went s (Values s.fresh) (now s m n) (make s.world c repo p m) (make s.world c other q n)
  make_same c repo other m n (Some x) (Some y) tw one below other_below e f =
      let made = new_made (now s m n) m.writes n.writes m.names n.names tw.made repo other (λ h. one (sym h)) x y e f (new_object s.world c)
      (λ u. new_same u c) in
      gives s (Values s.fresh) m n (new m x (new_object s.world c)) (new n y (new_object s.world c)) (value.Ref x.0) (value.Ref y.0)
      (more_later s.fresh (now s m n) x.0 y.0) (new_twins m n x y (new_object s.world c) tw made)
      (inr (paired_last (Names s.fresh (now s m n)) m.created n.created x.0 y.0 tw.made.created))
  make_same c repo other m n None q tw one below other_below e f =
      λ g h. absurd (never_ends s.endless (length m.created) repo g m.names tw.made.stock below e)
  make_same c repo other m n (Some x) None tw one below other_below e f =
      λ g h. absurd (never_ends s.other_endless (length n.created) other h n.names tw.made.other_stock other_below f)

  below_same : (b d : Bool) (c repo other : ℕ) (m n : Machine) → Twins s m n → (m.created ≡ n.created → repo ≡ other)
      → nat_lt (length m.created) CREATE_LIMIT ≡ b → nat_lt (length n.created) CREATE_LIMIT ≡ d → d ≡ b
      → Went s (Values s.fresh) (now s m n) (cond b (make s.world c repo (take_name repo m.names) m) (Err (stop.Fault fault.Large), m))
      (cond d (make s.world c other (take_name other n.names) n) (Err (stop.Fault fault.Large), n))
  below_same true true c repo other m n tw one e f g = make_same c repo other m n (take_name repo m.names)
      (take_name other n.names) tw one e f refl refl
  below_same false false c repo other m n tw one e f g = fails s (Values s.fresh) (now s m n) (stop.Fault fault.Large) (stop.Fault fault.Large) m n tw
      (λ h i. refl)
  below_same true false c repo other m n tw one e f g = cc
  below_same false true c repo other m n tw one e f g = cc

  create_in_same : (repo other : ℕ) (c : Option ℕ) (m n : Machine) → Twins s m n → (m.created ≡ n.created → repo ≡ other)
      → Went s (Values s.fresh) (now s m n) (create_in s.world repo c m) (create_in s.world other c n)
  create_in_same repo other None m n tw one = gives s (Values s.fresh) m n m n value.Null value.Null (λ a b i. i) tw tt
  create_in_same repo other (Some c) m n tw one =
      let long : length n.created ≡ length m.created = sym (length_all_zip (Names s.fresh (now s m n)) m.created n.created tw.made.created) in
      below_same (nat_lt (length m.created) CREATE_LIMIT) (nat_lt (length n.created) CREATE_LIMIT) c repo other m n tw one refl refl
      (ap (λ k. nat_lt k CREATE_LIMIT) long)

  one_repo : (t : Time) (r q : Option Receiver) (at : Option At) → Both (Receivers s.fresh t) r q → t.0 ≡ t.1 → repo_for r at ≡ repo_for q at
  one_repo t None None at h e = refl
  one_repo t (Some r) (Some q) at h e = ap (λ (x : Oref). x.repo) (same_times s.fresh t r.oref q.oref (sym e) h.oref)
  one_repo t (Some r) None at h e = absurd h
  one_repo t None (Some q) at h e = absurd h

  pub create_same : (t : Time) (class : List ℕ) (at : Option At) → Alike s (Values s.fresh) t (create s.world class at) (create s.world class at)
  unfolding create
  create_same t class at m n lt tw =
      create_in_same (repo_for m.this at) (repo_for n.this at) (class_named s.world.schema.classes class) m n tw
      (one_repo (now s m n) m.this n.this at tw.this)
