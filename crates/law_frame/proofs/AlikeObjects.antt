-- That objects are read, written and created alike over objects that agree.
use Rattle.std.proofs.Common.{◌≡◌, Bool, true, false, cond, List, [], ◌∷◌, ◌++◌, Option, Some, None, Result, Ok, Err, refl, ap, ◌⊎◌, ℕ, inl, inr}
use Rattle.std.specs.Prelude.{◌||◌, find, is_some, length, nat_lt}
use Rattle.thor_value.specs.FiniteMap.{has, insert, len}
use Rattle.thor_value.specs.Names.{same_oref}
use Rattle.thor_value.specs.declared.names.Oref.{Oref}
use Rattle.thor_value.specs.declared.values.Fault.TheVariants as fault
use Rattle.thor_value.specs.declared.values.Value.{Value}
use Rattle.thor_value.specs.declared.values.Value.TheVariants as value
use Rattle.class_defs.proofs.SameNames.{same_itself}
use Rattle.law_frame.proofs.Alike.{known, ThisKnown, Sound, Grows, grows_no, this_grows, has-insert, has-inserted}
use Rattle.class_defs.proofs.ActionWords.{over}
use Rattle.law_frame.proofs.AlikeSteps.{Agree, Went, Alike, gives, value, stops, seen_same, seen_read, known_made, again, newly, read}
use Rattle.class_defs.specs.Objects.{seen, touch, class_found, field_value, field_of_receiver, fitted_or_beginning, field_at, scope_at, assign_field, assign_receiver, with_field, create, create_in, make, take_name, new_object, repo_for}
use Rattle.class_defs.specs.Steps.{World, ◌>>=◌, change}
use Rattle.class_defs.specs.Types.{class_named, field_named, field_type}
use Rattle.class_defs.specs.declared.expressions.At.{At}
use Rattle.class_defs.specs.declared.limits.TheConstants.{CREATE_LIMIT, READ_LIMIT}
use Rattle.class_defs.specs.declared.machine.Machine.{Machine}
use Rattle.class_defs.specs.declared.machine.NameSupply.{NameSupply}
use Rattle.class_defs.specs.declared.machine.Receiver.{Receiver}
use Rattle.class_defs.specs.declared.machine.Stop.{Stop}
use Rattle.class_defs.specs.declared.machine.Stop.TheVariants as stop
use Rattle.class_defs.specs.declared.store.Object.{Object}
use Rattle.class_defs.specs.declared.store.Schema.{Schema}

module _ (schema : Schema) (f g : Oref → Option Object) where
  -- ---- an object becomes a receiver

  abbrev touched : Bool → Bool → Option Object → List Oref → Oref → Machine → Result ℕ Stop × Machine
  touched b l o owners x m = cond b (class_found o x owners m) (cond l ((class_found o x owners >>= (λ c. λ n. (Ok c, read f g n x))) m) (Err (stop.Fault fault.Large), m))

  touched_alike : (b l : Bool) (o p : Option Object) (owners : List Oref) (x : Oref) (m : Machine) → Sound m → (b ≡ true → Agree f g m → p ≡ o) → (g x ≡ f x → p ≡ o)
      → Went f g ℕ m (touched b l o owners x m).0 (touched b l o owners x m).1 (touched b l p owners x m)
  touched_alike true l o p owners x m s k e = again f g m x owners o p s (k refl)
  touched_alike false true o p owners x m s k e = newly f g m x owners o p s e
  touched_alike false false o p owners x m s k e = stops f g (stop.Fault fault.Large) m

  touched_known : (b l : Bool) (o : Option Object) (owners : List Oref) (x : Oref) (m : Machine) (c : ℕ) → (b ≡ true → known m x ≡ true)
      → (touched b l o owners x m).0 ≡ Ok c → known (touched b l o owners x m).1 x ≡ true
  touched_known true l (Some o) owners x m c k is = k refl
  touched_known true l None owners x m c k is = cc
  touched_known false true (Some o) owners x m c k is = rw (has-inserted m.reads x tt x (same_itself x)) refl
  touched_known false true None owners x m c k is = cc
  touched_known false false o owners x m c k is = cc

  pub touch_alike : (owners : List Oref) (x : Oref) → Alike f g (touch (over schema f) owners x) (touch (over schema g) owners x)
  unfolding touch
  touch_alike owners x m s =
      touched_alike _ (nat_lt (len m.reads) READ_LIMIT) (seen (over schema f) m x) (seen (over schema g) m x) owners x m s
      (λ b agree. seen_same f g schema m x (known_made f g m s x (has m.reads x) refl b) agree)
      (λ e. seen_read f g schema m x e)

  pub touch_known : (owners : List Oref) (x : Oref) (m : Machine) (c : ℕ) → Sound m → (touch (over schema f) owners x m).0 ≡ Ok c → known (touch (over schema f) owners x m).1 x ≡ true
  unfolding touch
  touch_known owners x m c s is =
      touched_known (has m.reads x || is_some (find (same_oref x) m.created)) (nat_lt (len m.reads) READ_LIMIT) (seen (over schema f) m x) owners x m c
      (λ b. known_made f g m s x (has m.reads x) refl b) is

  -- ---- the fields of `this`

  field_alike : (m : Machine) (t : Option Receiver) (name : List ℕ) → ThisKnown m t → Agree f g m
      → field_of_receiver (over schema g) m t name ≡ field_of_receiver (over schema f) m t name
  field_alike m None name k agree = refl
  field_alike m (Some r) name k agree =
      ap (λ o. fitted_or_beginning (field_type (scope_at schema m) name) (field_at o (field_named schema.classes r.class name))) (seen_same f g schema m r.oref k agree)

  pub field_value_alike : (name : List ℕ) → Alike f g (λ m. (Ok (field_value (over schema f) m name), m)) (λ m. (Ok (field_value (over schema g) m name), m))
  unfolding field_value
  field_value_alike name m s = gives f g m m m _ _ (grows_no m) s (field_alike m m.this name s.this) (λ agree. refl)

  written_grows : (m : Machine) (o : Option Object) (i : Option ℕ) (v : Value) (x : Oref) → Grows m (with_field o i v x m)
  written_grows m (Some o) (Some i) v x = record { reads = λ y h. h; writes = λ y h. has-insert m.writes x _ y h }
  written_grows m (Some o) None v x = grows_no m
  written_grows m None i v x = grows_no m

  written_sound : (m : Machine) (o : Option Object) (i : Option ℕ) (v : Value) (x : Oref) → Sound m → Sound (with_field o i v x m)
  written_sound m (Some o) (Some i) v x s =
      let n = with_field (Some o) (Some i) v x m in
      record { this = this_grows m n (written_grows m (Some o) (Some i) v x) m.this s.this; created = λ y h. has-insert m.writes x _ y (s.created y h) }
  written_sound m (Some o) None v x s = s
  written_sound m None i v x s = s

  assigned_alike : (m : Machine) (t : Option Receiver) (name : List ℕ) (v : Value) → Sound m → ThisKnown m t
      → Went f g (Unit {0}) m (Ok tt) (assign_receiver (over schema f) t name v m) (Ok tt, assign_receiver (over schema g) t name v m)
  assigned_alike m None name v s k = gives f g m m m tt tt (grows_no m) s (λ agree. refl) (λ agree. refl)
  assigned_alike m (Some r) name v s k =
      let o = seen (over schema f) m r.oref in
      let i = field_named schema.classes r.class name in
      record {
        grows = written_grows m o i v r.oref;
        sound = λ a e. written_sound m o i v r.oref s;
        same = λ ended agree. ap (λ (p : Option Object). (Ok tt, with_field p i v r.oref m)) (seen_same f g schema m r.oref k (λ x h. agree x ((written_grows m o i v r.oref).reads x h)));
      }

  pub assign_field_alike : (name : List ℕ) (v : Value) → Alike f g (change (assign_field (over schema f) name v)) (change (assign_field (over schema g) name v))
  unfolding assign_field
  assign_field_alike name v m s = assigned_alike m m.this name v s s.this

  -- ---- new objects

  last_one : (b : Bool) (y : Oref) (q : Option Oref) → is_some (cond b (Some y) None) ≡ true → (is_some q ≡ true) ⊎ (b ≡ true)
  last_one true y q h = inr refl
  last_one false y q h = cc

  one_before : (b : Bool) (z : Oref) (o q : Option Oref) (B : Type 0) → (is_some o ≡ true → (is_some q ≡ true) ⊎ B) → is_some (cond b (Some z) o) ≡ true → (is_some (cond b (Some z) q) ≡ true) ⊎ B
  one_before true z o q B k h = inl refl
  one_before false z o q B k h = k h

  one_more : (xs : List Oref) (x y : Oref) → is_some (find (same_oref x) (xs ++ y ∷ [])) ≡ true → (is_some (find (same_oref x) xs) ≡ true) ⊎ (same_oref x y ≡ true)
  one_more [] x y h = last_one (same_oref x y) y None h
  one_more (z ∷ zs) x y h = one_before (same_oref x z) z _ _ (same_oref x y ≡ true) (one_more zs x y) h

  abbrev new : Machine → Oref × NameSupply → Object → Machine
  new m n o = record m { writes = insert m.writes n.0 o; created = m.created ++ n.0 ∷ []; names = n.1 }

  new_grows : (m : Machine) (n : Oref × NameSupply) (o : Object) → Grows m (new m n o)
  new_grows m n o = record { reads = λ x h. h; writes = λ x h. has-insert m.writes n.0 o x h }

  new_written : (m : Machine) (n : Oref × NameSupply) (o : Object) (x : Oref) → Sound m → (is_some (find (same_oref x) m.created) ≡ true) ⊎ (same_oref x n.0 ≡ true) → has (new m n o).writes x ≡ true
  new_written m n o x s (inl h) = has-insert m.writes n.0 o x (s.created x h)
  new_written m n o x s (inr h) = has-inserted m.writes n.0 o x h

  new_sound : (m : Machine) (n : Oref × NameSupply) (o : Object) → Sound m → Sound (new m n o)
  new_sound m n o s = record {
    this = this_grows m (new m n o) (new_grows m n o) m.this s.this;
    created = λ x h. new_written m n o x s (one_more m.created x n.0 h);
  }

  make_alike : (c repo : ℕ) (t : Option (Oref × NameSupply)) → Alike f g (make (over schema f) c repo t) (make (over schema g) c repo t)
  unfolding new_object
  make_alike c repo None m s = stops f g (stop.NeedName repo) m
  make_alike c repo (Some n) m s =
      let o = new_object (over schema f) c in
      gives f g m (new m n o) (new m n o) (value.Ref n.0) (value.Ref n.0) (new_grows m n o) (new_sound m n o s) (λ agree. refl) (λ agree. refl)

  below : (b : Bool) (c repo : ℕ) (t : Option (Oref × NameSupply)) (m : Machine) → Sound m
      → let made : World → Result Value Stop × Machine = λ w. cond b (make w c repo t m) (Err (stop.Fault fault.Large), m) in
      Went f g Value m (made (over schema f)).0 (made (over schema f)).1 (made (over schema g))
  below true c repo t m s = make_alike c repo t m s
  below false c repo t m s = stops f g (stop.Fault fault.Large) m

  create_in_alike : (repo : ℕ) (c : Option ℕ) → Alike f g (create_in (over schema f) repo c) (create_in (over schema g) repo c)
  create_in_alike repo None m s = value f g value.Null m s
  create_in_alike repo (Some c) m s = below (nat_lt (length m.created) CREATE_LIMIT) c repo (take_name repo m.names) m s

  pub create_alike : (class : List ℕ) (at : Option At) → Alike f g (create (over schema f) class at) (create (over schema g) class at)
  unfolding create
  create_alike class at m s = create_in_alike (repo_for m.this at) (class_named schema.classes class) m s
