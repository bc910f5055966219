-- What reading, writing and creating objects say of how a run ends.
use Rattle.std.proofs.Common.{◌≡◌, ◌⊎◌, Bool, true, false, cond, List, [], ◌∷◌, ◌++◌, Option, Some, None, Result, Ok, Err, refl, ap, sym, ◌∙◌, subst, inl, inr, ℕ, zero, suc, length}
use Rattle.std.proofs.lemmas.Bool.{or_right}
use Rattle.std.specs.Prelude.{◌||◌, ◌+◌, ◌==◌, find, is_some, nat_lt, option_map, position, remove, slice_get}
use Rattle.thor_value.specs.FiniteMap.{get, has, insert, len}
use Rattle.thor_value.specs.Names.{same_oref}
use Rattle.thor_value.specs.declared.names.Oref.{Oref}
use Rattle.thor_value.specs.declared.values.Fault.TheVariants as fault
use Rattle.thor_value.specs.declared.values.Value.{Value}
use Rattle.thor_value.specs.declared.values.Value.TheVariants as value
use Rattle.class_defs.specs.Objects.{seen, first_of, touch, class_found, assign_field, assign_receiver, with_field, create, create_in, make, name_at, stand_in_from, stand_in_name, take_name, new_object, repo_for}
use Rattle.class_defs.specs.Steps.{World, ◌>>=◌, after, change}
use Rattle.class_defs.specs.Types.{class_named, field_named}
use Rattle.class_defs.specs.declared.expressions.At.{At}
use Rattle.class_defs.specs.declared.limits.TheConstants.{CREATE_LIMIT, READ_LIMIT, STAND_IN_LIMIT}
use Rattle.class_defs.proofs.SameNames.{same_itself}
use Rattle.class_defs.specs.declared.machine.Machine.{Machine}
use Rattle.class_defs.specs.declared.machine.NameSupply.{NameSupply}
use Rattle.class_defs.specs.declared.machine.Receiver.{Receiver}
use Rattle.class_defs.specs.declared.machine.Stop.{Stop}
use Rattle.class_defs.specs.declared.machine.Stop.TheVariants as stop
use Rattle.class_defs.specs.declared.store.Object.{Object}
use Rattle.law_eval.proofs.Ends.{AllKnown, AtHand, Goes, Grows, Sound, Takes, ThisKnown, Went, either, found_last, found_on, gives, has-before, has-insert, has-inserted, is_named, known, stops, takes_no, this_grows, value}
use Rattle.law_encapsulation.proofs.Made.{among-cases}

none_seen : (o p : Option Object) → first_of o p ≡ None → p ≡ None
none_seen None p e = e
none_seen (Some o) p e = cc

some_seen : (o p : Option Object) (v : Object) → first_of o p ≡ Some v → is_some o ≡ false → is_some p ≡ true
some_seen None (Some q) v e h = refl
some_seen None None v e h = cc
some_seen (Some o) p v e h = cc

-- ---- names that are taken

-- a name that is taken was waiting, where there are no stand-in names, and no name comes
record Taken (names : NameSupply) (n : Oref × NameSupply) : Type 0 where
  none : names.stand_in ≡ None → n.1.stand_in ≡ None
  waiting : (x : Oref) → is_named n.1.waiting x ≡ true → is_named names.waiting x ≡ true
  from : names.stand_in ≡ None → is_named names.waiting n.0 ≡ true

named_on : (b : Bool) (z : Oref) (o : Option Oref) → is_some o ≡ true → is_some (cond b (Some z) o) ≡ true
named_on true z o h = refl
named_on false z o h = h

named_at : (xs : List Oref) (i : ℕ) (x : Oref) → slice_get xs i ≡ Some x → is_named xs x ≡ true
named_at [] i x e = cc
named_at (z ∷ xs) zero x e = let same : z ≡ x = cc in ap (λ b. is_some (cond b (Some z) (find (same_oref x) xs))) (ap (same_oref x) same ∙ same_itself x)
named_at (z ∷ xs) (suc i) x e = named_on (same_oref x z) z (find (same_oref x) xs) (named_at xs i x e)

named_before : (xs : List Oref) (i : ℕ) (x : Oref) → is_named (remove xs i) x ≡ true → is_named xs x ≡ true
named_before [] zero x h = h
named_before [] (suc i) x h = h
named_before (z ∷ xs) zero x h = named_on (same_oref x z) z (find (same_oref x) xs) h
named_before (z ∷ xs) (suc i) x h = by (same_oref x z) (named_before xs i x) h
  where
    by : (b : Bool) → (is_some (find (same_oref x) (remove xs i)) ≡ true → is_some (find (same_oref x) xs) ≡ true)
        → is_some (cond b (Some z) (find (same_oref x) (remove xs i))) ≡ true → is_some (cond b (Some z) (find (same_oref x) xs)) ≡ true
    by true rest k = refl
    by false rest k = rest k

same_taken : (p q : Oref × NameSupply) → ◌≡◌ {A = Option (Oref × NameSupply)} (Some p) (Some q) → p ≡ q
same_taken p q e = cc

some_none : (k : ℕ) → ◌≡◌ {A = Option ℕ} (Some k) None → ⊥
some_none k e = cc

taken : (names : NameSupply) (p : Option ℕ) (n : Oref × NameSupply) → name_at names p ≡ Some n → Taken names n
taken names (Some i) n e = by (slice_get names.waiting i) refl e
  where
    by : (o : Option Oref) → slice_get names.waiting i ≡ o → option_map (λ x. (x, record names { waiting = remove names.waiting i })) o ≡ Some n → Taken names n
    by None at k = cc
    by (Some x) at k = subst (Taken names) (same_taken (x, record names { waiting = remove names.waiting i }) n k) (record {
      none = λ is. is;
      waiting = λ y h. named_before names.waiting i y h;
      from = λ is. named_at names.waiting i x at;
    })
taken names None n e = by names.stand_in refl e
  where
    by : (k : Option ℕ) → names.stand_in ≡ k → stand_in_from names k ≡ Some n → Taken names n
    by None at h = cc
    by (Some k) at h = few (nat_lt k STAND_IN_LIMIT) h
      where
        few : (b : Bool) → cond b (Some (stand_in_name k, record names { stand_in = Some (k + 1) })) None ≡ Some n → Taken names n
        few true h = subst (Taken names) (same_taken (stand_in_name k, record names { stand_in = Some (k + 1) }) n h) (record {
          none = λ is. absurd (some_none k (sym at ∙ is));
          waiting = λ y h. h;
          from = λ is. absurd (some_none k (sym at ∙ is));
        })
        few false h = cc

by_place : (repo : ℕ) (names : NameSupply) (n : Oref × NameSupply) → take_name repo names ≡ Some n → name_at names (position (λ (y : Oref). y.repo == repo) names.waiting) ≡ Some n
unfolding take_name
by_place repo names n e = e

module _ (w : World) where
  -- ---- an object becomes a receiver

  abbrev read : Machine → Oref → Machine
  read m x = record m { reads = insert m.reads x tt }

  read_grows : (m : Machine) (x : Oref) → Grows m (read m x)
  read_grows m x y h = either _ _ _ _ (has-insert m.reads x tt y) (λ k. k) h

  read_hand : (m : Machine) (x : Oref) → is_some (w.at_hand x) ≡ true → AtHand w m → AtHand w (read m x)
  read_hand m x there hand y h = by (has-before m.reads x tt y h)
    where
      by : (y ≡ x) ⊎ (has m.reads y ≡ true) → is_some (w.at_hand y) ≡ true
      by (inl e) = ap (λ z. is_some (w.at_hand z)) e ∙ there
      by (inr g) = hand y g

  again : (o : Option Object) (owners : List Oref) (x : Oref) (m : Machine) → Sound m → AllKnown m owners → seen w m x ≡ o
      → Went w ℕ m (class_found o x owners m).0 (class_found o x owners m).1
  unfolding seen
  again (Some o) owners x m s os is = gives w m m o.class (takes_no m) (λ y h. h) (λ h. h) s
  again None owners x m s os is = stops w (stop.Need x owners) m (none_seen (get m.writes x) (w.at_hand x) is, os)

  newly : (o : Option Object) (owners : List Oref) (x : Oref) (m : Machine) → Sound m → AllKnown m owners → known m x ≡ false → seen w m x ≡ o
      → let k : ℕ → Machine → Result ℕ Stop × Machine = λ c n. (Ok c, read n x) in
      Went w ℕ m (after (class_found o x owners m).0 (class_found o x owners m).1 k).0 (after (class_found o x owners m).0 (class_found o x owners m).1 k).1
  unfolding seen
  newly (Some o) owners x m s os new is =
      gives w m (read m x) o.class (record { none = λ e. e; waiting = λ y h. h; made = λ e y h. inl h }) (read_grows m x) (read_hand m x (some_seen (get m.writes x) (w.at_hand x) o is (unwritten (has m.writes x) refl)))
      (record { this = this_grows m (read m x) (read_grows m x) m.this s.this; written = λ y h. read_grows m x y (s.written y h) })
    where
      unwritten : (b : Bool) → has m.writes x ≡ b → has m.writes x ≡ false
      unwritten true e = absurd (let k = s.written x e in cc)
      unwritten false e = e
  newly None owners x m s os new is = stops w (stop.Need x owners) m (none_seen (get m.writes x) (w.at_hand x) is, os)

  touched : (b l : Bool) (owners : List Oref) (x : Oref) (m : Machine) → Sound m → AllKnown m owners → known m x ≡ b
      → let r = cond b (class_found (seen w m x) x owners m) (cond l ((class_found (seen w m x) x owners >>= (λ c. λ n. (Ok c, read n x))) m) (Err (stop.Fault fault.Large), m)) in
      Went w ℕ m r.0 r.1
  touched true l owners x m s os is = again (seen w m x) owners x m s os refl
  touched false true owners x m s os is = newly (seen w m x) owners x m s os is refl
  touched false false owners x m s os is = stops w (stop.Fault fault.Large) m tt

  pub touch_goes : (owners : List Oref) (x : Oref) (m : Machine) → Sound m → AllKnown m owners → Went w ℕ m (touch w owners x m).0 (touch w owners x m).1
  unfolding touch
  touch_goes owners x m s os = touched (known m x) (nat_lt (len m.reads) READ_LIMIT) owners x m s os refl

  touched_known : (b l : Bool) (o : Option Object) (owners : List Oref) (x : Oref) (m : Machine) (c : ℕ) → known m x ≡ b
      → let r = cond b (class_found o x owners m) (cond l ((class_found o x owners >>= (λ c. λ n. (Ok c, read n x))) m) (Err (stop.Fault fault.Large), m)) in
      r.0 ≡ Ok c → known r.1 x ≡ true
  touched_known true l (Some o) owners x m c is e = is
  touched_known true l None owners x m c is e = cc
  touched_known false true (Some o) owners x m c is e = ap (λ b. b || is_some (find (same_oref x) m.created)) (has-inserted m.reads x tt)
  touched_known false true None owners x m c is e = cc
  touched_known false false o owners x m c is e = cc

  pub touch_known : (owners : List Oref) (x : Oref) (m : Machine) (c : ℕ) → (touch w owners x m).0 ≡ Ok c → known (touch w owners x m).1 x ≡ true
  unfolding touch
  touch_known owners x m c is = touched_known (known m x) (nat_lt (len m.reads) READ_LIMIT) (seen w m x) owners x m c refl is

  -- ---- the fields of `this`

  written_goes : (m : Machine) (o : Option Object) (i : Option ℕ) (v : Value) (x : Oref) → Sound m → known m x ≡ true
      → Went w (Unit {0}) m (Ok tt) (with_field o i v x m)
  written_goes m (Some o) (Some i) v x s k =
      let n = with_field (Some o) (Some i) v x m in
      gives w m n tt (record { none = λ e. e; waiting = λ y h. h; made = λ e y h. inl h }) (λ y h. h) (λ h. h) (record { this = s.this; written = λ y h. by y (has-before m.writes x _ y h) })
    where
      by : (y : Oref) → (y ≡ x) ⊎ (has m.writes y ≡ true) → known m y ≡ true
      by y (inl e) = subst (λ z. known m z ≡ true) (sym e) k
      by y (inr g) = s.written y g
  written_goes m (Some o) None v x s k = gives w m m tt (takes_no m) (λ y h. h) (λ h. h) s
  written_goes m None i v x s k = gives w m m tt (takes_no m) (λ y h. h) (λ h. h) s

  assigned : (m : Machine) (t : Option Receiver) (name : List ℕ) (v : Value) → Sound m → ThisKnown m t
      → Went w (Unit {0}) m (Ok tt) (assign_receiver w t name v m)
  assigned m None name v s k = gives w m m tt (takes_no m) (λ y h. h) (λ h. h) s
  assigned m (Some r) name v s k = written_goes m (seen w m r.oref) (field_named w.schema.classes r.class name) v r.oref s k.0

  pub assign_field_goes : (name : List ℕ) (v : Value) → Goes w (change (assign_field w name v))
  unfolding assign_field
  assign_field_goes name v m s = assigned m m.this name v s s.this

  -- ---- new objects

  abbrev new : Machine → Oref × NameSupply → Object → Machine
  new m n o = record m { writes = insert m.writes n.0 o; created = m.created ++ n.0 ∷ []; names = n.1 }

  new_grows : (m : Machine) (n : Oref × NameSupply) (o : Object) → Grows m (new m n o)
  new_grows m n o x h = either _ _ _ _ (λ k. k) (found_on m.created (n.0 ∷ []) x) h

  new_written : (m : Machine) (n : Oref × NameSupply) (o : Object) (x : Oref) → Sound m → (x ≡ n.0) ⊎ (has m.writes x ≡ true) → known (new m n o) x ≡ true
  new_written m n o x s (inl e) = subst (λ z. known (new m n o) z ≡ true) (sym e) (or_right (has m.reads n.0) _ (found_last m.created n.0))
  new_written m n o x s (inr h) = new_grows m n o x (s.written x h)

  new_sound : (m : Machine) (n : Oref × NameSupply) (o : Object) → Sound m → Sound (new m n o)
  new_sound m n o s = record {
    this = this_grows m (new m n o) (new_grows m n o) m.this s.this;
    written = λ x h. new_written m n o x s (has-before m.writes n.0 o x h);
  }

  new_takes : (m : Machine) (n : Oref × NameSupply) (o : Object) → Taken m.names n → Takes m (new m n o)
  new_takes m n o h = record {
    none = h.none;
    waiting = h.waiting;
    made = λ e x is. by x e (is_named m.created x) refl is;
  }
    where
      by : (x : Oref) → m.names.stand_in ≡ None → (b : Bool) → is_named m.created x ≡ b → is_named (m.created ++ n.0 ∷ []) x ≡ true → (is_named m.created x ≡ true) ⊎ (is_named m.names.waiting x ≡ true)
      by x e true before is = inl before
      by x e false before is = inr (subst (λ y. is_named m.names.waiting y ≡ true) (sym (among-cases m.created n.0 x false before is refl)) (h.from e))

  make_goes : (c repo : ℕ) (t : Option (Oref × NameSupply)) (m : Machine) → Sound m → take_name repo m.names ≡ t
      → Went w Value m (make w c repo t m).0 (make w c repo t m).1
  make_goes c repo None m s is = stops w (stop.NeedName repo) m is
  make_goes c repo (Some n) m s is =
      let o = new_object w c in gives w m (new m n o) (value.Ref n.0) (new_takes m n o (taken m.names (position (λ (y : Oref). y.repo == repo) m.names.waiting) n (by_place repo m.names n is))) (new_grows m n o) (λ h. h) (new_sound m n o s)

  below : (b : Bool) (c repo : ℕ) (m : Machine) → Sound m
      → let r : Result Value Stop × Machine = cond b (make w c repo (take_name repo m.names) m) (Err (stop.Fault fault.Large), m) in Went w Value m r.0 r.1
  below true c repo m s = make_goes c repo (take_name repo m.names) m s refl
  below false c repo m s = stops w (stop.Fault fault.Large) m tt

  create_in_goes : (repo : ℕ) (c : Option ℕ) → Goes w (create_in w repo c)
  create_in_goes repo None m s = value w value.Null m s
  create_in_goes repo (Some c) m s = below (nat_lt (length m.created) CREATE_LIMIT) c repo m s

  pub create_goes : (class : List ℕ) (at : Option At) → Goes w (create w class at)
  unfolding create
  create_goes class at m s = create_in_goes (repo_for m.this at) (class_named w.schema.classes class) m s
