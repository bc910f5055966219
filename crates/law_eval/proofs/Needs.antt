-- Two runs of one transaction over objects that may differ: where the first needs an object, and what it has read is the same
-- for the other, which hasn't that object, then the other needs it, too.
use Rattle.std.proofs.Common.{◌≡◌, Bool, true, false, cond, List, Option, Some, None, Result, Ok, Err, refl, ap, ◌∙◌, ℕ, length}
use Rattle.std.specs.Prelude.{◌||◌, ◌+◌, find, is_some, nat_lt}
use Rattle.thor_value.specs.FiniteMap.{get, has, insert, len}
use Rattle.thor_value.specs.Names.{same_oref}
use Rattle.thor_value.specs.declared.names.Oref.{Oref}
use Rattle.thor_value.specs.declared.values.Fault.TheVariants as fault
use Rattle.thor_value.specs.declared.values.Value.{Value}
use Rattle.class_defs.proofs.ActionWords.{over}
use Rattle.class_defs.specs.Objects.{class_found, create, create_in, first_of, make, repo_for, seen, take_name, touch}
use Rattle.class_defs.specs.Steps.{Action, after, step, ◌>>=◌}
use Rattle.class_defs.specs.Types.{class_named}
use Rattle.class_defs.specs.declared.expressions.At.{At}
use Rattle.class_defs.specs.declared.limits.TheConstants.{CREATE_LIMIT, READ_LIMIT, STEP_LIMIT}
use Rattle.class_defs.specs.declared.machine.Machine.{Machine}
use Rattle.class_defs.specs.declared.machine.NameSupply.{NameSupply}
use Rattle.class_defs.specs.declared.machine.Stop.{Stop}
use Rattle.class_defs.specs.declared.machine.Stop.TheVariants as stop
use Rattle.class_defs.specs.declared.store.Object.{Object}
use Rattle.class_defs.specs.declared.store.Schema.{Schema}
use Rattle.law_eval.proofs.Above.{same_stop}
use Rattle.law_frame.proofs.Alike.{Sound, Grows}
use Rattle.law_frame.proofs.AlikeObjects.{create_alike, touch_alike}
use Rattle.law_frame.proofs.AlikeSteps.{Agree, Went, on as alike_on, steps as alike_steps, stops as alike_stops, value as alike_value}

module _ (f g : Oref → Option Object) where
  -- what an action did from m over f, and did over g: the same where what it read is the same, also where it needs an object
  -- that g hasn't
  pub record Both (A : Type 0) (m : Machine) (r : Result A Stop) (n : Machine) (other : Result A Stop × Machine) : Type 0 where
    pub alike : Went f g A m r n other
    pub need : (x : Oref) (owners : List Oref) → r ≡ Err (stop.Need x owners) → Agree f g n → g x ≡ None → other ≡ (r, n)

  abbrev pub Needs : {A : Type 0} → Action A → Action A → Type 0
  Needs {A} p q = (m : Machine) → Sound m → Both A m (p m).0 (p m).1 (q m)

  pub on : {A B : Type 0} (m n : Machine) (r : Result A Stop) (other : Result A Stop × Machine) (k l : A → Action B) → Both A m r n other
      → ((a : A) → r ≡ Ok a → Sound n → Grows m n → Both B n (k a n).0 (k a n).1 (l a n))
      → Both B m (after r n k).0 (after r n k).1 (after other.0 other.1 l)
  on m n (Ok a) other k l h next =
      let then = next a refl (h.alike.sound a refl) h.alike.grows in
      record {
        alike = alike_on f g m n (Ok a) other k l h.alike (λ b e s grows. (next b e s grows).alike);
        need = λ x owners e agree none.
            let same : other ≡ (Ok a, n) = h.alike.same tt (λ y read. agree y (then.alike.grows.reads y read)) in
            ap (λ (p : Result _ Stop × Machine). after p.0 p.1 l) same ∙ then.need x owners e agree none;
      }
  on m n (Err s) other k l h next = record {
    alike = alike_on f g m n (Err s) other k l h.alike (λ b e t grows. cc);
    need = λ x owners e agree none. ap (λ (p : Result _ Stop × Machine). after p.0 p.1 l) (h.need x owners (same_stop s (stop.Need x owners) e) agree none);
  }

  pub bind : {A B : Type 0} (p q : Action A) (k l : A → Action B) → Needs p q → ((a : A) → Needs (k a) (l a)) → Needs (p >>= k) (q >>= l)
  bind p q k l h next m s = on m (p m).1 (p m).0 (q m) k l (h m s) (λ a is t grows. next a (p m).1 t)

  -- an action that gives a value needs nothing
  pub given : {A : Type 0} (a : A) (m n : Machine) (other : Result A Stop × Machine) → Went f g A m (Ok a) n other → Both A m (Ok a) n other
  given a m n other h = record { alike = h; need = λ x owners e agree none. cc }

  pub value : {A : Type 0} (a : A) → Needs (λ m. (Ok a, m)) (λ m. (Ok a, m))
  value a m s = given a m m (Ok a, m) (alike_value f g a m s)

  pub tells : {A : Type 0} (h : Machine → A) → Needs (λ m. (Ok (h m), m)) (λ m. (Ok (h m), m))
  tells h m s = value (h m) m s

  pub stops : {A : Type 0} (s : Stop) (m : Machine) → Both A m (Err s) m (Err s, m)
  stops s m = record { alike = alike_stops f g s m; need = λ x owners e agree none. refl }

  pub failing : {A : Type 0} (s : Stop) → Needs {A = A} (λ m. (Err s, m)) (λ m. (Err s, m))
  failing s m sound = stops s m

  step_at : (few : Bool) (m : Machine) → let r : Result (Unit {0}) Stop × Machine = cond few (Ok tt, record m { steps = m.steps + 1 }) (Err (stop.Fault fault.Steps), m) in
      Went f g (Unit {0}) m r.0 r.1 r → Both (Unit {0}) m r.0 r.1 r
  step_at true m h = given tt m _ _ h
  step_at false m h = stops (stop.Fault fault.Steps) m

  pub steps : Needs step step
  unfolding step
  steps m s = step_at (nat_lt m.steps STEP_LIMIT) m (alike_steps f g m s)

  pub choose : {A : Type 0} (b : Bool) (p q r s : Action A) (m : Machine) → Both A m (p m).0 (p m).1 (r m) → Both A m (q m).0 (q m).1 (s m)
      → Both A m (cond b p q m).0 (cond b p q m).1 (cond b r s m)
  choose true p q r s m h k = h
  choose false p q r s m h k = k

  -- ---- an object becomes a receiver

  abbrev read : Machine → Oref → Machine
  read m x = record m { reads = insert m.reads x tt }

  abbrev touched : Bool → Bool → Option Object → List Oref → Oref → Machine → Result ℕ Stop × Machine
  touched b few o owners x m =
      cond b (class_found o x owners m) (cond few ((class_found o x owners >>= (λ c. λ n. (Ok c, read n x))) m) (Err (stop.Fault fault.Large), m))

  touched_needs : (b few : Bool) (o p : Option Object) (owners : List Oref) (x : Oref) (m : Machine) → (o ≡ None → g x ≡ None → p ≡ None)
      → (y : Oref) (ys : List Oref) → (touched b few o owners x m).0 ≡ Err (stop.Need y ys) → g y ≡ None → touched b few p owners x m ≡ touched b few o owners x m
  touched_needs b few None p owners x m same y ys e none = by b few e
    where
      absent : x ≡ y → p ≡ None
      absent one = same refl (ap g one ∙ none)

      by : (b few : Bool) → (touched b few None owners x m).0 ≡ Err (stop.Need y ys) → touched b few p owners x m ≡ touched b few None owners x m
      by true few e = let one : x ≡ y = cc in ap (λ q. touched true few q owners x m) (absent one)
      by false true e = let one : x ≡ y = cc in ap (λ q. touched false true q owners x m) (absent one)
      by false false e = refl
  touched_needs true few (Some o) p owners x m same y ys e none = cc
  touched_needs false true (Some o) p owners x m same y ys e none = cc
  touched_needs false false (Some o) p owners x m same y ys e none = cc

  unseen : (schema : Schema) (m : Machine) (x : Oref) → seen (over schema f) m x ≡ None → g x ≡ None → seen (over schema g) m x ≡ None
  unfolding seen
  unseen schema m x e none = by (get m.writes x) e
    where
      by : (o : Option Object) → first_of o (f x) ≡ None → first_of o (g x) ≡ None
      by None k = none
      by (Some v) k = cc

  pub touch_needs : (schema : Schema) (owners : List Oref) (x : Oref) → Needs (touch (over schema f) owners x) (touch (over schema g) owners x)
  unfolding touch
  touch_needs schema owners x m s = record {
    alike = touch_alike schema f g owners x m s;
    need = λ y ys e agree none. touched_needs (has m.reads x || is_some (find (same_oref x) m.created)) (nat_lt (len m.reads) READ_LIMIT)
        (seen (over schema f) m x) (seen (over schema g) m x) owners x m (unseen schema m x) y ys e none;
  }

  -- ---- new objects

  make_free : (schema : Schema) (c repo : ℕ) (t : Option (Oref × NameSupply)) (m : Machine) (x : Oref) (owners : List Oref) → (make (over schema f) c repo t m).0 ≡ Err (stop.Need x owners) → ⊥
  make_free schema c repo None m x owners e = cc
  make_free schema c repo (Some n) m x owners e = cc

  few_free : (schema : Schema) (few : Bool) (c repo : ℕ) (m : Machine) (x : Oref) (owners : List Oref)
      → let r : Result Value Stop × Machine = cond few (make (over schema f) c repo (take_name repo m.names) m) (Err (stop.Fault fault.Large), m) in r.0 ≡ Err (stop.Need x owners) → ⊥
  few_free schema true c repo m x owners e = make_free schema c repo (take_name repo m.names) m x owners e
  few_free schema false c repo m x owners e = cc

  in_free : (schema : Schema) (repo : ℕ) (c : Option ℕ) (m : Machine) (x : Oref) (owners : List Oref) → (create_in (over schema f) repo c m).0 ≡ Err (stop.Need x owners) → ⊥
  in_free schema repo None m x owners e = cc
  in_free schema repo (Some c) m x owners e = few_free schema (nat_lt (length m.created) CREATE_LIMIT) c repo m x owners e

  create_free : (schema : Schema) (class : List ℕ) (at : Option At) (m : Machine) (x : Oref) (owners : List Oref) → (create (over schema f) class at m).0 ≡ Err (stop.Need x owners) → ⊥
  unfolding create
  create_free schema class at m x owners e = in_free schema (repo_for m.this at) (class_named schema.classes class) m x owners e

  pub create_needs : (schema : Schema) (class : List ℕ) (at : Option At) → Needs (create (over schema f) class at) (create (over schema g) class at)
  create_needs schema class at m s = record { alike = create_alike schema f g class at m s; need = λ x owners e agree none. absurd (create_free schema class at m x owners e) }
