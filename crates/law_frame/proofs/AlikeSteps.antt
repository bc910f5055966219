-- That the smallest actions go alike over objects that agree, and that one action and then another do.
use Rattle.std.proofs.Common.{◌≡◌, Bool, true, false, cond, List, Option, Some, None, Result, Ok, Err, refl, ap, sym, ◌∙◌, ℕ}
use Rattle.std.specs.Prelude.{◌||◌, find, is_some, nat_lt, ◌+◌}
use Rattle.thor_value.specs.FiniteMap.{get, has, insert}
use Rattle.thor_value.specs.Names.{same_oref}
use Rattle.thor_value.specs.declared.names.Oref.{Oref}
use Rattle.thor_value.specs.declared.values.Fault.TheVariants as fault
use Rattle.class_defs.proofs.ActionWords.{Ended, over}
use Rattle.class_defs.proofs.SameNames.{same_itself}
use Rattle.law_frame.proofs.Alike.{known, Sound, Grows, grows_no, grows_on, this_grows, has-insert, has-inserted}
use Rattle.class_defs.specs.Objects.{first_of, seen, class_found}
use Rattle.class_defs.specs.Steps.{Action, after, step, ◌>>=◌}
use Rattle.class_defs.specs.declared.limits.TheConstants.{STEP_LIMIT}
use Rattle.class_defs.specs.declared.machine.Machine.{Machine}
use Rattle.class_defs.specs.declared.machine.Stop.{Stop}
use Rattle.class_defs.specs.declared.machine.Stop.TheVariants as stop
use Rattle.class_defs.specs.declared.store.Object.{Object}
use Rattle.class_defs.specs.declared.store.Schema.{Schema}

-- the objects that were read are the same in both
abbrev pub Agree : (Oref → Option Object) → (Oref → Option Object) → Machine → Type 0
Agree f g m = (x : Oref) → has m.reads x ≡ true → g x ≡ f x

-- what an action did from m over f, and did over g: the same, where the objects read are
pub record Went (f g : Oref → Option Object) (A : Type 0) (m : Machine) (r : Result A Stop) (n : Machine) (other : Result A Stop × Machine) : Type 0 where
  pub grows : Grows m n
  pub sound : (a : A) → r ≡ Ok a → Sound n
  pub same : Ended r → Agree f g n → other ≡ (r, n)

module _ (f g : Oref → Option Object) where
  abbrev pub Alike : {A : Type 0} → Action A → Action A → Type 0
  Alike {A} p q = (m : Machine) → Sound m → Went f g A m (p m).0 (p m).1 (q m)

  pub on : {A B : Type 0} (m n : Machine) (r : Result A Stop) (other : Result A Stop × Machine) (k l : A → Action B) → Went f g A m r n other
      → ((a : A) → r ≡ Ok a → Sound n → Grows m n → Went f g B n (k a n).0 (k a n).1 (l a n))
      → Went f g B m (after r n k).0 (after r n k).1 (after other.0 other.1 l)
  on m n (Ok a) other k l h next = let then = next a refl (h.sound a refl) h.grows in record {
    grows = grows_on m n _ h.grows then.grows;
    sound = then.sound;
    same = λ ended agree.
        let e : other ≡ (Ok a, n) = h.same tt (λ x r. agree x (then.grows.reads x r)) in
        ap (λ (p : Result _ Stop × Machine). after p.0 p.1 l) e ∙ then.same ended agree;
  }
  on m n (Err s) other k l h next = record {
    grows = h.grows;
    sound = λ b e. cc;
    same = λ ended agree. ap (λ (p : Result _ Stop × Machine). after p.0 p.1 l) (h.same ended agree);
  }

  pub bind : {A B : Type 0} (p q : Action A) (k l : A → Action B) → Alike p q → ((a : A) → Alike (k a) (l a)) → Alike (p >>= k) (q >>= l)
  bind p q k l h next m s = on m (p m).1 (p m).0 (q m) k l (h m s) (λ a is t grows. next a (p m).1 t)

  -- a value, with a state that has grown
  pub gives : {A : Type 0} (m n o : Machine) (a b : A) → Grows m n → Sound n → (Agree f g n → b ≡ a) → (Agree f g n → o ≡ n) → Went f g A m (Ok a) n (Ok b, o)
  gives m n o a b grows sound same state = record { grows = grows; sound = λ c e. sound; same = λ ended agree. rw (same agree, state agree) refl }

  pub value : {A : Type 0} (a : A) → Alike (λ m. (Ok a, m)) (λ m. (Ok a, m))
  value a m s = gives m m m a a (grows_no m) s (λ agree. refl) (λ agree. refl)

  pub stops : {A : Type 0} (s : Stop) (m : Machine) → Went f g A m (Err s) m (Err s, m)
  stops s m = record { grows = grows_no m; sound = λ a e. cc; same = λ ended agree. refl }

  pub failing : {A : Type 0} (s : Stop) → Alike {A = A} (λ m. (Err s, m)) (λ m. (Err s, m))
  failing s m sound = stops s m

  abbrev stepped : Bool → Machine → Result (Unit {0}) Stop × Machine
  stepped b m = cond b (Ok tt, record m { steps = m.steps + 1 }) (Err (stop.Fault fault.Steps), m)

  step_at : (b : Bool) (m : Machine) → Sound m → Went f g (Unit {0}) m (stepped b m).0 (stepped b m).1 (stepped b m)
  step_at true m s = gives m _ _ tt tt (record { reads = λ x h. h; writes = λ x h. h }) (record { this = s.this; created = s.created }) (λ agree. refl) (λ agree. refl)
  step_at false m s = stops _ m

  pub steps : Alike step step
  unfolding step
  steps m s = step_at (nat_lt m.steps STEP_LIMIT) m s

  -- ---- objects

  pub first_same : (b : Bool) (o p q : Option Object) → (b || is_some o) ≡ true → (b ≡ true → q ≡ p) → first_of o q ≡ first_of o p
  first_same b (Some v) p q h k = refl
  first_same true None p q h k = k refl
  first_same false None p q h k = cc

  pub seen_same : (schema : Schema) (m : Machine) (x : Oref) → known m x ≡ true → Agree f g m → seen (over schema g) m x ≡ seen (over schema f) m x
  unfolding seen
  seen_same schema m x k agree = first_same (has m.reads x) (get m.writes x) (f x) (g x) k (λ r. agree x r)

  pub seen_read : (schema : Schema) (m : Machine) (x : Oref) → g x ≡ f x → seen (over schema g) m x ≡ seen (over schema f) m x
  unfolding seen
  seen_read schema m x e = ap (first_of (get m.writes x)) e

  pub known_made : (m : Machine) → Sound m → (x : Oref) (a : Bool) → a ≡ has m.reads x → (a || is_some (find (same_oref x) m.created)) ≡ true → known m x ≡ true
  known_made m s x true is h = rw (sym is) refl
  known_made m s x false is h = rw (sym is) (s.created x h)

  -- an object that is known becomes a receiver
  pub again : (m : Machine) (x : Oref) (owners : List Oref) (o p : Option Object) → Sound m → (Agree f g m → p ≡ o)
      → Went f g ℕ m (class_found o x owners m).0 (class_found o x owners m).1 (class_found p x owners m)
  again m x owners (Some o) p s e = record { grows = grows_no m; sound = λ a i. s; same = λ ended agree. ap (λ q. class_found q x owners m) (e agree) }
  again m x owners None p s e = record { grows = grows_no m; sound = λ a i. cc; same = λ ended agree. absurd ended }

  abbrev pub read : Machine → Oref → Machine
  read m x = record m { reads = insert m.reads x tt }

  pub read_grows : (m : Machine) (x : Oref) → Grows m (read m x)
  read_grows m x = record { reads = λ y h. has-insert m.reads x tt y h; writes = λ y h. h }

  -- one that isn't is read
  pub newly : (m : Machine) (x : Oref) (owners : List Oref) (o p : Option Object) → Sound m → (g x ≡ f x → p ≡ o)
      → let k : ℕ → Action ℕ = λ c. λ n. (Ok c, read n x) in
      Went f g ℕ m (after (class_found o x owners m).0 (class_found o x owners m).1 k).0 (after (class_found o x owners m).0 (class_found o x owners m).1 k).1 (after (class_found p x owners m).0 (class_found p x owners m).1 k)
  newly m x owners (Some o) p s e = record {
    grows = read_grows m x;
    sound = λ a i. record { this = this_grows m (read m x) (read_grows m x) m.this s.this; created = s.created };
    same = λ ended agree. rw (e (agree x (has-inserted m.reads x tt x (same_itself x)))) refl;
  }
  newly m x owners None p s e = record { grows = grows_no m; sound = λ a i. cc; same = λ ended agree. absurd ended }
