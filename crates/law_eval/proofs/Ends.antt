-- How a run ends, and what it has read by then: what each action says of it, and what one action and then another say.
use Rattle.std.proofs.Common.{◌≡◌, ◌⊎◌, Bool, true, false, cond, List, [], ◌∷◌, ◌++◌, Option, Some, None, Result, Ok, Err, refl, ap, sym, ◌∙◌, inl, inr}
use Rattle.std.specs.List.{AllByRecursion}
use Rattle.std.specs.Prelude.{◌||◌, find, is_some, nat_lt, ◌+◌}
use Rattle.thor_value.proofs.FiniteMap.{get-insert}
use Rattle.thor_value.proofs.NameOrders.{oref_total}
use Rattle.thor_value.specs.FiniteMap.{Map, get, has, insert}
use Rattle.thor_value.specs.Names.{oref_cmp, same_oref}
use Rattle.thor_value.specs.declared.names.Oref.{Oref}
use Rattle.thor_value.specs.declared.values.Fault.TheVariants as fault
use Rattle.class_defs.proofs.SameNames.{one_name, same_itself}
use Rattle.class_defs.specs.Objects.{take_name}
use Rattle.class_defs.specs.Steps.{World, Action, after, step, ◌>>=◌}
use Rattle.class_defs.specs.declared.limits.TheConstants.{STEP_LIMIT}
use Rattle.class_defs.specs.declared.machine.Machine.{Machine}
use Rattle.class_defs.specs.declared.machine.Receiver.{Receiver}
use Rattle.class_defs.specs.declared.machine.Stop.{Stop}
use Rattle.class_defs.specs.declared.machine.Stop.TheVariants as stop

-- the object was read or created
abbrev pub known : Machine → Oref → Bool
known m x = has m.reads x || is_some (find (same_oref x) m.created)

-- and each of these was
abbrev pub AllKnown : Machine → List Oref → Type 0
AllKnown m xs = AllByRecursion (λ x. known m x ≡ true) xs

abbrev pub ThisKnown : Machine → Option Receiver → Type 0
ThisKnown m None = Unit {0}
ThisKnown m (Some r) = (known m r.oref ≡ true) × AllKnown m r.owners

-- `this` was read or created with its owners, and so was what was written
pub record Sound (m : Machine) : Type 0 where
  pub this : ThisKnown m m.this
  pub written : (x : Oref) → has m.writes x ≡ true → known m x ≡ true

-- what was read or created stays so
abbrev pub Grows : Machine → Machine → Type 0
Grows m n = (x : Oref) → known m x ≡ true → known n x ≡ true

pub all_grow : (m n : Machine) → Grows m n → (xs : List Oref) → AllKnown m xs → AllKnown n xs
all_grow m n g [] h = tt
all_grow m n g (x ∷ xs) h = (g x h.0, all_grow m n g xs h.1)

pub this_grows : (m n : Machine) → Grows m n → (t : Option Receiver) → ThisKnown m t → ThisKnown n t
this_grows m n g None h = tt
this_grows m n g (Some r) h = (g r.oref h.0, all_grow m n g r.owners h.1)

-- whether a name is among these
abbrev pub is_named : List Oref → Oref → Bool
is_named xs x = is_some (find (same_oref x) xs)

-- where there are no stand-in names, what was made took names that waited
pub record Takes (m n : Machine) : Type 0 where
  pub none : m.names.stand_in ≡ None → n.names.stand_in ≡ None
  pub waiting : (x : Oref) → is_named n.names.waiting x ≡ true → is_named m.names.waiting x ≡ true
  pub made : m.names.stand_in ≡ None → (x : Oref) → is_named n.created x ≡ true → (is_named m.created x ≡ true) ⊎ (is_named m.names.waiting x ≡ true)

pub takes_no : (m : Machine) → Takes m m
takes_no m = record { none = λ e. e; waiting = λ x h. h; made = λ e x h. inl h }

takes_then : (m n o : Machine) → Takes m n → Takes n o → Takes m o
takes_then m n o h k = record {
  none = λ e. k.none (h.none e);
  waiting = λ x is. h.waiting x (k.waiting x is);
  made = λ e x is. elim (k.made (h.none e) x is) [
    | inl before ↦ h.made e x before
    | inr named ↦ inr (h.waiting x named)
  ];
}

module _ (w : World) where
  -- what was read is at hand
  abbrev pub AtHand : Machine → Type 0
  AtHand m = (x : Oref) → has m.reads x ≡ true → is_some (w.at_hand x) ≡ true

  -- an object that is needed isn't at hand, and the owners that are told with it were read or created; where a name is
  -- needed, there is none
  abbrev pub StopIs : Machine → Stop → Type 0
  StopIs m (stop.Fault f) = Unit {0}
  StopIs m (stop.Need x owners) = (w.at_hand x ≡ None) × AllKnown m owners
  StopIs m (stop.NeedName repo) = take_name repo m.names ≡ None

  abbrev pub EndIs : {A : Type 0} → Result A Stop → Machine → Type 0
  EndIs (Ok a) m = Unit {0}
  EndIs (Err s) m = StopIs m s

  -- what an action did from m
  pub record Went (A : Type 0) (m : Machine) (r : Result A Stop) (n : Machine) : Type 0 where
    pub grows : Grows m n
    pub hand : AtHand m → AtHand n
    pub sound : (a : A) → r ≡ Ok a → Sound n
    pub ended : EndIs r n
    pub takes : Takes m n

  abbrev pub Goes : {A : Type 0} → Action A → Type 0
  Goes {A} p = (m : Machine) → Sound m → Went A m (p m).0 (p m).1

  pub on : {A B : Type 0} (m n : Machine) (r : Result A Stop) (k : A → Action B) → Went A m r n
      → ((a : A) → r ≡ Ok a → Sound n → Grows m n → Went B n (k a n).0 (k a n).1) → Went B m (after r n k).0 (after r n k).1
  on m n (Ok a) k h next = let then = next a refl (h.sound a refl) h.grows in record {
    grows = λ x g. then.grows x (h.grows x g);
    hand = λ g. then.hand (h.hand g);
    sound = then.sound;
    ended = then.ended;
    takes = takes_then m n (k a n).1 h.takes then.takes;
  }
  on m n (Err s) k h next = record { grows = h.grows; hand = h.hand; sound = λ b e. cc; ended = h.ended; takes = h.takes }

  pub bind : {A B : Type 0} (p : Action A) (k : A → Action B) → Goes p → ((a : A) → Goes (k a)) → Goes (p >>= k)
  bind p k h next m s = on m (p m).1 (p m).0 k (h m s) (λ a is t grows. next a (p m).1 t)

  -- a value, with a state in which the same was read, created and written
  pub gives : {A : Type 0} (m n : Machine) (a : A) → Takes m n → Grows m n → (AtHand m → AtHand n) → Sound n → Went A m (Ok a) n
  gives m n a takes grows hand sound = record { grows = grows; hand = hand; sound = λ c e. sound; ended = tt; takes = takes }

  pub value : {A : Type 0} (a : A) → Goes (λ m. (Ok a, m))
  value a m s = gives m m a (takes_no m) (λ x h. h) (λ h. h) s

  pub tells : {A : Type 0} (h : Machine → A) → Goes (λ m. (Ok (h m), m))
  tells h m s = gives m m (h m) (takes_no m) (λ x k. k) (λ k. k) s

  pub stops : {A : Type 0} (s : Stop) (m : Machine) → StopIs m s → Went A m (Err s) m
  stops s m is = record { grows = λ x h. h; hand = λ h. h; sound = λ a e. cc; ended = is; takes = takes_no m }

  pub faults : {A : Type 0} (f : fault.the_data) → Goes {A = A} (λ m. (Err (stop.Fault f), m))
  faults f m s = stops (stop.Fault f) m tt

  stepped : (b : Bool) (m : Machine) → Sound m
      → let r : Result (Unit {0}) Stop × Machine = cond b (Ok tt, record m { steps = m.steps + 1 }) (Err (stop.Fault fault.Steps), m) in
      Went (Unit {0}) m r.0 r.1
  stepped true m s = gives m _ tt (record { none = λ e. e; waiting = λ x h. h; made = λ e x h. inl h }) (λ x h. h) (λ h. h) (record { this = s.this; written = s.written })
  stepped false m s = stops (stop.Fault fault.Steps) m tt

  pub steps : Goes step
  unfolding step
  steps m s = stepped (nat_lt m.steps STEP_LIMIT) m s

  pub choose : {A : Type 0} (b : Bool) (p q : Action A) (m : Machine) → Went A m (p m).0 (p m).1 → Went A m (q m).0 (q m).1
      → Went A m (cond b p q m).0 (cond b p q m).1
  choose true p q m h k = h
  choose false p q m h k = k

-- ---- maps and lists that grow

kept : {X : Type 0} (b : Bool) (o : Option X) (v : X) → is_some o ≡ true → is_some (cond b (Some v) o) ≡ true
kept true o v h = refl
kept false o v h = h

pub has-insert : {X : Type 0} (m : Map oref_cmp X) (k : Oref) (v : X) (x : Oref) → has m x ≡ true → has (insert m k v) x ≡ true
has-insert m k v x h = ap is_some (get-insert oref_total m k v x) ∙ kept (same_oref x k) (get m x) v h

pub has-inserted : {X : Type 0} (m : Map oref_cmp X) (k : Oref) (v : X) → has (insert m k v) k ≡ true
has-inserted m k v = ap is_some (get-insert oref_total m k v k) ∙ ap (λ b. is_some (cond b (Some v) (get m k))) (same_itself k)

-- what an insert has it had before, or it is the key
pub has-before : {X : Type 0} (m : Map oref_cmp X) (k : Oref) (v : X) (x : Oref) → has (insert m k v) x ≡ true → (x ≡ k) ⊎ (has m x ≡ true)
has-before m k v x h = by (same_oref x k) refl (ap is_some (sym (get-insert oref_total m k v x)) ∙ h)
  where
    by : (b : Bool) → same_oref x k ≡ b → is_some (cond b (Some v) (get m x)) ≡ true → (x ≡ k) ⊎ (has m x ≡ true)
    by true is g = inl (one_name x k true is refl)
    by false is g = inr g

pub found_on : (xs ys : List Oref) (x : Oref) → is_some (find (same_oref x) xs) ≡ true → is_some (find (same_oref x) (xs ++ ys)) ≡ true
found_on [] ys x h = cc
found_on (z ∷ xs) ys x h = by (same_oref x z) (found_on xs ys x) h
  where
    by : (b : Bool) → (is_some (find (same_oref x) xs) ≡ true → is_some (find (same_oref x) (xs ++ ys)) ≡ true)
        → is_some (cond b (Some z) (find (same_oref x) xs)) ≡ true → is_some (cond b (Some z) (find (same_oref x) (xs ++ ys))) ≡ true
    by true rest k = refl
    by false rest k = rest k

pub found_last : (xs : List Oref) (x : Oref) → is_some (find (same_oref x) (xs ++ x ∷ [])) ≡ true
found_last [] x = ap (λ b. is_some (cond b (Some x) None)) (same_itself x)
found_last (z ∷ xs) x = by (same_oref x z) (found_last xs x)
  where
    by : (b : Bool) → is_some (find (same_oref x) (xs ++ x ∷ [])) ≡ true → is_some (cond b (Some z) (find (same_oref x) (xs ++ x ∷ []))) ≡ true
    by true rest = refl
    by false rest = rest

pub either : (a b c d : Bool) → (a ≡ true → c ≡ true) → (b ≡ true → d ≡ true) → (a || b) ≡ true → (c || d) ≡ true
either true b c d f g h = ap (λ z. z || d) (f refl)
either false b true d f g h = refl
either false b false d f g h = g h
