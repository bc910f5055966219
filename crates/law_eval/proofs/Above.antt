-- An evaluation of checked code over a part of a store, beside that over the whole store: what holds in each state of it, and
-- what actions tell of the owners of an object that is needed.
use Rattle.std.proofs.Common.{◌≡◌, Bool, true, false, cond, List, [], ◌∷◌, ◌++◌, Option, Some, None, Result, Ok, Err, refl, ap, sym, subst, ◌∙◌, ℕ}
use Rattle.std.proofs.lemmas.Bool.{both_ways}
use Rattle.std.specs.Prelude.{is_some, nat_lt, ◌+◌, length}
use Rattle.thor_value.specs.FiniteMap.{insert}
use Rattle.thor_value.specs.declared.names.Oref.{Oref}
use Rattle.thor_value.specs.declared.values.Fault.TheVariants as fault
use Rattle.thor_value.specs.declared.values.Value.{Value}
use Rattle.thor_value.specs.declared.values.Value.TheVariants as value
use Rattle.class_defs.proofs.ActionWords.{Ended, over}
use Rattle.class_defs.specs.Objects.{assign_field, assign_receiver, create, create_in, make, new_object, repo_for, seen, take_name, with_field}
use Rattle.class_defs.specs.Rules.{Sight, is_part}
use Rattle.class_defs.specs.Steps.{World, Action, after, step}
use Rattle.class_defs.specs.Types.{class_named, field_named}
use Rattle.class_defs.specs.declared.expressions.At.{At}
use Rattle.class_defs.specs.declared.limits.TheConstants.{CREATE_LIMIT, STEP_LIMIT}
use Rattle.class_defs.specs.declared.machine.Machine.{Machine}
use Rattle.class_defs.specs.declared.machine.NameSupply.{NameSupply}
use Rattle.class_defs.specs.declared.machine.Receiver.{Receiver}
use Rattle.class_defs.specs.declared.machine.Stop.{Stop}
use Rattle.class_defs.specs.declared.machine.Stop.TheVariants as stop
use Rattle.class_defs.specs.declared.store.Object.{Object}
use Rattle.class_defs.specs.declared.store.Schema.{Schema}
use Rattle.class_defs.specs.declared.types.ExprType.TheVariants as type
use Rattle.law_eval.proofs.Ends.{AtHand, Sound as KnownSound}
use Rattle.law_type_soundness.specs.Fits.{MachineFits}
use Rattle.law_encapsulation.proofs.Made.{is_among}
use Rattle.law_encapsulation.proofs.Steps.{Any, TidyAt}
use Rattle.law_encapsulation.specs.Owning.{OwnsIn}
use Rattle.law_frame.proofs.Alike.{Sound as AlikeSound}
use Rattle.law_frame.proofs.AlikeSteps.{Went as Alike}

-- a stop ends any action
pub same_stop : {A B : Type 0} (s t : Stop) → ◌≡◌ {A = Result B Stop} (Err s) (Err t) → ◌≡◌ {A = Result A Stop} (Err s) (Err t)
same_stop s t e = let p : s ≡ t = cc in ap Err p

ended : {A : Type 0} (r : Result A Stop) (a : A) → r ≡ Ok a → Ended r
ended (Ok b) a is = tt
ended (Err s) a is = cc

-- f is at hand of the whole store g
module _ (schema : Schema) (repos : ℕ) (f g : Oref → Option Object) where
  abbrev pub here : World
  here = over schema f

  abbrev pub whole : World
  whole = over schema g

  -- just these are above an object in the whole store, nearest first: the last one is no part
  abbrev pub AreAbove : Oref → List Oref → Type 0
  AreAbove x [] = (o : Object) → g x ≡ Some o → is_part schema.classes (type.Class o.class) ≡ false
  AreAbove x (a ∷ further) = ((i : ℕ) × OwnsIn schema.classes g a i x) × AreAbove a further

  -- `this` has those with it that are above it, where it wasn't made
  abbrev pub ThisAbove : Machine → Type 0
  ThisAbove m = (q : Receiver) → m.this ≡ Some q → is_among m.created q.oref ≡ false → AreAbove q.oref q.owners

  pub record State (s : Sight) (m : Machine) : Type 0 where
    pub fits : MachineFits whole s m
    pub tidy : TidyAt schema repos g m
    pub hand : AtHand here m
    pub known : KnownSound m
    pub made : AlikeSound m
    pub above : ThisAbove m

  -- What an action did from m, ending in n: it tells the right owners, and gives `this` back.
  pub record Tells {A : Type 0} (Good : A → Machine → Type 0) (m : Machine) (r : Result A Stop) (n : Machine) : Type 0 where
    pub told : (x : Oref) (owners : List Oref) → r ≡ Err (stop.Need x owners) → AreAbove x owners
    pub this : (a : A) → r ≡ Ok a → n.this ≡ m.this
    pub good : (a : A) → r ≡ Ok a → Good a n

  pub on : {A B : Type 0} (Good : A → Machine → Type 0) (Well : B → Machine → Type 0) (m n : Machine) (r : Result A Stop) (k : A → Action B) → Tells Good m r n
      → ((a : A) → r ≡ Ok a → Good a n → n.this ≡ m.this → Tells Well n (k a n).0 (k a n).1) → Tells Well m (after r n k).0 (after r n k).1
  on Good Well m n (Ok a) k h next =
      let then = next a refl (h.good a refl) (h.this a refl) in
      record { told = then.told; this = λ b e. then.this b e ∙ h.this a refl; good = then.good }
  on Good Well m n (Err s) k h next = record { told = λ x owners e. h.told x owners (same_stop s (stop.Need x owners) e); this = λ b e. cc; good = λ b e. cc }

  pub gives : {A : Type 0} (Good : A → Machine → Type 0) (m n : Machine) (a : A) → n.this ≡ m.this → Good a n → Tells Good m (Ok a) n
  gives {A} Good m n a same good = record { told = λ x owners e. cc; this = λ b e. same; good = λ b e. let p : a ≡ b = cc in subst (λ (c : A). Good c n) p good }

  pub still : {A : Type 0} (Good : A → Machine → Type 0) (m : Machine) (a : A) → Good a m → Tells Good m (Ok a) m
  still Good m a good = gives Good m m a refl good

  pub faults : {A : Type 0} (Good : A → Machine → Type 0) (m : Machine) (f : fault.the_data) → Tells Good m (Err (stop.Fault f)) m
  faults Good m f = record { told = λ x owners e. cc; this = λ a e. cc; good = λ a e. cc }

  pub lacks : {A : Type 0} (Good : A → Machine → Type 0) (m : Machine) (repo : ℕ) → Tells Good m (Err (stop.NeedName repo)) m
  lacks Good m repo = record { told = λ x owners e. cc; this = λ a e. cc; good = λ a e. cc }

  pub weaker : {A : Type 0} (Good Well : A → Machine → Type 0) (m n : Machine) (r : Result A Stop) → Tells Good m r n → ((a : A) → r ≡ Ok a → Good a n → Well a n) → Tells Well m r n
  weaker Good Well m n r h k = record { told = h.told; this = h.this; good = λ a e. k a e (h.good a e) }

  pub choose : {A : Type 0} (Good : A → Machine → Type 0) (c : Bool) (p q : Action A) (m : Machine) → Tells Good m (p m).0 (p m).1 → Tells Good m (q m).0 (q m).1
      → Tells Good m (cond c p q m).0 (cond c p q m).1
  choose Good true p q m h k = h
  choose Good false p q m h k = k

  -- ---- what holds of `this` goes on to hold

  pub above_on : (m n : Machine) → n.this ≡ m.this → ((x : Oref) → is_among m.created x ≡ true → is_among n.created x ≡ true) → ThisAbove m → ThisAbove n
  above_on m n same more h q at out = h q (sym same ∙ at) (before (is_among m.created q.oref) refl)
    where
      before : (b : Bool) → is_among m.created q.oref ≡ b → is_among m.created q.oref ≡ false
      before true e = absurd (both_ways (is_among n.created q.oref) out (more q.oref e))
      before false e = e

  -- ---- the whole store

  -- what gave a value over what is at hand gives it over the whole store
  pub same_run : (agrees : (x : Oref) → is_some (f x) ≡ true → g x ≡ f x) → {A : Type 0} (m n : Machine) (r : Result A Stop) (other : Result A Stop × Machine) (a : A) → r ≡ Ok a
      → Alike f g A m r n other → AtHand here n → other ≡ (r, n)
  same_run agrees m n r other a is h hand = h.same (ended r a is) (λ x read. agrees x (hand x read))

  -- ---- one step

  step_at : (s : Sight) (few : Bool) (m : Machine) → State s m
      → let r : Result (Unit {0}) Stop × Machine = cond few (Ok tt, record m { steps = m.steps + 1 }) (Err (stop.Fault fault.Steps), m) in Tells (λ u q. State s q) m r.0 r.1
  unfolding seen
  step_at s true m h = gives (λ u q. State s q) m (record m { steps = m.steps + 1 }) tt refl (record {
    fits = record { objects = h.fits.objects; this = h.fits.this; locals = h.fits.locals; names = h.fits.names };
    tidy = h.tidy;
    hand = h.hand;
    known = record { this = h.known.this; written = h.known.written };
    made = record { this = h.made.this; created = h.made.created };
    above = h.above;
  })
  step_at s false m h = faults (λ u q. State s q) m fault.Steps

  pub steps : (s : Sight) (m : Machine) → State s m → Tells (λ u q. State s q) m (step m).0 (step m).1
  unfolding step
  steps s m h = step_at s (nat_lt m.steps STEP_LIMIT) m h

  -- ---- objects are made and written

  make_tells : (c repo : ℕ) (t : Option (Oref × NameSupply)) (m : Machine) → Tells Any m (make here c repo t m).0 (make here c repo t m).1
  make_tells c repo None m = lacks Any m repo
  make_tells c repo (Some n) m = gives Any m (record m { writes = insert m.writes n.0 (new_object here c); created = m.created ++ n.0 ∷ []; names = n.1 }) (value.Ref n.0) refl tt

  few_tells : (b : Bool) (c repo : ℕ) (m : Machine)
      → let r : Result Value Stop × Machine = cond b (make here c repo (take_name repo m.names) m) (Err (stop.Fault fault.Large), m) in Tells Any m r.0 r.1
  few_tells true c repo m = make_tells c repo (take_name repo m.names) m
  few_tells false c repo m = faults Any m fault.Large

  create_in_tells : (repo : ℕ) (c : Option ℕ) (m : Machine) → Tells Any m (create_in here repo c m).0 (create_in here repo c m).1
  create_in_tells repo None m = still Any m value.Null tt
  create_in_tells repo (Some c) m = few_tells (nat_lt (length m.created) CREATE_LIMIT) c repo m

  pub create_tells : (class : List ℕ) (at : Option At) (m : Machine) → Tells Any m (create here class at m).0 (create here class at m).1
  unfolding create
  create_tells class at m = create_in_tells (repo_for m.this at) (class_named schema.classes class) m

  written_this : (o : Option Object) (i : Option ℕ) (v : Value) (x : Oref) (m : Machine) → (with_field o i v x m).this ≡ m.this
  written_this (Some o) (Some i) v x m = refl
  written_this (Some o) None v x m = refl
  written_this None i v x m = refl

  assigned_this : (p : Option Receiver) (name : List ℕ) (v : Value) (m : Machine) → (assign_receiver here p name v m).this ≡ m.this
  assigned_this None name v m = refl
  assigned_this (Some q) name v m = written_this (seen here m q.oref) (field_named schema.classes q.class name) v q.oref m

  pub assign_this : (name : List ℕ) (v : Value) (m : Machine) → (assign_field here name v m).this ≡ m.this
  unfolding assign_field
  assign_this name v m = assigned_this m.this name v m
