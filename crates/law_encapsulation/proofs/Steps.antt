-- What is owed of an action of checked code beside fitting: what holds of parts goes on to hold, and what was read and made
-- grows.
use Rattle.class_defs.proofs.ActionWords.{over}
use Rattle.class_defs.proofs.KeptRules.{held, nothing}
use Rattle.class_defs.specs.ExpressionRules.{judged}
use Rattle.class_defs.specs.Objects.{class_found, seen, touch}
use Rattle.class_defs.specs.Rules.{is_free_type, is_part, is_type}
use Rattle.class_defs.specs.StatementRules.{block_rules}
use Rattle.class_defs.specs.Steps.{Action, World, after, step}
use Rattle.class_defs.specs.Types.{type_named}
use Rattle.class_defs.specs.declared.classes.Class.{Class}
use Rattle.class_defs.specs.declared.expressions.Expr.{Expr}
use Rattle.class_defs.specs.declared.expressions.TypeName.TheVariants as type_name
use Rattle.class_defs.specs.declared.expressions.TypeName.{TypeName}
use Rattle.class_defs.specs.declared.limits.TheConstants.{READ_LIMIT, STEP_LIMIT}
use Rattle.class_defs.specs.declared.machine.Flow.{Flow}
use Rattle.class_defs.specs.declared.machine.Machine.{Machine}
use Rattle.class_defs.specs.declared.machine.Receiver.{Receiver}
use Rattle.class_defs.specs.declared.machine.Stop.TheVariants as stop
use Rattle.class_defs.specs.declared.machine.Stop.{Stop}
use Rattle.class_defs.specs.declared.rules.NamedType.{NamedType}
use Rattle.class_defs.specs.declared.rules.Position.TheVariants.{BesideNull, IntoOwnedField, Receiver as AsReceiver, Value as AsValue}
use Rattle.class_defs.specs.declared.rules.Position.{Position}
use Rattle.class_defs.specs.declared.statements.Stmt.{Stmt}
use Rattle.class_defs.specs.declared.store.Object.{Object}
use Rattle.class_defs.specs.declared.store.Schema.{Schema}
use Rattle.class_defs.specs.declared.types.ExprType.{ExprType}
use Rattle.law_type_soundness.proofs.FitCalls.{sight_of}
use Rattle.law_type_soundness.specs.Fits.{MachineFits}
use Rattle.law_encapsulation.proofs.Made.{is_among}
use Rattle.law_encapsulation.proofs.Tidy.{CanReach, Grows, IsFresh, Tidy, grows_no, grows_read, grows_then, is_known, read_itself, tidy_read}
use Rattle.law_encapsulation.specs.Owning.{OwnsIn}
use Rattle.std.proofs.Common.{Bool, List, [], cond, false, inl, inr, refl, subst, true, ℕ, ◌+◌, ◌≡◌}
use Rattle.std.proofs.lemmas.Bool.{not-true, both_ways, or_left}
use Rattle.std.specs.List.{AllByRecursion}
use Rattle.std.specs.Prelude.{Err, None, Ok, Option, Result, Some, find, is_some, nat_lt, ◌||◌, ◌⊎◌}
use Rattle.thor_value.specs.FiniteMap.{has, insert, len}
use Rattle.thor_value.specs.Names.{same_oref}
use Rattle.thor_value.specs.declared.names.Oref.{Oref}
use Rattle.thor_value.specs.declared.values.Fault.TheVariants as fault
use Rattle.thor_value.specs.declared.values.Value.TheVariants as value
use Rattle.thor_value.specs.declared.values.Value.{Value}

-- the type of a word for a parameter, a result or a local isn't a part class
pub free_type : (classes : List Class) (t : TypeName) → is_free_type classes t ≡ [] → is_part classes (type_named classes t) ≡ false
free_type classes (type_name.Int line) h = refl
free_type classes (type_name.Class name) h = not-true (is_part classes (type_named classes (type_name.Class name))) (held _ _ _ (nothing (is_type classes (type_name.Class name)) _ h).1)

-- nothing is owed of what an action gives
abbrev pub Any : {A : Type 0} → A → Machine → Type 0
Any a n = Unit {0}

module _ (schema : Schema) (repos : ℕ) (E : Oref → Option Object) where
  abbrev pub w : World
  w = over schema E

  -- what holds of parts in a state
  abbrev pub TidyAt : Machine → Type 0
  TidyAt m = Tidy schema.classes E m.writes m.created m.reads m.this

  abbrev pub GrowsTo : Machine → Machine → Type 0
  GrowsTo m n = Grows schema.classes E m.created m.reads n.created n.reads

  -- What an action did from m, ending in n.
  pub record Goes {A : Type 0} (Good : A → Machine → Type 0) (m : Machine) (r : Result A Stop) (n : Machine) : Type 0 where
    pub tidy : TidyAt n
    pub grows : GrowsTo m n
    pub good : (a : A) → r ≡ Ok a → Good a n

  pub on : {A B : Type 0} (Good : A → Machine → Type 0) (Well : B → Machine → Type 0) (m n : Machine) (r : Result A Stop) (k : A → Action B) → Goes Good m r n
      → ((a : A) → r ≡ Ok a → Good a n → TidyAt n → GrowsTo m n → Goes Well n (k a n).0 (k a n).1) → Goes Well m (after r n k).0 (after r n k).1
  on Good Well m n (Ok a) k h next =
      let then = next a refl (h.good a refl) h.tidy h.grows in
      record { tidy = then.tidy; grows = grows_then schema.classes E _ _ _ _ _ _ h.grows then.grows; good = then.good }
  on Good Well m n (Err s) k h next = record { tidy = h.tidy; grows = h.grows; good = λ b e. cc }

  pub still : {A : Type 0} (Good : A → Machine → Type 0) (m : Machine) (a : A) → TidyAt m → Good a m → Goes Good m (Ok a) m
  still {A} Good m a t good = record { tidy = t; grows = grows_no schema.classes E m.created m.reads; good = λ b e. let p : a ≡ b = cc in subst (λ (c : A). Good c m) p good }

  pub stops : {A : Type 0} (Good : A → Machine → Type 0) (m : Machine) (s : Stop) → TidyAt m → Goes Good m (Err s) m
  stops Good m s t = record { tidy = t; grows = grows_no schema.classes E m.created m.reads; good = λ b e. cc }

  pub weaker : {A : Type 0} (Good Well : A → Machine → Type 0) (m n : Machine) (r : Result A Stop) → Goes Good m r n → ((a : A) → r ≡ Ok a → Good a n → Well a n) → Goes Well m r n
  weaker Good Well m n r h f = record { tidy = h.tidy; grows = h.grows; good = λ a e. f a e (h.good a e) }

  -- ---- one step

  step_at : (b : Bool) (m : Machine) → TidyAt m → let r : Result (Unit {0}) Stop × Machine = cond b (Ok tt, record m { steps = m.steps + 1 }) (Err (stop.Fault fault.Steps), m) in Goes Any m r.0 r.1
  step_at true m t = record { tidy = t; grows = grows_no schema.classes E m.created m.reads; good = λ a e. tt }
  step_at false m t = stops Any m (stop.Fault fault.Steps) t

  pub steps : (m : Machine) → TidyAt m → Goes Any m (step m).0 (step m).1
  unfolding step
  steps m t = step_at (nat_lt m.steps STEP_LIMIT) m t

  -- ---- an object becomes a receiver

  abbrev pub Known : Oref → ℕ → Machine → Type 0
  Known x c n = is_known schema.classes E n.reads n.created x ≡ true

  abbrev read : Machine → Oref → Machine
  read m x = record m { reads = insert m.reads x tt }

  abbrev touched : Bool → Bool → Option Object → List Oref → Oref → Machine → Result ℕ Stop × Machine
  touched b few o owners x m =
      cond b (class_found o x owners m) (cond few (after (class_found o x owners m).0 (class_found o x owners m).1 (λ c. λ n. (Ok c, read n x))) (Err (stop.Fault fault.Large), m))

  touched_goes : (b few : Bool) (o : Option Object) (owners : List Oref) (x : Oref) (m : Machine) → is_known schema.classes E m.reads m.created x ≡ b → CanReach schema.classes E m.reads m.created x → TidyAt m
      → Goes (Known x) m (touched b few o owners x m).0 (touched b few o owners x m).1
  touched_goes true few (Some o) owners x m is can t = still (Known x) m o.class t is
  touched_goes true few None owners x m is can t = stops (Known x) m (stop.Need x owners) t
  touched_goes false true (Some o) owners x m is (inl k) t = absurd (both_ways (is_known schema.classes E m.reads m.created x) is k)
  touched_goes false true (Some o) owners x m is (inr h) t = record {
    tidy = tidy_read schema.classes E m.writes m.created m.reads m.this t x h;
    grows = grows_read schema.classes E m.writes m.created m.reads m.this t x;
    good = λ a e. or_left (has (insert m.reads x tt) x) (is_among m.created x) (read_itself schema.classes E m.writes m.created m.reads m.this t x);
  }
  touched_goes false true None owners x m is can t = stops (Known x) m (stop.Need x owners) t
  touched_goes false false o owners x m is can t = stops (Known x) m (stop.Fault fault.Large) t

  pub touch_goes : (owners : List Oref) (x : Oref) (m : Machine) → CanReach schema.classes E m.reads m.created x → TidyAt m → Goes (Known x) m (touch w owners x m).0 (touch w owners x m).1
  unfolding touch
  touch_goes owners x m can t = touched_goes (has m.reads x || is_some (find (same_oref x) m.created)) (nat_lt (len m.reads) READ_LIMIT) (seen w m x) owners x m refl can t

  -- ---- what values may do at a place

  abbrev pub Placed : Position → ExprType → Value → Machine → Type 0
  Placed AsReceiver k v n = (x : Oref) → v ≡ value.Ref x → is_part schema.classes k ≡ true → CanReach schema.classes E n.reads n.created x
  Placed BesideNull k v n = Unit {0}
  Placed IntoOwnedField k v n = (x : Oref) → v ≡ value.Ref x → is_part schema.classes k ≡ true → (r : Receiver) → n.this ≡ Some r → IsFresh schema.classes E n.writes n.created r.oref x
  Placed AsValue k v n = is_part schema.classes k ≡ false

  -- a value that is no part may stand anywhere
  pub placed_free : (place : Position) (k : ExprType) (v : Value) (n : Machine) → is_part schema.classes k ≡ false → Placed place k v n
  placed_free AsReceiver k v n free = λ x e part. absurd (both_ways (is_part schema.classes k) free part)
  placed_free BesideNull k v n free = tt
  placed_free IntoOwnedField k v n free = λ x e part r is. absurd (both_ways (is_part schema.classes k) free part)
  placed_free AsValue k v n free = free

  -- a receiver that is a part: `this`, or made, or one that `this` owned at first
  pub record Held (m n : Machine) (x : Oref) : Type 0 where
    pub receiver : Receiver
    pub this : m.this ≡ Some receiver
    pub is : (x ≡ receiver.oref) ⊎ ((is_among n.created x ≡ true) ⊎ ((i : ℕ) × OwnsIn schema.classes E receiver.oref i x))

  -- the names in sight are of no parts
  abbrev pub AreFree : List NamedType → Type 0
  AreFree l = AllByRecursion (λ (n : NamedType). is_part schema.classes n.kind ≡ false) l

  -- expressions that break no rule go so
  abbrev pub PartsGo : (Expr → Action Value) → Type 0
  PartsGo v = (t : Option ℕ) (r : ExprType) (l : List NamedType) → AreFree l → (e : Expr) (place : Position)
      → (judged (sight_of schema repos t r l) e).broken place ≡ [] → (m : Machine) → MachineFits w (sight_of schema repos t r l) m → TidyAt m
      → Goes (Placed place (judged (sight_of schema repos t r l) e).kind) m (v e m).0 (v e m).1

  -- and blocks
  abbrev pub BlocksGo : (List Stmt → Action Flow) → Type 0
  BlocksGo b = (t : Option ℕ) (r : ExprType) (l : List NamedType) → AreFree l → (ss : List Stmt) → block_rules (sight_of schema repos t r l) ss ≡ []
      → (m : Machine) → MachineFits w (sight_of schema repos t r l) m → TidyAt m → Goes Any m (b ss m).0 (b ss m).1
