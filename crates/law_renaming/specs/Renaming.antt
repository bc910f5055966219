-- Runs of one transaction that differ in the names of their new objects alone (this project's).
use Rattle.std.specs.Prelude.{◌≡◌, ◌⊎◌, ◌==◌, ◌||◌, find, is_some, ℕ, Bool, true, false, List, [], ◌∷◌, length, Option, Some, None, Result, Ok, Err}
use Rattle.std.specs.List.{AllByRecursion, AllZip, IsDistinct}
use Rattle.std.specs.BTreeMap.{is_at}
use Rattle.std.specs.Map.{lookup}
use Rattle.thor_value.specs.FiniteMap.{get}
use Rattle.thor_value.specs.Names.{oref_cmp, same_oref}
use Rattle.thor_value.specs.declared.names.Oref.{Oref}
use Rattle.thor_value.specs.declared.values.Value.{Value}
use Rattle.thor_value.specs.declared.values.Value.TheVariants as value
use Rattle.class_defs.specs.Objects.{stand_in_name}
use Rattle.class_defs.specs.Run.{Ran}
use Rattle.class_defs.specs.Steps.{World}
use Rattle.class_defs.specs.declared.machine.Flow.{Flow}
use Rattle.class_defs.specs.declared.machine.Flow.TheVariants.{Next, Returned}
use Rattle.class_defs.specs.declared.machine.Machine.{Machine}
use Rattle.class_defs.specs.declared.machine.Stop.{Stop}
use Rattle.class_defs.specs.declared.machine.Stop.TheVariants as stop
use Rattle.class_defs.specs.declared.store.Object.{Object}
use Rattle.class_defs.specs.declared.store.RootDeclaration.{RootDeclaration}

-- ---- names that new objects may take

-- A test tells which names are fresh. The value refers to none of these.
abbrev pub IsOld : (Oref → Bool) → Value → Type 0
IsOld fresh (value.Int n) = Unit {0}
IsOld fresh (value.Ref x) = fresh x ≡ false
IsOld fresh value.Null = Unit {0}
IsOld fresh (value.Text w) = Unit {0}

-- No root and no object at hand refers to a fresh name; and the stand-in names are fresh.
pub record Unused (fresh : Oref → Bool) (w : World) : Type 0 where
  pub stand_ins : (k : ℕ) → fresh (stand_in_name k) ≡ true
  pub roots : AllByRecursion (λ (r : RootDeclaration). fresh r.oref ≡ false) w.schema.roots
  pub objects : (x : Oref) → (o : Object) → w.at_hand x ≡ Some o → AllByRecursion (IsOld fresh) o.fields

-- These names are fresh, each is there once, and none lies in repository 255, where the stand-in names lie.
pub record Takeable (fresh : Oref → Bool) (names : List Oref) : Type 0 where
  pub new : AllByRecursion (λ x. fresh x ≡ true) names
  pub placed : AllByRecursion (λ (x : Oref). (x.repo == 255) ≡ false) names
  pub once : IsDistinct same_oref names

-- the names of this list, and those of the repository where the stand-in names lie
abbrev pub among : List Oref → Oref → Bool
among names x = x.repo == 255 || is_some (find (same_oref x) names)

-- Names that a client has at hand: each is there once, none lies where the stand-in names lie, none has an object, and
-- nothing refers to one.
pub record AtHand (names : List Oref) (w : World) : Type 0 where
  pub placed : AllByRecursion (λ (x : Oref). (x.repo == 255) ≡ false) names
  pub once : IsDistinct same_oref names
  pub free : AllByRecursion (λ x. w.at_hand x ≡ None) names
  pub unused : Unused (among names) w

-- ---- two runs side by side

-- x stands in the one list where y stands in the other
abbrev pub Paired : List Oref → List Oref → Oref → Oref → Type 0
Paired [] ys x y = ⊥
Paired (a ∷ xs) [] x y = ⊥
Paired (a ∷ xs) (b ∷ ys) x y = ((x ≡ a) × (y ≡ b)) ⊎ Paired xs ys x y

-- the objects created in two runs, in order, with a test for fresh names
module _ (fresh : Oref → Bool) (created others : List Oref) where
  -- The names mean the same object: it was there before and has one name, or was created by both at the same turn.
  abbrev pub SameName : Oref → Oref → Type 0
  SameName x y = ((fresh x ≡ false) × (x ≡ y)) ⊎ Paired created others x y

  -- the values are the same but for names
  abbrev pub SameValue : Value → Value → Type 0
  SameValue (value.Int a) (value.Int b) = a ≡ b
  SameValue (value.Ref x) (value.Ref y) = SameName x y
  SameValue value.Null value.Null = Unit {0}
  SameValue (value.Text w) (value.Text t) = w ≡ t
  SameValue (value.Int a) (value.Ref y) = ⊥
  SameValue (value.Int a) value.Null = ⊥
  SameValue (value.Int a) (value.Text t) = ⊥
  SameValue (value.Ref x) (value.Int b) = ⊥
  SameValue (value.Ref x) value.Null = ⊥
  SameValue (value.Ref x) (value.Text t) = ⊥
  SameValue value.Null (value.Int b) = ⊥
  SameValue value.Null (value.Ref y) = ⊥
  SameValue value.Null (value.Text t) = ⊥
  SameValue (value.Text w) (value.Int b) = ⊥
  SameValue (value.Text w) (value.Ref y) = ⊥
  SameValue (value.Text w) value.Null = ⊥

  -- so are the objects, where there are any
  abbrev pub SameObject : Option Object → Option Object → Type 0
  SameObject (Some o) (Some p) = (o.class ≡ p.class) × AllZip SameValue o.fields p.fields
  SameObject None None = Unit {0}
  SameObject (Some o) None = ⊥
  SameObject None (Some p) = ⊥

  abbrev pub SameFlow : Flow → Flow → Type 0
  SameFlow Next Next = Unit {0}
  SameFlow (Returned a) (Returned b) = SameValue a b
  SameFlow Next (Returned b) = ⊥
  SameFlow (Returned a) Next = ⊥

  -- both stop for one reason, and not for want of a name; where an object isn't at hand, neither created it
  abbrev pub SameStop : Stop → Stop → Type 0
  SameStop (stop.Fault f) (stop.Fault g) = f ≡ g
  SameStop (stop.Need x owners) (stop.Need y possessors) = (fresh x ≡ false) × (x ≡ y) × AllZip SameName owners possessors
  SameStop (stop.Fault f) (stop.Need y possessors) = ⊥
  SameStop (stop.Need x owners) (stop.Fault g) = ⊥
  SameStop (stop.NeedName repo) t = ⊥
  SameStop (stop.Fault f) (stop.NeedName repo) = ⊥
  SameStop (stop.Need x owners) (stop.NeedName repo) = ⊥

  abbrev pub SameEnd : Result Flow Stop → Result Flow Stop → Type 0
  SameEnd (Ok a) (Ok b) = SameFlow a b
  SameEnd (Err s) (Err t) = SameStop s t
  SameEnd (Ok a) (Err t) = ⊥
  SameEnd (Err s) (Ok b) = ⊥

-- Two runs go the same way but for names: they end in the same way, after as many steps, with the same values
-- printed and the same objects read, and with as many objects created; and where they wrote the same object,
-- they wrote the same into it.
pub record SameRun (fresh : Oref → Bool) (r q : Result Flow Stop) (m n : Machine) : Type 0 where
  pub ended : SameEnd fresh m.created n.created r q
  pub steps : n.steps ≡ m.steps
  pub printed : n.printed ≡ m.printed
  pub reads : n.reads ≡ m.reads
  pub created : length n.created ≡ length m.created
  pub writes : (x y : Oref) → SameName fresh m.created n.created x y → SameObject fresh m.created n.created (get m.writes x) (get n.writes y)

abbrev pub IsNoNeedName : Stop → Type 0
IsNoNeedName (stop.Fault f) = Unit {0}
IsNoNeedName (stop.Need x owners) = Unit {0}
IsNoNeedName (stop.NeedName repo) = ⊥

-- the run didn't stop for want of a name
abbrev pub HadNames : Result Flow Stop → Type 0
HadNames (Ok flow) = Unit {0}
HadNames (Err s) = IsNoNeedName s

-- the names that new objects keep: those of all that were created, and none behind a fault
abbrev pub kept_names : Result Flow Stop → Machine → List Oref
kept_names (Ok flow) m = m.created
kept_names (Err s) m = []

-- Two runs that are defined, with these names and with those, give the same but for names: the same answer, the
-- same objects touched, as many names taken, and the same written into the same objects.
pub record SameRan (fresh : Oref → Bool) (names others : List Oref) (r q : Ran) : Type 0 where
  pub answer : q.answer ≡ r.answer
  pub touched : q.touched ≡ r.touched
  pub as_many : length others ≡ length names
  pub written : (x y : Oref) → SameName fresh names others x y
      → SameObject fresh names others (lookup (is_at (oref_cmp x)) r.written) (lookup (is_at (oref_cmp y)) q.written)
