-- Runs of small steps over objects that may change between them.
use Rattle.std.specs.Prelude.{◌≡◌, ℕ, ◌||◌, true, find, is_some, List, [], ◌∷◌, ◌++◌, Option, Some, None}
use Rattle.thor_value.specs.FiniteMap.{has}
use Rattle.thor_value.specs.Names.{same_oref}
use Rattle.thor_value.specs.declared.names.Oref.{Oref}
use Rattle.lang_small_steps.specs.Resume.{Left, rest_of}
use Rattle.class_defs.specs.Run.{begun, execute_all}
use Rattle.class_defs.specs.Steps.{World}
use Rattle.lang_small_steps.specs.declared.frames.Doing.TheVariants as doing
use Rattle.lang_small_steps.specs.declared.frames.Frame.{Frame}
use Rattle.lang_small_steps.specs.declared.frames.Frame.TheVariants as frame
use Rattle.class_defs.specs.declared.machine.Flow.TheVariants.{Next}
use Rattle.class_defs.specs.declared.machine.Machine.{Machine}
use Rattle.class_defs.specs.declared.machine.Receiver.{Receiver}
use Rattle.class_defs.specs.declared.statements.Stmt.{Stmt}
use Rattle.class_defs.specs.declared.store.Object.{Object}
use Rattle.class_defs.specs.declared.store.Schema.{Schema}

abbrev pub over : Schema → (Oref → Option Object) → World
over schema at_hand = record { schema = schema; at_hand = at_hand }

-- the objects that were read are the same in both
abbrev pub Agree : (Oref → Option Object) → (Oref → Option Object) → Machine → Type 0
Agree f g m = (x : Oref) → has m.reads x ≡ true → g x ≡ f x

-- a receiver was read or written
abbrev pub IsKnown : Machine → Option Receiver → Type 0
IsKnown m None = Unit {0}
IsKnown m (Some r) = (has m.reads r.oref || has m.writes r.oref) ≡ true

-- the receiver that a frame gives back
abbrev pub receiver_in : Frame → Option Receiver
receiver_in (frame.BodyEnd d this ls t) = this
receiver_in f = None

-- each `this` that waits is known
abbrev pub Waiting : Machine → List Frame → Type 0
Waiting m [] = Unit {0}
Waiting m (f ∷ fs) = IsKnown m (receiver_in f) × Waiting m fs

-- the state with more names behind those that wait
abbrev pub granted : List Oref → Machine → Machine
granted names m = record m { names = record m.names { waiting = m.names.waiting ++ names } }

-- What is left at first comes, over any objects that agree on what was read and with any more names, to what is left
-- now.
pub record Reaches (s : Schema) (f : Oref → Option Object) (a : Left) (m : Machine) (b : Left) (n : Machine) : Type 0 where
  pub same : (g : Oref → Option Object) → Agree f g n → (more : List Oref) → rest_of (over s g) a (granted more m) ≡ rest_of (over s g) b (granted more n)
  pub reads : (x : Oref) → has m.reads x ≡ true → has n.reads x ≡ true
  pub this : IsKnown n n.this
  pub created : (x : Oref) → is_some (find (same_oref x) n.created) ≡ true → has n.writes x ≡ true
  pub waiting : Waiting n b.stack
  pub names : n.names.stand_in ≡ None

-- a transaction before its first step
abbrev pub whole : List Stmt → Left
whole tx = record { doing = doing.Give Next; stack = frame.Rest 100001 tx ∷ frame.BlockEnd 0 ∷ [] }

-- what is left of a transaction before its first step is that transaction
abbrev pub Begins : Schema → (Oref → Option Object) → List Stmt → List Oref → Type 0
Begins s f tx names =
    ((more : List Oref) → rest_of (over s f) (whole tx) (granted more (begun names None)) ≡ execute_all (over s f) tx (begun (names ++ more) None))
    × Reaches s f (whole tx) (begun names None) (whole tx) (begun names None)
