-- Which objects are read where a stored object is brought up to an epoch, in the order in which they are read. The order
-- is this project's: upgrades rise, fields stand as the upgrade's text has them, paths from left to right, and a part
-- that lags is brought up first, whole, with what its own expressions read.
use Rattle.std.specs.Prelude.{◌≡◌, ℕ, zero, suc, if◌then◌else◌, nat_lt, List, [], ◌∷◌, ◌++◌, Option, Some, None, option_and_then}
use Rattle.std.specs.List.{Contains, flat_map}
use Rattle.thor_value.specs.FiniteMap.{get}
use Rattle.thor_value.specs.declared.names.Oref.{Oref}
use Rattle.thor_value.specs.declared.values.Obj.{Obj}
use Rattle.thor_value.specs.declared.values.Value.{Value}
use Rattle.thor_value.specs.declared.values.Value.TheVariants as value
use Rattle.class_defs.specs.Eager.{value, values}
use Rattle.class_defs.specs.Epochs.{classes_of, next_of}
use Rattle.class_defs.specs.Stored.{Objects}
use Rattle.class_defs.specs.Upgrades.{field_of_object, object_behind}
use Rattle.class_defs.specs.declared.classes.Class.{Class}
use Rattle.class_defs.specs.declared.expressions.Name.{Name}
use Rattle.class_defs.specs.declared.store.Object.{Object}
use Rattle.class_defs.specs.declared.store.Schemas.{Schemas}
use Rattle.class_defs.specs.declared.upgrades.ClassUpgrade.{ClassUpgrade}
use Rattle.class_defs.specs.declared.upgrades.FieldUpgrade.{FieldUpgrade}
use Rattle.class_defs.specs.declared.upgrades.Tf.{Tf, fold-Tf}
use Rattle.class_defs.specs.declared.upgrades.Tf.TheOpen.{Tf-F}

-- two stores have the same at each of these names
abbrev pub SameOn : {X : Type 0} → List Oref → (Oref → Option X) → (Oref → Option X) → Type 0
SameOn names objects others = (x : Oref) → Contains names x → others x ≡ objects x

-- ---- one upgrade

abbrev pub paths_step : Tf-F (List (List Name)) → List (List Name)
paths_step (Tf-F.Null line) = []
paths_step (Tf-F.Literal l line) = []
paths_step (Tf-F.Path names line) = names ∷ []
paths_step (Tf-F.Parens inner line) = inner
paths_step (Tf-F.Negate operand line) = operand
paths_step (Tf-F.Binary operator left right line) = left ++ right

-- the paths of an expression, from left to right
unfoldable pub paths_of : Tf → List (List Name)
paths_of = fold-Tf (List (List Name)) paths_step

-- the paths of all new fields of a class, in the order of the text
abbrev pub paths_of_fields : List FieldUpgrade → List (List Name)
paths_of_fields fields = flat_map (λ f. paths_of f.value) fields

-- the object that a value names
abbrev pub named : Option Value → List Oref
named (Some (value.Ref z)) = z ∷ []
named (Some (value.Int n)) = []
named (Some value.Null) = []
named (Some (value.Text w)) = []
named None = []

-- a field of an object, where there is one
abbrev pub field_behind : List Class → Option Object → Name → Option Value
field_behind classes o name = option_and_then (λ p. field_of_object classes p name.text) o

-- the objects that a path goes on through from a value: one for each name that is to come, as far as there are objects
abbrev pub passed : List Class → (Oref → Option Object) → Option Value → List Name → List Oref
passed classes objects v [] = []
passed classes objects v (name ∷ names) = named v ++ passed classes objects (field_behind classes (object_behind objects v) name) names

-- the objects that a path reads beside the one at which it begins
abbrev pub path_reads : List Class → (Oref → Option Object) → Object → List Name → List Oref
path_reads classes objects o [] = []
path_reads classes objects o (name ∷ names) = passed classes objects (field_behind classes (Some o) name) names

-- the objects that what an upgrade says of a class reads beside an object of it
abbrev pub upgrade_reads : List Class → (Oref → Option Object) → Object → Option ClassUpgrade → List Oref
upgrade_reads classes objects o None = []
upgrade_reads classes objects o (Some u) = flat_map (path_reads classes objects o) (paths_of_fields u.fields)

-- ---- all upgrades

-- the objects that the upgrade which leads on from epoch k reads for a stored object with this value in epoch k: none
-- where the object was written behind that upgrade
abbrev pub next_reads : Schemas → ℕ → (Oref → Option Object) → Obj → Object → List Oref
next_reads s k objects o v = if nat_lt k o.ver then [] else upgrade_reads (classes_of s k) objects v (next_of s k o.class)

abbrev pub stored_reads : (Obj → List Oref) → Option Obj → List Oref
stored_reads reads_of None = []
stored_reads reads_of (Some o) = reads_of o

-- an object and what is read for it
abbrev pub with_reads : (Obj → List Oref) → Objects → Oref → List Oref
with_reads reads_of m z = z ∷ stored_reads reads_of (get m z)

-- The objects that are read for the value of a stored object in epoch k, over the objects of a map: for each upgrade, the
-- objects that its expressions read, each followed by what is read for that object's value in the epoch before.
unfoldable pub reads : Schemas → Objects → ℕ → Obj → List Oref
reads s m zero o = []
reads s m (suc k) o =
    reads s m k o
    ++ flat_map (with_reads (reads s m k) m) (next_reads s k (get (values s m k)) o (value s m k o))
