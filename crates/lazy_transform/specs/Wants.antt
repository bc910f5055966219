-- What is wanted where a stored object is brought up to an epoch. This project's.
use Rattle.std.specs.Prelude.{ℕ, find, not, if◌then◌else◌, List, [], ◌∷◌, Option, Some, None}
use Rattle.thor_value.specs.FiniteMap.{Set, add, empty, has}
use Rattle.thor_value.specs.Names.{oref_cmp}
use Rattle.thor_value.specs.declared.names.Oref.{Oref}
use Rattle.thor_value.specs.declared.values.Obj.{Obj}
use Rattle.class_defs.specs.Stored.{Objects}
use Rattle.class_defs.specs.declared.store.Schemas.{Schemas}
use Rattle.lazy_transform.specs.Reads.{reads}
use Rattle.lazy_transform.specs.declared.wanted.Wanted.{Wanted}
use Rattle.lazy_transform.specs.declared.wanted.Wanted.TheVariants.{Part, All}

-- those of the names that aren't among the seen ones, each once, where it stands first
abbrev pub unseen : Set oref_cmp → List Oref → List Oref
unseen seen [] = []
unseen seen (x ∷ xs) = if has seen x then unseen seen xs else x ∷ unseen (add seen x) xs

-- each of the names once, where it stands first
abbrev pub each_once : List Oref → List Oref
each_once xs = unseen empty xs

abbrev pub part_or_all : Option Oref → List Oref → Wanted
part_or_all (Some z) names = Part z
part_or_all None names = All (each_once names)

-- the first of the names that the map lacks, or all of them
abbrev pub wanted_of : Objects → List Oref → Wanted
wanted_of m names = part_or_all (find (λ z. not (has m z)) names) names

-- What is wanted where an object is brought up to epoch k over the objects at hand: the first object that is read and
-- isn't at hand, or, where all are, all that are read, each once, in the order in which they are read.
abbrev pub wanted : Schemas → Objects → ℕ → Obj → Wanted
wanted s m k o = wanted_of m (reads s m k o)
