-- What the code does on its way up: it gathers the values of the objects that an upgrade reads.
use Rattle.std.specs.Prelude.{◌≡◌, ◌++◌, ℕ, List, Option, Some}
use Rattle.std.specs.List.{flat_map}
use Rattle.thor_value.specs.FiniteMap.{Map, get}
use Rattle.thor_value.specs.Names.{oref_cmp}
use Rattle.thor_value.specs.declared.names.Oref.{Oref}
use Rattle.class_defs.specs.Eager.{values}
use Rattle.class_defs.specs.Epochs.{classes_of}
use Rattle.class_defs.specs.declared.classes.Class.{Class}
use Rattle.class_defs.specs.declared.store.Object.{Object}
use Rattle.lazy_transform.specs.Reads.{SameOn, reads, with_reads}
use Rattle.lazy_transform.specs.declared.past.Past.{Past}

abbrev pub classes_in : Past → ℕ → List Class
classes_in p k = classes_of p.schemas.now k

-- the objects at hand as they were in epoch k
abbrev pub as_of : Past → ℕ → Oref → Option Object
as_of p k = get (values p.schemas.now p.objects.now k)

-- objects, each with what is read for its value in epoch k
abbrev pub all_read : Past → ℕ → List Oref → List Oref
all_read p k names = flat_map (with_reads (reads p.schemas.now p.objects.now k) p.objects.now) names

-- some objects of a store, among them all of these names that it has
pub record Covers (names : List Oref) (parts all : Oref → Option Object) : Type 0 where
  pub agree : SameOn names all parts
  pub only : (x : Oref) → (v : Object) → parts x ≡ Some v → all x ≡ Some v

-- The objects of these names, as they were in epoch k, are put to those that were gathered before, and the names, with
-- what is read for each, behind those that were looked at before.
abbrev pub Gathers : Past → ℕ → List Oref → Map oref_cmp Object → Map oref_cmp Object → List Oref → List Oref → Type 0
Gathers p k names parts more looked after =
    (known : List Oref) → Covers known (get parts) (as_of p k)
    → Covers (known ++ names) (get more) (as_of p k) × (after ≡ looked ++ all_read p k names)
