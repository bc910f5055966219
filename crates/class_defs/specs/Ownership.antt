-- Who owns what in a stored map. Parts belong to the object that names them in an owned field, for good (ownership
-- types as in Boyapati and others, OOPSLA 2003; the conditions are this project's).
use Rattle.std.specs.Prelude.{◌≡◌, ℕ, zero, suc, List, Option, Some, option_map, slice_get, true}
use Rattle.thor_value.specs.FiniteMap.{get}
use Rattle.thor_value.specs.declared.names.Oref.{Oref}
use Rattle.thor_value.specs.declared.values.Obj.{Obj}
use Rattle.thor_value.specs.declared.values.Value.TheVariants as value
use Rattle.class_defs.specs.Epochs.{classes_of}
use Rattle.class_defs.specs.Rules.{is_part}
use Rattle.class_defs.specs.Stored.{Objects, bare}
use Rattle.class_defs.specs.Types.{fields_of, type_named}
use Rattle.class_defs.specs.declared.classes.Class.{Class}
use Rattle.class_defs.specs.declared.store.Object.{Object}
use Rattle.class_defs.specs.declared.store.Schemas.{Schemas}
use Rattle.class_defs.specs.declared.types.ExprType.{ExprType}
use Rattle.class_defs.specs.declared.types.ExprType.TheVariants as type

-- the type of the i-th field of a class
abbrev pub type_at : List Class → ℕ → ℕ → Option ExprType
type_at classes c i = option_map (λ f. type_named classes f.type_name) (slice_get (fields_of classes c) i)

-- The i-th field of an object, declared to be of class d, names z.
pub record Refers (classes : List Class) (v : Object) (i d : ℕ) (z : Oref) : Type 0 where
  pub declared : type_at classes v.class i ≡ Some (type.Class d)
  pub names : slice_get v.fields i ≡ Some (value.Ref z)

-- In a map, the i-th field of the object a, declared to be of class d, names z. Its class is that of the epoch in
-- which the object was written.
pub record Names (s : Schemas) (m : Objects) (a : Oref) (i d : ℕ) (z : Oref) : Type 0 where
  pub object : Obj
  pub stored : get m a ≡ Some object
  pub refers : Refers (classes_of s object.ver) (bare object) i d z

-- a class whose objects are parts; a class keeps its kind through all upgrades
abbrev pub IsPart : Schemas → ℕ → Type 0
IsPart s d = is_part (classes_of s 0) (type.Class d) ≡ true

-- in a map, a owns z by its i-th field: it names it there, and the field is declared to be of a part class
pub record Owns (s : Schemas) (m : Objects) (a : Oref) (i : ℕ) (z : Oref) : Type 0 where
  pub class : ℕ
  pub part : IsPart s class
  pub reference : Names s m a i class z

-- a is n steps above z: z itself, or the owner of an object that is one step less above z
abbrev pub IsAbove : Schemas → Objects → ℕ → Oref → Oref → Type 0
IsAbove s m zero a z = a ≡ z
IsAbove s m (suc n) a z = (b : Oref) × ((i : ℕ) × (Owns s m a i b × IsAbove s m n b z))
