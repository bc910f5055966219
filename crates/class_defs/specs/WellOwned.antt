-- The stored maps in which lazy upgrades go unseen. This project's conditions; that ownership keeps others from seeing
-- parts in two versions is the thought of Boyapati and others (OOPSLA 2003).
use Rattle.std.specs.Prelude.{◌≡◌, ◌≤◌, ℕ, suc, List, length, Some, is_some, slice_get, true, IsSomeAnd}
use Rattle.thor_value.specs.FiniteMap.{get}
use Rattle.thor_value.specs.declared.names.Oref.{Oref}
use Rattle.thor_value.specs.declared.values.Obj.{Obj}
use Rattle.thor_value.specs.declared.values.Value.{Value}
use Rattle.thor_value.specs.declared.values.Value.TheVariants as value
use Rattle.class_defs.specs.Epochs.{classes_of}
use Rattle.class_defs.specs.Levels.{level}
use Rattle.class_defs.specs.Ownership.{IsAbove, IsPart, Names, Owns, type_at}
use Rattle.class_defs.specs.Steps.{fitted}
use Rattle.class_defs.specs.Stored.{Stored, bare}
use Rattle.class_defs.specs.Types.{fields_of}
use Rattle.class_defs.specs.declared.classes.Class.{Class}
use Rattle.class_defs.specs.declared.store.Object.{Object}
use Rattle.class_defs.specs.declared.store.Root.{Root}
use Rattle.class_defs.specs.declared.store.Schemas.{Schemas}
use Rattle.class_defs.specs.declared.types.ExprType.{ExprType}
use Rattle.class_defs.specs.declared.types.ExprType.TheVariants as type

-- A stored map is well owned where no object is of a later epoch than the map; each reference stands in a field of a
-- class and names an object of this class; each part has one owner at most, in its own repository, who names it once;
-- roots name free objects of their classes; going from part to owner ends; and no part was written in an epoch that one
-- of its owners, direct or further up, hasn't reached.
pub record IsWellOwned (s : Schemas) (L : Stored) : Type 0 where
  pub versions : (x : Oref) → (o : Obj) → get L.objects x ≡ Some o → o.ver ≤ L.epoch
  pub only : (x : Oref) → (o : Obj) → (i : ℕ) → (z : Oref) → get L.objects x ≡ Some o → slice_get o.fields i ≡ Some (value.Ref z)
      → (d : ℕ) × (type_at (classes_of s o.ver) o.class i ≡ Some (type.Class d))
  pub declared : (a : Oref) → (i d : ℕ) → (z : Oref) → Names s L.objects a i d z → IsSomeAnd (get L.objects z) (λ o. o.class ≡ d)
  pub once : (a b : Oref) → (i j : ℕ) → (z : Oref) → Owns s L.objects a i z → Owns s L.objects b j z → (a ≡ b) × (i ≡ j)
  pub near : (a : Oref) → (i : ℕ) → (z : Oref) → Owns s L.objects a i z → a.repo ≡ z.repo
  pub roots : (i : ℕ) → (r : Root) → slice_get L.roots i ≡ Some r
      → (¬ IsPart s r.class) × IsSomeAnd (get L.objects r.oref) (λ o. o.class ≡ r.class)
  pub ends : (z : Oref) → (n : ℕ) × ((a : Oref) → ¬ IsAbove s L.objects n a z)
  pub levels : (n : ℕ) → (a z : Oref) → (o p : Obj) → IsAbove s L.objects (suc n) a z
      → get L.objects a ≡ Some o → get L.objects z ≡ Some p → p.ver ≤ level s L.epoch o

-- An object is of a class that is there, has as many fields, and each value is of the kind of its field's type.
pub record IsOfItsClass (classes : List Class) (v : Object) : Type 0 where
  pub class : is_some (slice_get classes v.class) ≡ true
  pub count : length v.fields ≡ length (fields_of classes v.class)
  pub kinds : (i : ℕ) → (t : ExprType) → (w : Value)
      → type_at classes v.class i ≡ Some t → slice_get v.fields i ≡ Some w → fitted t w ≡ w

-- each object of a map is of its class, as that was in the epoch in which the object was written
abbrev pub AreOfTheirClasses : Schemas → Stored → Type 0
AreOfTheirClasses s L = (x : Oref) → (o : Obj) → get L.objects x ≡ Some o → IsOfItsClass (classes_of s o.ver) (bare o)
