-- What it is that a stored store fits its schemas, name by name. This project's; what holds of all names is that the map is
-- well owned and its objects are of their classes.
use Rattle.class_defs.specs.Epochs.{classes_of}
use Rattle.class_defs.specs.Levels.{level}
use Rattle.class_defs.specs.Ownership.{IsPart, Owns, type_at}
use Rattle.class_defs.specs.Stored.{Objects, Stored, bare}
use Rattle.class_defs.specs.WellOwned.{AreOfTheirClasses, IsOfItsClass, IsWellOwned}
use Rattle.class_defs.specs.declared.store.Root.{Root}
use Rattle.class_defs.specs.declared.store.Schemas.{Schemas}
use Rattle.class_defs.specs.declared.types.ExprType.TheVariants as type
use Rattle.std.specs.Prelude.{IsSomeAnd, List, Some, length, slice_get, suc, zero, ℕ, ◌≡◌, ◌≤◌}
use Rattle.std.specs.declared.cmp.Ordering.TheVariants.{Less}
use Rattle.thor_value.specs.FiniteMap.{get}
use Rattle.thor_value.specs.Names.{oref_cmp}
use Rattle.thor_value.specs.declared.names.Oref.{Oref}
use Rattle.thor_value.specs.declared.values.Obj.{Obj}
use Rattle.thor_value.specs.declared.values.Value.TheVariants as value
use Rattle.store_check.specs.declared.fitting.Fitting.{Fitting}
use Rattle.store_check.specs.declared.fitting.Fitting.TheVariants.{Fits, Unfit}

-- these objects and roots as a stored map in which all upgrades of the schemas are installed
abbrev pub stored_under : Schemas → Objects → List Root → Stored
stored_under s objects roots = record { objects = objects; epoch = length s.upgraded; roots = roots }

-- the i-th field of the object a names x, of whatever type it is
pub record IsNamedBy (m : Objects) (x a : Oref) (i : ℕ) : Type 0 where
  pub object : Obj
  pub stored : get m a ≡ Some object
  pub names : slice_get object.fields i ≡ Some (value.Ref x)

-- a is the owner of x: it owns x from the same repository, and no other field names x
pub record IsOwnerOf (s : Schemas) (m : Objects) (x a : Oref) : Type 0 where
  pub field : ℕ
  pub owns : Owns s m a field x
  pub near : a.repo ≡ x.repo
  pub alone : (b : Oref) → (j : ℕ) → IsNamedBy m x b j → (b ≡ a) × (j ≡ field)

-- going from x to its owner n times leads to a
abbrev pub LeadsTo : Schemas → Objects → ℕ → Oref → Oref → Type 0
LeadsTo s m zero x a = x ≡ a
LeadsTo s m (suc n) x a = (b : Oref) × (IsOwnerOf s m x b × LeadsTo s m n b a)

-- A part fits where one field at most names it, an owned one, in its own repository; going from it to its owner, again
-- and again, ends; and it wasn't written in an epoch that an owner on this way hasn't reached.
pub record IsFitPart (s : Schemas) (L : Stored) (x : Oref) (o : Obj) : Type 0 where
  pub owned : (a : Oref) → (i : ℕ) → IsNamedBy L.objects x a i → Owns s L.objects a i x
  pub near : (a : Oref) → (i : ℕ) → IsNamedBy L.objects x a i → a.repo ≡ x.repo
  pub once : (a b : Oref) → (i j : ℕ) → IsNamedBy L.objects x a i → IsNamedBy L.objects x b j → (a ≡ b) × (i ≡ j)
  pub ends : (n : ℕ) × ((a : Oref) → ¬ LeadsTo s L.objects n x a)
  pub levels : (n : ℕ) → (a : Oref) → (p : Obj) → LeadsTo s L.objects (suc n) x a → get L.objects a ≡ Some p
      → o.ver ≤ level s L.epoch p

-- An object fits where it is of no later epoch than the map and of its class, as that was when it was written, each
-- reference stands in a field of a class and names an object of this class, and the object fits as a part, if it is one.
pub record IsFitObject (s : Schemas) (L : Stored) (x : Oref) (o : Obj) : Type 0 where
  pub version : o.ver ≤ L.epoch
  pub kinds : IsOfItsClass (classes_of s o.ver) (bare o)
  pub references : (i : ℕ) → (z : Oref) → slice_get o.fields i ≡ Some (value.Ref z)
      → (d : ℕ) × (type_at (classes_of s o.ver) o.class i ≡ Some (type.Class d)) × IsSomeAnd (get L.objects z) (λ p. p.class ≡ d)
  pub part : IsPart s o.class → IsFitPart s L x o

-- A root fits where a free object of its class has its name.
pub record IsFitRoot (s : Schemas) (L : Stored) (r : Root) : Type 0 where
  pub free : ¬ IsPart s r.class
  pub object : IsSomeAnd (get L.objects r.oref) (λ o. o.class ≡ r.class)

-- A name fits where the object that has it does, and each root that gives it.
pub record IsFitName (s : Schemas) (L : Stored) (x : Oref) : Type 0 where
  pub object : (o : Obj) → get L.objects x ≡ Some o → IsFitObject s L x o
  pub roots : (i : ℕ) → (r : Root) → slice_get L.roots i ≡ Some r → r.oref ≡ x → IsFitRoot s L r

-- What is told of a stored map: that it is well owned and its objects are of their classes, or the least name that
-- doesn't fit.
abbrev pub TellsFit : Schemas → Stored → Fitting → Type 0
TellsFit s L Fits = IsWellOwned s L × AreOfTheirClasses s L
TellsFit s L (Unfit x) = (¬ IsFitName s L x) × ((y : Oref) → oref_cmp y x ≡ Less → IsFitName s L y)
