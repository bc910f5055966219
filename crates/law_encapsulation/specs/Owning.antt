-- What a run of checked code does with parts: it reaches each through its owner, and gives an owned field nothing but a
-- new part. (Ownership types as in Boyapati and others, OOPSLA 2003; the rules are this project's.)
use Rattle.class_defs.specs.Ownership.{Refers}
use Rattle.class_defs.specs.Rules.{is_part}
use Rattle.class_defs.specs.Run.{Ran}
use Rattle.class_defs.specs.declared.classes.Class.{Class}
use Rattle.class_defs.specs.declared.store.Object.{Object}
use Rattle.class_defs.specs.declared.store.Plain.{Plain}
use Rattle.class_defs.specs.declared.store.Schema.{Schema}
use Rattle.class_defs.specs.declared.types.ExprType.TheVariants as type
use Rattle.std.specs.List.{Contains}
use Rattle.std.specs.Prelude.{List, None, Option, Some, is_some, true, ℕ, ◌<◌, ◌≡◌, ◌⊎◌}
use Rattle.thor_value.specs.FiniteMap.{empty, get, overwrite}
use Rattle.thor_value.specs.Names.{oref_cmp}
use Rattle.thor_value.specs.declared.names.Oref.{Oref}

-- among these objects, a owns z by its i-th field: it names it there, and the field is declared to be of a part class
pub record OwnsIn (classes : List Class) (objects : Oref → Option Object) (a : Oref) (i : ℕ) (z : Oref) : Type 0 where
  pub object : Object
  pub stands : objects a ≡ Some object
  pub class : ℕ
  pub part : is_part classes (type.Class class) ≡ true
  pub refers : Refers classes object i class z

-- What the run r did on a store with parts.
pub record KeepsParts (schema : Schema) (store : Plain) (r : Ran) : Type 0 where
  -- a part that it touched had an owner, which it touched, too
  pub reached : (x : Oref) (o : Object) → Contains r.touched x → get store.objects x ≡ Some o → is_part schema.classes (type.Class o.class) ≡ true
      → (a : Oref) × (i : ℕ) × OwnsIn schema.classes (get store.objects) a i x × Contains r.touched a
  -- it wrote what it touched, and what wasn't there
  pub wrote : (x : Oref) → is_some (get {R = oref_cmp} (overwrite empty r.written) x) ≡ true → Contains r.touched x ⊎ (get store.objects x ≡ None)
  -- what was there before is there behind it, with its class
  pub kept : (x : Oref) (o : Object) → get store.objects x ≡ Some o → (v : Object) × (get r.store.objects x ≡ Some v) × (v.class ≡ o.class)
  -- who owns behind it what was there before owned it then by the same field
  pub old : (a z : Oref) (i : ℕ) (o : Object) → get store.objects z ≡ Some o → OwnsIn schema.classes (get r.store.objects) a i z
      → OwnsIn schema.classes (get store.objects) a i z
  -- what wasn't there before has one owner, in its repository
  pub once : (a b z : Oref) (i j : ℕ) → get store.objects z ≡ None → OwnsIn schema.classes (get r.store.objects) a i z
      → OwnsIn schema.classes (get r.store.objects) b j z → (a ≡ b) × (i ≡ j)
  pub near : (a z : Oref) (i : ℕ) → get store.objects z ≡ None → OwnsIn schema.classes (get r.store.objects) a i z → a.repo ≡ z.repo
  -- and it has a rank above its owner's, where that wasn't there either
  pub rank : Oref → ℕ
  pub rises : (a z : Oref) (i : ℕ) → get store.objects z ≡ None → get store.objects a ≡ None
      → OwnsIn schema.classes (get r.store.objects) a i z → rank a < rank z
