-- The methods of schemas, by classes and epochs.
use Rattle.std.specs.Prelude.{◌≡◌, ℕ, zero, suc, List, map, Option, Some, slice_get}
use Rattle.class_defs.specs.declared.classes.Class.{Class}
use Rattle.class_defs.specs.declared.store.Schemas.{Schemas}
use Rattle.lang_small_steps.specs.Typed.{TypedMethod, typed}
use Rattle.lang_small_steps.specs.declared.methods.EpochMethods.{EpochMethods}

-- for each of some classes its methods, whose words name types among all classes
abbrev pub methods_among : List Class → List Class → List (List TypedMethod)
methods_among classes some = map (λ c. map (typed classes) c.methods) some

-- for each class its methods, with the types that their words name
abbrev pub class_methods : List Class → List (List TypedMethod)
class_methods classes = methods_among classes classes

-- for each epoch the methods of its schema's classes
abbrev pub AreMethodsOf : Schemas → EpochMethods → Type 0
AreMethodsOf s m = (m.first ≡ class_methods s.first.classes) × (m.upgraded ≡ map (λ u. class_methods u.schema.classes) s.upgraded)

-- those of one epoch; past the last one there are none
abbrev pub methods_at : EpochMethods → ℕ → Option (List (List TypedMethod))
methods_at m zero = Some m.first
methods_at m (suc n) = slice_get m.upgraded n
