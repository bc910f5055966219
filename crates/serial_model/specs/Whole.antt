-- A whole store as a view has it: its objects, each with the epoch at which it was written.
use Rattle.std.specs.Prelude.{◌≡◌, ◌≤◌, ℕ, List, [], ◌∷◌, map, Option, Some, None}
use Rattle.std.specs.List.{AllByRecursion}
use Rattle.thor_value.specs.FiniteMap.{Map}
use Rattle.thor_value.specs.Names.{oref_cmp}
use Rattle.thor_value.specs.declared.names.Oref.{Oref}
use Rattle.thor_value.specs.declared.values.Obj.{Obj}
use Rattle.class_defs.specs.Stored.{bare}
use Rattle.class_defs.specs.declared.store.Object.{Object}
use Rattle.class_defs.specs.declared.store.Plain.{Plain}
use Rattle.class_defs.specs.declared.store.Root.{Root}
use Rattle.class_defs.specs.declared.store.Schema.{Schema}
use Rattle.class_defs.specs.Applied.{number_of}
use Rattle.method_eval.specs.declared.view.View.{View}

abbrev pub bare_pair : Oref × Obj → Oref × Object
bare_pair p = (p.0, bare p.1)

abbrev pub bare_objects : Map oref_cmp Obj → Map oref_cmp Object
bare_objects m = record { pairs = map bare_pair m.pairs }

-- the store whose objects a view has at hand, all of them
abbrev pub plain : List Root → View → Plain
plain roots view = record { objects = bare_objects view.objects; epoch = view.epoch; roots = roots }

-- no object that a view has at hand is due
abbrev pub NoneDue : Schema → View → Type 0
NoneDue schema view = AllByRecursion (λ p. number_of schema.upgraded p.1.class ≤ p.1.ver) view.objects.pairs

-- each object of a view was written at the view's epoch
abbrev pub IsOfItsEpoch : View → Type 0
IsOfItsEpoch view = AllByRecursion (λ p. p.1.ver ≡ view.epoch) view.objects.pairs

-- no upgrade names a class, so that no object is due
abbrev pub IsFirst : Schema → Type 0
IsFirst schema = (c : ℕ) → number_of schema.upgraded c ≡ 0

-- a key with the value that was found at it
abbrev pub found : {K X : Type 0} → K → Option X → List (K × X)
found k (Some x) = (k, x) ∷ []
found k None = []
