-- What of the rules on upgrades keeps ownership as it is: expressions read through owned fields alone, and a reference
-- is null or that of an old field, of which an owned one is handed over once. This project's.
use Rattle.std.specs.Prelude.{◌≡◌, ◌<◌, ℕ, suc, Bool, true, false, ◌&&◌, if◌then◌else◌, List, [], ◌∷◌, map, Option, Some, None, is_some, option_and_then, slice_get}
use Rattle.class_defs.specs.Epochs.{classes_of, next_of}
use Rattle.class_defs.specs.Ownership.{IsPart, type_at}
use Rattle.class_defs.specs.Rules.{is_part}
use Rattle.class_defs.specs.Types.{field_named, fields_of, type_named}
use Rattle.class_defs.specs.declared.classes.Class.{Class}
use Rattle.class_defs.specs.declared.expressions.Name.{Name}
use Rattle.class_defs.specs.declared.expressions.TypeName.{TypeName}
use Rattle.class_defs.specs.declared.store.Schemas.{Schemas}
use Rattle.class_defs.specs.declared.types.ExprType.{ExprType}
use Rattle.class_defs.specs.declared.types.ExprType.TheVariants as type
use Rattle.class_defs.specs.declared.upgrades.ClassUpgrade.{ClassUpgrade}
use Rattle.class_defs.specs.declared.upgrades.FieldUpgrade.{FieldUpgrade}
use Rattle.class_defs.specs.declared.upgrades.Tf.{Tf, fold-Tf}
use Rattle.class_defs.specs.declared.upgrades.Tf.TheOpen.{Tf-F}

-- the class of parts that a type is, if it is one
abbrev pub part_class : List Class → Option ExprType → Option ℕ
part_class classes (Some (type.Class d)) = if is_part classes (type.Class d) then Some d else None
part_class classes (Some type.Int) = None
part_class classes (Some type.Text) = None
part_class classes (Some type.Null) = None
part_class classes (Some type.Untold) = None
part_class classes None = None

-- the class of the parts that a field of a class holds, if it is an owned field
abbrev pub part_held : List Class → ℕ → List ℕ → Option ℕ
part_held classes c name = part_class classes (option_and_then (type_at classes c) (field_named classes c name))

-- whether a path from a class goes through owned fields: each name but the last is that of one
abbrev pub is_owned_path : List Class → Option ℕ → List Name → Bool
is_owned_path classes (Some c) [] = true
is_owned_path classes (Some c) (name ∷ []) = true
is_owned_path classes (Some c) (name ∷ next ∷ names) = is_owned_path classes (part_held classes c name.text) (next ∷ names)
is_owned_path classes None [] = false
is_owned_path classes None (name ∷ names) = false

-- whether all paths of an expression go through owned fields
abbrev pub owned_step : List Class → ℕ → Tf-F Bool → Bool
owned_step classes c (Tf-F.Null line) = true
owned_step classes c (Tf-F.Literal l line) = true
owned_step classes c (Tf-F.Path names line) = is_owned_path classes (Some c) names
owned_step classes c (Tf-F.Parens inner line) = inner
owned_step classes c (Tf-F.Negate operand line) = operand
owned_step classes c (Tf-F.Binary operator left right line) = left && right

unfoldable pub reads_owned : List Class → ℕ → Tf → Bool
reads_owned classes c = fold-Tf Bool (owned_step classes c)

-- what an expression hands on as it is: nothing, where it is `null`, or a field of the old object
abbrev pub handed_path : List Class → ℕ → List Name → Option (Option ℕ)
handed_path classes c [] = None
handed_path classes c (name ∷ []) = Some (field_named classes c name.text)
handed_path classes c (name ∷ next ∷ names) = None

abbrev pub handed_step : List Class → ℕ → Tf-F (Option (Option ℕ)) → Option (Option ℕ)
handed_step classes c (Tf-F.Null line) = Some None
handed_step classes c (Tf-F.Literal l line) = None
handed_step classes c (Tf-F.Path names line) = handed_path classes c names
handed_step classes c (Tf-F.Parens inner line) = None
handed_step classes c (Tf-F.Negate operand line) = None
handed_step classes c (Tf-F.Binary operator left right line) = None

unfoldable pub handed : List Class → ℕ → Tf → Option (Option ℕ)
handed classes c = fold-Tf (Option (Option ℕ)) (handed_step classes c)

-- an expression for a field of class d is `null`, or hands on a field of the same class
abbrev pub IsHanded : List Class → ℕ → ℕ → Option (Option ℕ) → Type 0
IsHanded classes c d (Some (Some j)) = type_at classes c j ≡ Some (type.Class d)
IsHanded classes c d (Some None) = Unit {0}
IsHanded classes c d None = ⊥

-- What an upgrade says of class c keeps ownership: the new fields are those that it says, its expressions read through
-- owned fields, references are handed on, and two owned fields aren't handed the same part.
pub record KeepsOwnership (s : Schemas) (old new : List Class) (c : ℕ) (u : ClassUpgrade) : Type 0 where
  pub fields : map (λ f. f.type_name) (fields_of new c) ≡ map (λ f. f.type_name) u.fields
  pub paths : (i : ℕ) → (f : FieldUpgrade) → slice_get u.fields i ≡ Some f → reads_owned old c f.value ≡ true
  pub references : (i d : ℕ) → (f : FieldUpgrade) → slice_get u.fields i ≡ Some f → type_named new f.type_name ≡ type.Class d
      → IsHanded old c d (handed old c f.value)
  pub once : (i j d e h : ℕ) → (f g : FieldUpgrade) → slice_get u.fields i ≡ Some f → slice_get u.fields j ≡ Some g
      → type_named new f.type_name ≡ type.Class d → IsPart s d → type_named new g.type_name ≡ type.Class e → IsPart s e
      → handed old c f.value ≡ Some (Some h) → handed old c g.value ≡ Some (Some h) → i ≡ j

-- From epoch k to the next, types keep their meaning, classes stay and keep their kinds, those that the upgrade doesn't
-- name keep their fields, and what it says of the others keeps ownership.
pub record KeepsClasses (s : Schemas) (k : ℕ) : Type 0 where
  pub types : (t : TypeName) → type_named (classes_of s (suc k)) t ≡ type_named (classes_of s k) t
  pub known : (c : ℕ) → is_some (slice_get (classes_of s (suc k)) c) ≡ is_some (slice_get (classes_of s k) c)
  pub kinds : (t : ExprType) → is_part (classes_of s (suc k)) t ≡ is_part (classes_of s k) t
  pub others : (c : ℕ) → next_of s k c ≡ None → fields_of (classes_of s (suc k)) c ≡ fields_of (classes_of s k) c
  pub named : (c : ℕ) → (u : ClassUpgrade) → next_of s k c ≡ Some u → KeepsOwnership s (classes_of s k) (classes_of s (suc k)) c u

-- all upgrades up to an epoch do so
abbrev pub AllKeepClasses : Schemas → ℕ → Type 0
AllKeepClasses s e = (k : ℕ) → k < e → KeepsClasses s k
