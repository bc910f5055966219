-- Upgrades, as if all objects were transformed when an upgrade is installed (Boyapati and others, OOPSLA 2003;
-- that a new field's expression reads only its object and what that owns is this project's).
use Rattle.std.specs.Prelude.{ℕ, ◌+◌, find, map, List, [], ◌∷◌, Option, Some, None, option_and_then, unwrap_or, slice_get, pos}
use Rattle.std.specs.Int.{int_wrapping_sub, w64}
use Rattle.std.specs.Str.{bytes_eq}
use Rattle.thor_value.specs.FiniteMap.{get}
use Rattle.thor_value.specs.declared.names.Oref.{Oref}
use Rattle.thor_value.specs.declared.values.Value.{Value}
use Rattle.thor_value.specs.declared.values.Value.TheVariants as value
use Rattle.class_defs.specs.Expressions.{combined}
use Rattle.class_defs.specs.Kinds.{literal_value}
use Rattle.class_defs.specs.Objects.{field_at, fitted_or_beginning}
use Rattle.class_defs.specs.Steps.{number}
use Rattle.class_defs.specs.Types.{field_named, type_named}
use Rattle.class_defs.specs.declared.classes.Class.{Class}
use Rattle.class_defs.specs.declared.expressions.Name.{Name}
use Rattle.class_defs.specs.declared.store.Object.{Object}
use Rattle.class_defs.specs.declared.store.Plain.{Plain}
use Rattle.class_defs.specs.declared.upgrades.ClassUpgrade.{ClassUpgrade}
use Rattle.class_defs.specs.declared.upgrades.Tf.{Tf, fold-Tf}
use Rattle.class_defs.specs.declared.upgrades.Tf.TheOpen.{Tf-F}
use Rattle.class_defs.specs.declared.upgrades.Upgrade.{Upgrade}

-- a field of an object, where its class has one of this name
abbrev pub field_of_object : List Class → Object → List ℕ → Option Value
field_of_object classes o name = field_at (Some o) (field_named classes o.class name)

abbrev pub object_behind : (Oref → Option Object) → Option Value → Option Object
object_behind objects (Some (value.Ref x)) = objects x
object_behind objects (Some (value.Int n)) = None
object_behind objects (Some value.Null) = None
object_behind objects (Some (value.Text w)) = None
object_behind objects None = None

-- what a path leads to: each name but the last is that of a field whose object the path goes on in
abbrev pub path_value : List Class → (Oref → Option Object) → Option Object → List Name → Option Value
path_value classes objects o [] = None
path_value classes objects o (name ∷ []) = option_and_then (λ p. field_of_object classes p name.text) o
path_value classes objects o (name ∷ next ∷ names) =
    path_value classes objects (object_behind objects (option_and_then (λ p. field_of_object classes p name.text) o)) (next ∷ names)

-- The value of an expression of an upgrade at an object; nothing where a path meets null.
abbrev pub tf_step : List Class → (Oref → Option Object) → Object → Tf-F (Option Value) → Option Value
tf_step classes objects o (Tf-F.Null line) = Some value.Null
tf_step classes objects o (Tf-F.Literal l line) = Some (literal_value l)
tf_step classes objects o (Tf-F.Path names line) = path_value classes objects (Some o) names
tf_step classes objects o (Tf-F.Parens inner line) = inner
tf_step classes objects o (Tf-F.Negate operand line) = Some (value.Int (int_wrapping_sub w64 (pos 0) (number (unwrap_or operand value.Null))))
tf_step classes objects o (Tf-F.Binary operator left right line) = Some (combined operator (unwrap_or left value.Null) (unwrap_or right value.Null))

unfoldable pub tf_value : List Class → (Oref → Option Object) → Object → Tf → Option Value
tf_value classes objects o = fold-Tf (Option Value) (tf_step classes objects o)

-- what an upgrade says of a class of this number, if it names it
abbrev pub upgrade_of : List Class → Upgrade → ℕ → Option ClassUpgrade
upgrade_of classes u c = option_and_then (λ d. find (λ k. bytes_eq k.name.text d.name.text) u.classes) (slice_get classes c)

-- The object behind an upgrade: each new field has the value of its expression, and all expressions read the
-- objects as they were. A path that meets null gives 0, the empty text, or null.
abbrev pub transformed : List Class → List Class → (Oref → Option Object) → Object → Option ClassUpgrade → Object
transformed old new objects o None = o
transformed old new objects o (Some k) = record o { fields = map (λ f. fitted_or_beginning (type_named new f.type_name) (tf_value old objects o f.value)) k.fields }

-- The eager upgrade of a store, from the classes of one epoch to those of the next: it transforms each object whose
-- class the upgrade names, and raises the epoch by one.
unfoldable pub up : List Class → List Class → Upgrade → Plain → Plain
up old new u store = record store {
  objects = record { pairs = map (λ p. (p.0, transformed old new (get store.objects) p.1 (upgrade_of old u p.1.class))) store.objects.pairs };
  epoch = store.epoch + 1;
}
