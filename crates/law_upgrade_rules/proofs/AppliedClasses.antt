-- What an upgrade leaves of the classes: their numbers, names and kinds, and the fields of those that it doesn't name.
use Rattle.std.proofs.Common.{◌≡◌, cond, not, List, [], ◌∷◌, map, length, ℕ, nat_lt, Option, Some, None, is_some, option_map, slice_get, refl, ap, ◌∙◌}
use Rattle.std.proofs.lemmas.List.{length-map}
use Rattle.std.proofs.lemmas.Option.{slice_get-map}
use Rattle.std.specs.List.{position_or_len}
use Rattle.std.specs.Option.{option_and_then}
use Rattle.std.specs.Prelude.{◌+◌, unwrap_or}
use Rattle.std.specs.Str.{bytes_eq}
use Rattle.class_defs.specs.Applied.{class_behind, classes_behind, new_field, said_of}
use Rattle.class_defs.specs.Rules.{is_part, is_part_kind}
use Rattle.class_defs.specs.Types.{class_named, class_or_word, fields_of, type_named}
use Rattle.class_defs.specs.declared.classes.Class.{Class}
use Rattle.class_defs.specs.declared.classes.Field.{Field}
use Rattle.class_defs.specs.declared.expressions.Name.{Name}
use Rattle.class_defs.specs.declared.expressions.TypeName.{TypeName}
use Rattle.class_defs.specs.declared.expressions.TypeName.TheVariants as type_name
use Rattle.class_defs.specs.declared.types.ExprType.{ExprType}
use Rattle.class_defs.specs.declared.types.ExprType.TheVariants as type
use Rattle.class_defs.specs.declared.upgrades.ClassUpgrade.{ClassUpgrade}
use Rattle.class_defs.specs.declared.upgrades.Upgrade.{Upgrade}

pub keeps_name : (d : Class) (k : Option ClassUpgrade) → (class_behind d k).name ≡ d.name
keeps_name d None = refl
keeps_name d (Some k) = refl

keeps_kind : (d : Class) (k : Option ClassUpgrade) → (class_behind d k).kind ≡ d.kind
keeps_kind d None = refl
keeps_kind d (Some k) = refl

module _ (u : Upgrade) where
  abbrev pub step : Class → Class
  step d = class_behind d (said_of u d)

  same_place : (n : List ℕ) (ds : List Class)
      → position_or_len (λ c. bytes_eq c.name.text n) (classes_behind u ds) ≡ position_or_len (λ c. bytes_eq c.name.text n) ds
  same_place n [] = refl
  same_place n (d ∷ ds) =
      ap (λ (m : Name). cond (not (bytes_eq m.text n))
      (1 + position_or_len (λ (c : Class). bytes_eq c.name.text n) (classes_behind u ds)) 0) (keeps_name d (said_of u d))
      ∙ ap (λ i. cond (not (bytes_eq d.name.text n)) (1 + i) 0) (same_place n ds)

  pub same_class : (n : List ℕ) (ds : List Class) → class_named (classes_behind u ds) n ≡ class_named ds n
  same_class n ds =
      ap (λ l. cond (nat_lt (position_or_len (λ (c : Class). bytes_eq c.name.text n) (classes_behind u ds)) l)
      (Some (position_or_len (λ (c : Class). bytes_eq c.name.text n) (classes_behind u ds))) None) (length-map ds step)
      ∙ ap (λ i. cond (nat_lt i (length ds)) (Some i) None) (same_place n ds)

  pub same_type : (t : TypeName) (ds : List Class) → type_named (classes_behind u ds) t ≡ type_named ds t
  same_type (type_name.Int line) ds = refl
  same_type (type_name.Class name) ds = ap (class_or_word name.text) (same_class name.text ds)

  pub same_names : (ds : List Class) → map (λ d. d.name) (classes_behind u ds) ≡ map (λ d. d.name) ds
  same_names [] = refl
  same_names (d ∷ ds) =
      ap (λ (n : Name). n ∷ map (λ (d : Class). d.name) (classes_behind u ds)) (keeps_name d (said_of u d)) ∙ ap (λ ns. d.name ∷ ns) (same_names ds)

  known : (o : Option Class) → is_some (option_map step o) ≡ is_some o
  known None = refl
  known (Some d) = refl

  pub same_known : (c : ℕ) (ds : List Class) → is_some (slice_get (classes_behind u ds) c) ≡ is_some (slice_get ds c)
  same_known c ds = ap is_some (slice_get-map step ds c) ∙ known (slice_get ds c)

  kind_of : (o : Option Class) → is_part_kind (option_map (λ d. d.kind) (option_map step o)) ≡ is_part_kind (option_map (λ d. d.kind) o)
  kind_of None = refl
  kind_of (Some d) = ap (λ k. is_part_kind (Some k)) (keeps_kind d (said_of u d))

  pub same_kind : (t : ExprType) (ds : List Class) → is_part (classes_behind u ds) t ≡ is_part ds t
  same_kind (type.Class c) ds = ap (λ (o : Option Class). is_part_kind (option_map (λ d. d.kind) o)) (slice_get-map step ds c) ∙ kind_of (slice_get ds c)
  same_kind type.Int ds = refl
  same_kind type.Text ds = refl
  same_kind type.Null ds = refl
  same_kind type.Untold ds = refl

  abbrev fields_in : Option Class → List Field
  fields_in o = unwrap_or (option_map (λ d. d.fields) o) []

  kept_in : (o : Option Class) → option_and_then (said_of u) o ≡ None → fields_in (option_map step o) ≡ fields_in o
  kept_in None h = refl
  kept_in (Some d) h = ap (λ k. (class_behind d k).fields) h

  -- a class that isn't named keeps its fields
  pub fields_kept : (c : ℕ) (ds : List Class) → option_and_then (said_of u) (slice_get ds c) ≡ None
      → fields_of (classes_behind u ds) c ≡ fields_of ds c
  fields_kept c ds h = ap fields_in (slice_get-map step ds c) ∙ kept_in (slice_get ds c) h

  -- one that is has the new ones
  pub fields_new : (c : ℕ) (ds : List Class) (d : Class) (k : ClassUpgrade) → slice_get ds c ≡ Some d → said_of u d ≡ Some k
      → fields_of (classes_behind u ds) c ≡ map new_field k.fields
  fields_new c ds d k is h =
      ap fields_in (slice_get-map step ds c ∙ ap (option_map step) is) ∙ ap (λ w. (class_behind d w).fields) h
