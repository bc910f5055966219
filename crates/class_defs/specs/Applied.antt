-- The schema behind an upgrade (this project's). Classes keep their numbers, their names and their kinds, for good.
use Rattle.std.specs.Prelude.{ℕ, zero, suc, max, find, map, List, [], ◌∷◌, Option, Some, None, is_some, unwrap_or, slice_get, if◌then◌else◌}
use Rattle.std.specs.Str.{bytes_eq}
use Rattle.class_defs.specs.declared.classes.Class.{Class}
use Rattle.class_defs.specs.declared.classes.Field.{Field}
use Rattle.class_defs.specs.declared.store.Schema.{Schema}
use Rattle.class_defs.specs.declared.upgrades.ClassUpgrade.{ClassUpgrade}
use Rattle.class_defs.specs.declared.upgrades.FieldUpgrade.{FieldUpgrade}
use Rattle.class_defs.specs.declared.upgrades.Upgrade.{Upgrade}

-- what an upgrade says of a class, if it names it
abbrev pub said_of : Upgrade → Class → Option ClassUpgrade
said_of u d = find (λ k. bytes_eq k.name.text d.name.text) u.classes

-- a new field, without its expression
abbrev pub new_field : FieldUpgrade → Field
new_field f = record { type_name = f.type_name; name = f.name }

-- a class behind what an upgrade says of it: it has the new fields and methods, and no others
abbrev pub class_behind : Class → Option ClassUpgrade → Class
class_behind d None = d
class_behind d (Some k) = record d { fields = map new_field k.fields; methods = k.methods }

-- classes behind an upgrade
abbrev pub classes_behind : Upgrade → List Class → List Class
classes_behind u ds = map (λ d. class_behind d (said_of u d)) ds

-- the number of the last upgrade that names a class, where these are the numbers of the classes
abbrev pub number_of : List ℕ → ℕ → ℕ
number_of upgraded c = unwrap_or (slice_get upgraded c) zero

-- the greatest of some numbers, 0 where there is none
abbrev pub highest : List ℕ → ℕ
highest [] = zero
highest (n ∷ ns) = max n (highest ns)

-- The number of the upgrade behind these, where each class has the number of the last upgrade that names it. Upgrades
-- are numbered from 1, and each names a class.
abbrev pub next_number : List ℕ → ℕ
next_number upgraded = suc (highest upgraded)

-- For each class the number of the last upgrade that names it, where upgrade n comes behind these numbers. Where there
-- are fewer numbers than classes, no upgrade has named the others.
abbrev pub numbers_behind : Upgrade → ℕ → List Class → List ℕ → List ℕ
numbers_behind u n [] upgraded = []
numbers_behind u n (d ∷ ds) [] = (if is_some (said_of u d) then n else zero) ∷ numbers_behind u n ds []
numbers_behind u n (d ∷ ds) (k ∷ ks) = (if is_some (said_of u d) then n else k) ∷ numbers_behind u n ds ks

-- The schema behind an upgrade: the classes that it names have its fields and methods. The roots stay.
unfoldable pub applied : Schema → Upgrade → Schema
applied schema u = record schema {
  classes = classes_behind u schema.classes;
  upgraded = numbers_behind u (next_number schema.upgraded) schema.classes schema.upgraded;
}
