-- The epochs of a store, which upgrades begin: the schema of each, and the upgrade that leads to it. This project's.
use Rattle.std.specs.Prelude.{ℕ, zero, suc, List, [], Option, Some, None, option_and_then, option_map, unwrap_or, slice_get}
use Rattle.class_defs.specs.Upgrades.{upgrade_of}
use Rattle.class_defs.specs.declared.classes.Class.{Class}
use Rattle.class_defs.specs.declared.store.Schema.{Schema}
use Rattle.class_defs.specs.declared.store.Schemas.{Schemas}
use Rattle.class_defs.specs.declared.upgrades.ClassUpgrade.{ClassUpgrade}
use Rattle.class_defs.specs.declared.upgrades.Upgrade.{Upgrade}

-- the schema of an epoch; past the last one there is none
abbrev pub schema_at : Schemas → ℕ → Option Schema
schema_at s zero = Some s.first
schema_at s (suc n) = option_map (λ u. u.schema) (slice_get s.upgraded n)

-- a schema that declares nothing
abbrev pub no_schema : Schema
no_schema = record { classes = []; upgraded = []; roots = [] }

-- the same, where a schema that declares nothing stands for none
abbrev pub schema_of : Schemas → ℕ → Schema
schema_of s k = unwrap_or (schema_at s k) no_schema

-- the upgrade that leads to an epoch
abbrev pub upgrade_to : Schemas → ℕ → Option Upgrade
upgrade_to s zero = None
upgrade_to s (suc n) = option_map (λ u. u.upgrade) (slice_get s.upgraded n)

-- the classes of an epoch
abbrev pub classes_of : Schemas → ℕ → List Class
classes_of s k = (schema_of s k).classes

-- what the upgrade that leads on from an epoch says of a class, if it names it
abbrev pub next_of : Schemas → ℕ → ℕ → Option ClassUpgrade
next_of s k c = option_and_then (λ u. upgrade_of (classes_of s k) u c) (upgrade_to s (suc k))
