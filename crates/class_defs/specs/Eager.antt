-- What a stored map stands for: the store that it would be, had each upgrade transformed all objects at once. This
-- project's. The code transforms one object at a time, from its stored parts.
use Rattle.std.specs.Prelude.{ℕ, zero, suc, if◌then◌else◌, nat_lt, Option}
use Rattle.thor_value.specs.FiniteMap.{Map, get}
use Rattle.thor_value.specs.Names.{oref_cmp}
use Rattle.thor_value.specs.declared.names.Oref.{Oref}
use Rattle.thor_value.specs.declared.values.Obj.{Obj}
use Rattle.class_defs.specs.Epochs.{classes_of, next_of}
use Rattle.class_defs.specs.Stored.{Objects, Stored, bare, each_value, in_epoch}
use Rattle.class_defs.specs.Upgrades.{transformed}
use Rattle.class_defs.specs.declared.store.Object.{Object}
use Rattle.class_defs.specs.declared.store.Plain.{Plain}
use Rattle.class_defs.specs.declared.store.Schemas.{Schemas}

-- An object behind the upgrade that leads on from epoch k, over the objects as they were in epoch k: transformed,
-- where the upgrade names its class and it was written before the upgrade.
abbrev pub next_value : Schemas → ℕ → (Oref → Option Object) → Obj → Object → Object
next_value s k objects o v =
    if nat_lt k o.ver then v else transformed (classes_of s k) (classes_of s (suc k)) objects v (next_of s k o.class)

-- The value of a stored object in epoch k, over all objects of the map: what is stored, and behind each upgrade what
-- that makes of it, where the expressions read the values of all objects in the epoch before.
unfoldable pub value : Schemas → Objects → ℕ → Obj → Object
value s m zero o = bare o
value s m (suc k) o = next_value s k (get (each_value (value s m k) m)) o (value s m k o)

-- the objects of a map with their values in epoch k
abbrev pub values : Schemas → Objects → ℕ → Map oref_cmp Object
values s m k = each_value (value s m k) m

-- the object that is written where a stored one is brought to the epoch of its map
abbrev pub brought : Schemas → Stored → Obj → Obj
brought s L o = in_epoch L.epoch (value s L.objects L.epoch o)

-- the store that a stored map stands for: each object with its value in the map's epoch
abbrev pub eager : Schemas → Stored → Plain
eager s L = record { objects = values s L.objects L.epoch; epoch = L.epoch; roots = L.roots }
