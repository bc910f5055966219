-- A store as repositories keep it: objects of mixed versions (Boyapati and others, OOPSLA 2003). Each was last
-- written in some epoch, and upgrades since then haven't changed it yet.
use Rattle.std.specs.Prelude.{ℕ, List, map}
use Rattle.thor_value.specs.FiniteMap.{Map}
use Rattle.thor_value.specs.Names.{oref_cmp}
use Rattle.thor_value.specs.declared.values.Obj.{Obj}
use Rattle.class_defs.specs.declared.store.Object.{Object}
use Rattle.class_defs.specs.declared.store.Plain.{Plain}
use Rattle.class_defs.specs.declared.store.Root.{Root}

-- the objects of a store by their names, with the epochs in which they were last written
abbrev pub Objects : Type 0
Objects = Map oref_cmp Obj

-- a stored map: objects, the number of upgrades that are installed, and the roots
pub record Stored : Type 0 where
  pub objects : Objects
  pub epoch : ℕ
  pub roots : List Root

-- an object without its version
abbrev pub bare : Obj → Object
bare o = record { class = o.class; fields = o.fields }

-- an object as it is written in an epoch
abbrev pub in_epoch : ℕ → Object → Obj
in_epoch e v = record { class = v.class; ver = e; fields = v.fields }

-- the map with a function of each value in its place
abbrev pub each_value : {X Y : Type 0} → (X → Y) → Map oref_cmp X → Map oref_cmp Y
each_value f m = record { pairs = map (λ p. (p.0, f p.1)) m.pairs }

-- a plain store as a stored map: all its objects are of its epoch
abbrev pub all_written : Plain → Stored
all_written store = record { objects = each_value (in_epoch store.epoch) store.objects; epoch = store.epoch; roots = store.roots }
