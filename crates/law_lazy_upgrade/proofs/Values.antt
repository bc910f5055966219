-- What holds of values in an epoch by themselves: up to an object's level they are what is stored.
use Rattle.std.proofs.Common.{◌≡◌, Bool, true, false, cond, not, List, ℕ, zero, suc, nat_lt, Option, Some, None, is_some, option_map, refl, ◌∙◌}
use Rattle.std.proofs.lemmas.Map.Made.{lookup-map_values}
use Rattle.std.specs.BTreeMap.{is_at}
use Rattle.std.specs.Prelude.{◌&&◌}
use Rattle.thor_value.specs.FiniteMap.{Map, get}
use Rattle.thor_value.specs.Names.{oref_cmp}
use Rattle.thor_value.specs.declared.names.Oref.{Oref}
use Rattle.thor_value.specs.declared.values.Obj.{Obj}
use Rattle.class_defs.proofs.Levels.{changes_not, lags_less}
use Rattle.class_defs.specs.Eager.{next_value, value}
use Rattle.class_defs.specs.Epochs.{classes_of, next_of}
use Rattle.class_defs.specs.Levels.{changes, lags}
use Rattle.class_defs.specs.Stored.{Objects, bare, each_value}
use Rattle.class_defs.specs.Upgrades.{transformed}
use Rattle.class_defs.specs.declared.classes.Class.{Class}
use Rattle.class_defs.specs.declared.store.Object.{Object}
use Rattle.class_defs.specs.declared.store.Schemas.{Schemas}
use Rattle.class_defs.specs.declared.upgrades.ClassUpgrade.{ClassUpgrade}

-- what stands at a name where each value has its image
pub get-each : {X Y : Type 0} (f : X → Y) (m : Map oref_cmp X) (x : Oref) → get (each_value f m) x ≡ option_map f (get m x)
get-each f m x = lookup-map_values f (is_at (oref_cmp x)) m.pairs

-- ---- one upgrade

stays_at : (s : Schemas) (k : ℕ) (objects : Oref → Option Object) (v : Object) (b : Bool) (u : Option ClassUpgrade)
    → (not b && is_some u) ≡ false → cond b v (transformed (classes_of s k) (classes_of s (suc k)) objects v u) ≡ v
stays_at s k objects v true u h = refl
stays_at s k objects v false None h = refl
stays_at s k objects v false (Some u) h = cc

pub next_stays : (s : Schemas) (k : ℕ) (objects : Oref → Option Object) (o : Obj) (v : Object) → changes s k o ≡ false
    → next_value s k objects o v ≡ v
next_stays s k objects o v h = stays_at s k objects v (nat_lt k o.ver) (next_of s k o.class) h

-- ---- values up to the level

pub value_stays : (s : Schemas) (m : Objects) (k : ℕ) (o : Obj) → lags s o k ≡ false → value s m k o ≡ bare o
unfolding value
value_stays s m zero o h = refl
value_stays s m (suc k) o h =
    next_stays s k (get (each_value (value s m k) m)) o (value s m k o) (changes_not s o k h) ∙ value_stays s m k o (lags_less s o k h)

-- ---- classes

class_stays : (old new : List Class) (objects : Oref → Option Object) (v : Object) (u : Option ClassUpgrade)
    → (transformed old new objects v u).class ≡ v.class
class_stays old new objects v None = refl
class_stays old new objects v (Some u) = refl

class_at : (s : Schemas) (k : ℕ) (objects : Oref → Option Object) (v : Object) (b : Bool) (u : Option ClassUpgrade)
    → (cond b v (transformed (classes_of s k) (classes_of s (suc k)) objects v u)).class ≡ v.class
class_at s k objects v true u = refl
class_at s k objects v false u = class_stays (classes_of s k) (classes_of s (suc k)) objects v u

-- an object keeps its class
pub value_class : (s : Schemas) (m : Objects) (k : ℕ) (o : Obj) → (value s m k o).class ≡ o.class
unfolding value
value_class s m zero o = refl
value_class s m (suc k) o =
    class_at s k (get (each_value (value s m k) m)) (value s m k o) (nat_lt k o.ver) (next_of s k o.class) ∙ value_class s m k o
