-- Which stored objects lag behind the upgrades that are installed (Boyapati and others, OOPSLA 2003).
use Rattle.std.specs.Prelude.{ℕ, zero, suc, Bool, false, not, ◌&&◌, ◌||◌, if◌then◌else◌, nat_lt, is_some}
use Rattle.thor_value.specs.declared.values.Obj.{Obj}
use Rattle.class_defs.specs.Epochs.{next_of}
use Rattle.class_defs.specs.declared.store.Schemas.{Schemas}

-- whether the upgrade that leads on from epoch k changes an object: it names its class, and the object was written before it
abbrev pub changes : Schemas → ℕ → Obj → Bool
changes s k o = not (nat_lt k o.ver) && is_some (next_of s k o.class)

-- whether one of the first k upgrades changes an object
unfoldable pub lags : Schemas → Obj → ℕ → Bool
lags s o zero = false
lags s o (suc k) = lags s o k || changes s k o

-- the greatest number up to n that passes a test, and 0 where none does
unfoldable pub greatest : (ℕ → Bool) → ℕ → ℕ
greatest test zero = zero
greatest test (suc n) = if test (suc n) then suc n else greatest test n

-- The level of an object in a store of epoch e: the greatest epoch up to e by which no upgrade has changed it.
abbrev pub level : Schemas → ℕ → Obj → ℕ
level s e o = greatest (λ k. not (lags s o k)) e

-- an object is due where its level is below the epoch of the store
abbrev pub is_due : Schemas → ℕ → Obj → Bool
is_due s e o = nat_lt (level s e o) e

-- the number of the last of the first n upgrades that names a class, 0 where none does
unfoldable pub last_naming : Schemas → ℕ → ℕ → ℕ
last_naming s c zero = zero
last_naming s c (suc k) = if is_some (next_of s k c) then suc k else last_naming s c k
