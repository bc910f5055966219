-- How far ways have come.
use Rattle.class_defs.specs.Stored.{Objects}
use Rattle.class_defs.specs.declared.store.Schemas.{Schemas}
use Rattle.store_check.specs.Naming.{Namings}
use Rattle.store_check.specs.Ways.{Ways, way, way_or_none}
use Rattle.std.specs.List.{list_any}
use Rattle.std.specs.Prelude.{◌⊎◌, None, true, Some, ℕ, ◌<◌, ◌≡◌}
use Rattle.thor_value.specs.FiniteMap.{get, keys, len}
use Rattle.thor_value.specs.Names.{same_oref}
use Rattle.thor_value.specs.declared.names.Oref.{Oref}

-- whether an object of the map has this name
abbrev pub IsKey : Objects → Oref → Type 0
IsKey m x = list_any (same_oref x) (keys m) ≡ true

-- these are the ways of k steps of the objects of a map
abbrev pub AreWays : Schemas → Objects → Namings → ℕ → Ways → Type 0
AreWays s m n k ws = (x : Oref) → IsKey m x → get ws x ≡ Some (way s m n k x)

-- all ways have ended
abbrev pub AreEnded : Objects → Ways → Type 0
AreEnded m ws = (x : Oref) → IsKey m x → (way_or_none (get ws x)).next ≡ None

-- the ways of so many steps that one which hasn't ended never ends
pub record AreWhole (s : Schemas) (m : Objects) (n : Namings) (ws : Ways) : Type 0 where
  pub steps : ℕ
  pub ways : AreWays s m n steps ws
  pub enough : AreEnded m ws ⊎ (len m < steps)
