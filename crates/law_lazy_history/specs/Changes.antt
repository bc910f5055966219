-- How committed transactions change a stored map, one behind the other. This project's.
use Rattle.class_defs.specs.Stored.{Stored}
use Rattle.serial_model.specs.declared.entries.Did.{Did}
use Rattle.std.specs.List.{flat_map, fold}
use Rattle.std.specs.Prelude.{List, [], ℕ, ◌+◌, ◌∷◌}
use Rattle.thor_value.specs.FiniteMap.{overwrite}
use Rattle.thor_value.specs.declared.names.Oref.{Oref}
use Rattle.thor_value.specs.declared.values.Obj.{Obj}

-- what a committed transaction does to a stored map
pub data Change : Type 0 where
  -- a transaction, with its entry in the serial history and what it wrote
  Ran : Did → List (Oref × Obj) → Change
  -- a transform, with what it wrote: an object that was brought to the epoch of the map
  Brought : List (Oref × Obj) → Change
  -- an upgrade, with its entry
  Installed : Did → Change

-- the map behind a change
abbrev pub changed_by : Stored → Change → Stored
changed_by N (Ran d ws) = record N { objects = overwrite N.objects ws }
changed_by N (Brought ws) = record N { objects = overwrite N.objects ws }
changed_by N (Installed d) = record N { epoch = N.epoch + 1 }

-- the map behind all these changes
abbrev pub changed_by_all : Stored → List Change → Stored
changed_by_all N cs = fold changed_by N cs

-- the entry of a change in the serial history; a transform has none
abbrev pub entry_of : Change → List Did
entry_of (Ran d ws) = d ∷ []
entry_of (Brought ws) = []
entry_of (Installed d) = d ∷ []

-- the entries of these changes
abbrev pub entries_of : List Change → List Did
entries_of cs = flat_map entry_of cs
