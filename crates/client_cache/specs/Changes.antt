-- What a page makes of the copies in its slots.
use Rattle.std.specs.Prelude.{◌≡◌, ℕ, List, Option, Some, None, slice_get, option_and_then, option_map}
use Rattle.std.specs.Option.{unwrap_or}
use Rattle.object_codec.specs.Spelling.{ObjFits, obj_bytes}
use Rattle.thor_value.specs.declared.values.Obj.{Obj}
use Rattle.client_cache.specs.Slots.{kept_in}
use Rattle.client_cache.specs.declared.changes.Change.{Change}
use Rattle.client_cache.specs.declared.changes.Change.TheVariants.{Gone, Other, Same}
use Rattle.client_cache.specs.declared.page_copies.Slot.{Slot}

-- the copy in a slot behind a change
abbrev pub behind : Change → Option Obj → Option Obj
behind Same copy = copy
behind Gone copy = None
behind (Other obj) copy = Some obj

-- the change of a slot; past the last one nothing is there
abbrev pub change_in : List Change → ℕ → Change
change_in changes s = unwrap_or (slice_get changes s) Gone

-- the copy in a slot of a page, where that is held
abbrev pub copy_in : Option (List Slot) → ℕ → Option Obj
copy_in held s = option_and_then (λ slots. kept_in slots s) held

-- the copies of a page behind changes
abbrev pub kept_behind : List Change → Option (List Slot) → ℕ → Option Obj
kept_behind changes held s = behind (change_in changes s) (copy_in held s)

-- the bytes in a slot, where there are some, are those of the object there
pub record AreOf (bytes : Option (List ℕ)) (object : Option Obj) : Type 0 where
  pub spelled : bytes ≡ option_map obj_bytes object
  pub fits : (o : Obj) → object ≡ Some o → ObjFits o
