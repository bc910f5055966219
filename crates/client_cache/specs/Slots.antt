-- The copies of one page: for each slot the copy as it was before the try, and what the try has made of it
-- (Liskov and others, SIGMOD 1996: front ends run on cached copies, and a try that is given up leaves them
-- as they were).
use Rattle.std.specs.Prelude.{ℕ, Bool, ◌&&◌, List, Option, None, is_none, replicate, slice_get, option_and_then, option_map}
use Rattle.std.specs.Option.{option_or}
use Rattle.thor_value.specs.declared.values.Obj.{Obj}
use Rattle.client_cache.specs.declared.page_copies.Slot.{Slot}

-- the copy in a slot as it was before the try
abbrev pub kept_in : List Slot → ℕ → Option Obj
kept_in slots s = option_and_then (λ slot. slot.kept) (slice_get slots s)

-- what the try has made of it
abbrev pub written_in : List Slot → ℕ → Option Obj
written_in slots s = option_and_then (λ slot. slot.written) (slice_get slots s)

-- what stands there now
abbrev pub seen_in : List Slot → ℕ → Option Obj
seen_in slots s = option_or (written_in slots s) (kept_in slots s)

-- slots without a copy
abbrev pub no_copies : ℕ → List Slot
no_copies n = replicate n (record { kept = None; written = None })

-- whether a slot has neither a copy nor what the try has made of it
abbrev pub is_bare : Slot → Bool
is_bare slot = is_none slot.kept && is_none slot.written

-- a slot with what the try has made of it as the copy
abbrev pub settled : Slot → Slot
settled slot = record { kept = option_or slot.written slot.kept; written = None }

-- an object of this version
abbrev pub dated : ℕ → Obj → Obj
dated ver o = record o { ver = ver }

-- a slot with what the try has made of it of this version
abbrev pub dated_in : ℕ → Slot → Slot
dated_in ver slot = record slot { written = option_map (dated ver) slot.written }
