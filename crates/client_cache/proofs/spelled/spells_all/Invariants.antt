use Rattle.std.proofs.Common.{◌≡◌, ◌++◌, All, take}
use Rattle.std.specs.List.{flat_map}
use Rattle.thor_value.specs.Spelling.{ValueFits, value_bytes}
use Rattle.client_cache.proofs.spelled.spells_all.Given as goal

-- the bytes begin with the values so far
abbrev pub invariant-loop-value : goal.invariant-loop-value
invariant-loop-value l = (l.bytes ≡ flat_map value_bytes (take l.value-index l.values) ++ l.rest)
    × All ValueFits (take l.value-index l.values)
