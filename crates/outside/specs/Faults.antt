-- Counts of faults (this project's). A count is a u64 that never falls and stands still at its greatest
-- number.
use Rattle.std.specs.Prelude.{ℕ, ◌+◌, ◌-◌, ◌^◌, ◌<◌, min, ℤ, pos, ◌+ℤ◌}
use Rattle.std.specs.Int.{saturate_signed, w64}

-- the greatest number that a count reaches
abbrev pub most : ℕ
most = 2 ^ 64 - 1

-- The count between the two moments rose. Of a count that stands at its greatest number this can't be
-- told, so such a count is taken as one that rose.
abbrev pub Rose : ℕ → ℕ → Type 0
Rose before after = after < most → before < after

-- the count after one more fault
abbrev pub one_more : ℕ → ℕ
one_more count = min (count + 1) most

-- the number of the call after this one, which stops at the greatest number of its type
abbrev pub following : ℤ → ℤ
following call = saturate_signed w64 (call +ℤ pos 1)
