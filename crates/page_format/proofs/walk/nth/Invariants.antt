use Rattle.std.proofs.Common.{◌≡◌, ◌-◌, slice_get}
use Rattle.page_format.specs.Walking.{pairs_of}
use Rattle.page_format.proofs.walk.nth.Given as goal

-- what stands at the rank among all objects stands among those that are left at the rank that is left
abbrev pub invariant-loop : goal.invariant-loop
invariant-loop l = slice_get (pairs_of (l.count - l.counter) l.rest) (l.rank - l.counter) ≡ slice_get (pairs_of l.count l.entries) l.rank
