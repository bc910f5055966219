use Rattle.std.proofs.Common.{take}
use Rattle.top_history_check.specs.Places.{Finds}
use Rattle.top_history_check.proofs.places.places_of.Given as goal

-- the places of the entries so far
abbrev pub invariant-loop-place : goal.invariant-loop-place
invariant-loop-place l = Finds l.places (take l.place l.history)
