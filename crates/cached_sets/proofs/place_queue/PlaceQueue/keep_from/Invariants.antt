use Rattle.cached_sets.proofs.place_queue.PlaceQueue.keep_from.Given as goal
use Rattle.cached_sets.specs.Noted.{places_from}
use Rattle.std.proofs.Common.{length, ◌+◌, ◌≡◌}

-- the places so far lead to the same, and each that went counted
abbrev pub invariant-loop-steps : goal.invariant-loop-steps
invariant-loop-steps g l = record {
  rest : places_from l.upto l.self ≡ places_from l.upto l.initial.self;
  cost : l.steps + length l.self ≡ l.initial.steps + length l.initial.self;
}

abbrev pub decreases-loop-steps : goal.decreases-loop-steps
decreases-loop-steps g l = length l.self
