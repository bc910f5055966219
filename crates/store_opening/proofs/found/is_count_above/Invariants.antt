use Rattle.store_opening.proofs.found.is_count_above.Given as goal

-- nothing has to stay true but what the loop itself keeps
abbrev pub invariant-loop-place : goal.invariant-loop-place
invariant-loop-place g l = Unit {0}
