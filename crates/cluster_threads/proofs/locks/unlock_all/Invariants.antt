use Rattle.std.proofs.Common.{vec_capacity, vec_len, ◌+◌, ◌≡◌, ◌≤◌}
use Rattle.std.specs.Vec.Iter.{into_iter_len}
use Rattle.cluster_threads.proofs.locks.unlock_all.Given as goal

-- one for each so far, and room for the rest
abbrev pub invariant-loop-lock : goal.invariant-loop-lock
invariant-loop-lock g l = (vec_len l.seats + into_iter_len l.lock-iterator ≡ into_iter_len l.initial.lock-iterator) × (vec_len l.seats + into_iter_len l.lock-iterator ≤ vec_capacity l.seats)
