use Rattle.client_state.proofs.transaction.are_apart.Given as goal
use Rattle.client_state.specs.Sending.{IsFirstOfItsOwn}
use Rattle.std.specs.Prelude.{slice_get, ℕ, ◌<◌}

-- each so far is the first of its repository
abbrev pub invariant-loop-place : goal.invariant-loop-place
invariant-loop-place l = (n : ℕ) → n < l.place → IsFirstOfItsOwn n l.shares (slice_get l.shares n)
