use Rattle.client_state.proofs.transaction.found_place.Given as goal
use Rattle.client_state.specs.Writing.{is_of}
use Rattle.std.specs.Prelude.{false, slice_get, ℕ, ◌<◌, ◌≡◌}

-- none so far is the repository's
abbrev pub invariant-loop-place : goal.invariant-loop-place
invariant-loop-place l = (n : ℕ) → n < l.place → is_of l.repo (slice_get l.shares n) ≡ false
