use Rattle.std.proofs.Common.{◌≡◌, ◌≤◌, ℕ, Some, cond, nat_lt}
use Rattle.client_cache.specs.Changes.{change_in, kept_behind}
use Rattle.client_cache.specs.Slots.{kept_in, written_in}
use Rattle.client_cache.proofs.page_copies.Slots.change.Given as goal

abbrev pub invariant-loop-slot : goal.invariant-loop-slot
invariant-loop-slot l =
    ((s : ℕ) → kept_in l.self s ≡ cond (nat_lt s l.slot) (kept_behind l.fn.changes (Some l.fn.self) s) (kept_in l.fn.self s))
    × ((s : ℕ) → l.slot ≤ s → change_in l.changes s ≡ change_in l.fn.changes s)
    × ((s : ℕ) → written_in l.self s ≡ written_in l.fn.self s)
