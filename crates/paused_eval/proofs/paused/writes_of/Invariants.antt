use Rattle.std.proofs.Common.{drop, ◌≡◌, ◌++◌}
use Rattle.client_cache.specs.Copies.{changed}
use Rattle.method_eval.specs.Answers.{stored_at}
use Rattle.paused_eval.proofs.Writes.{Dating}
use Rattle.paused_eval.specs.Copies.{entries}
use Rattle.paused_eval.proofs.paused.writes_of.Given as goal

-- with those of the names that are left they are all, and all but those stand so
abbrev pub invariant-loop-place : goal.invariant-loop-place
invariant-loop-place l =
    (l.writes ++ stored_at l.epoch (entries (changed l.fn.cache) (drop l.place l.fn.cache.written)) ≡ stored_at l.epoch (entries (changed l.fn.cache) l.fn.cache.written))
    × (Dating l.epoch l.fn.cache l.cache (drop l.place l.fn.cache.written) × (l.cache.written ≡ l.fn.cache.written))
