use Rattle.std.proofs.Common.{◌≡◌, ◌++◌, [], drop, take}
use Rattle.script_check.specs.Opened.{placed_behind}
use Rattle.script_check.proofs.opening.placed_roots.Given as goal

-- the roots placed so far, and those to come, are all
abbrev pub invariant-loop-place : goal.invariant-loop-place
invariant-loop-place l = l.done ++ placed_behind (take l.place l.roots) (drop l.place l.roots) ≡ placed_behind [] l.roots
