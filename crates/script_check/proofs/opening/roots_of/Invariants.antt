use Rattle.std.proofs.Common.{◌≡◌, take, map}
use Rattle.script_check.specs.Opened.{root_of}
use Rattle.script_check.proofs.opening.roots_of.Given as goal

-- the roots so far
abbrev pub invariant-loop-root : goal.invariant-loop-root
invariant-loop-root l = l.roots ≡ map (root_of l.schema) (take l.root-index l.root-items)
