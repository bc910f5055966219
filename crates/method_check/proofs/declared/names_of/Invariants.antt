use Rattle.std.proofs.Common.{◌≡◌, ◌++◌, map, take}
use Rattle.method_check.proofs.declared.names_of.Given as goal

-- the names of those so far
abbrev pub invariant-loop-item : goal.invariant-loop-item
invariant-loop-item g l = l.names ≡ l.fn.names ++ map g.T.Declared.name_of (take l.item-index l.declared)
