use Rattle.std.proofs.Common.{◌≡◌, take}
use Rattle.method_eval.specs.Names.{orefs, waiting}
use Rattle.method_eval.proofs.names.waiting_names.Given as goal

-- the names so far
abbrev pub invariant-loop-one : goal.invariant-loop-one
invariant-loop-one l = l.names ≡ orefs (waiting (take l.one-index l.held))
