use Rattle.std.proofs.Common.{take}
use Rattle.method_check.specs.Seen.{Has}
use Rattle.method_check.proofs.names.seen_of.Given as goal

-- those that came were seen
abbrev pub invariant-loop-name : goal.invariant-loop-name
invariant-loop-name l = Has l.seen (take l.name-index l.names)
