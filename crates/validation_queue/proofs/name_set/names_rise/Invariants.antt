use Rattle.std.proofs.Common.{◌≡◌, drop}
use Rattle.std.specs.Prelude.{None}
use Rattle.validation_queue.specs.Names.{rises_after}
use Rattle.validation_queue.proofs.name_set.names_rise.Given as goal

-- what is left to look at decides
abbrev pub invariant-loop-name : goal.invariant-loop-name
invariant-loop-name l = rises_after l.last (drop l.name-index l.names) ≡ rises_after None l.names
