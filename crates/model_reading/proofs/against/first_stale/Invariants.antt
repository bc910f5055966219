use Rattle.std.proofs.Common.{◌≡◌}
use Rattle.std.specs.Map.{keys_of}
use Rattle.model_reading.specs.Against.{stale_at}
use Rattle.validation_queue.specs.Clashes.{first_some}
use Rattle.model_reading.proofs.against.first_stale.Given as goal

-- what is left to look at decides
abbrev pub invariant-loop-name : goal.invariant-loop-name
invariant-loop-name l = first_some (stale_at l.commits l.number l.session l.upto) l.name-iterator ≡ first_some (stale_at l.commits l.number l.session l.upto) (keys_of l.names.entries)
