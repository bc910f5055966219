use Rattle.std.proofs.Common.{◌≡◌}
use Rattle.std.specs.Map.{keys_of}
use Rattle.model_reading.specs.Against.{first_read}
use Rattle.model_reading.proofs.finding.first_read.Given as goal

-- what is left to look at decides
abbrev pub invariant-loop-name : goal.invariant-loop-name
invariant-loop-name l = first_read l.request l.other l.name-iterator ≡ first_read l.request l.other (keys_of l.names.entries)
