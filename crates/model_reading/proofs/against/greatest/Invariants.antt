use Rattle.std.proofs.Common.{◌≡◌}
use Rattle.std.specs.List.{fold}
use Rattle.std.specs.Map.{keys_of}
use Rattle.thor_value.specs.Names.{later_of}
use Rattle.model_reading.proofs.against.greatest.Given as goal

-- what is left leads to the whole
abbrev pub invariant-loop-tx : goal.invariant-loop-tx
invariant-loop-tx l = fold later_of l.greatest l.tx-iterator ≡ fold later_of l.fn.window.threshold (keys_of l.fn.window.members.pairs)
