use Rattle.std.proofs.Common.{◌≡◌}
use Rattle.std.specs.List.{fold}
use Rattle.std.specs.Map.{keys_of}
use Rattle.thor_value.specs.Names.{later_of}
use Rattle.validation_queue.proofs.clashes.greatest.Given as goal

-- the timestamps that are left raise it to the whole's
abbrev pub invariant-loop-tx : goal.invariant-loop-tx
invariant-loop-tx l = fold later_of l.greatest l.tx-iterator ≡ fold later_of l.fn.threshold (keys_of l.members.entries)
