use Rattle.std.proofs.Common.{◌≡◌}
use Rattle.std.specs.List.{list_any}
use Rattle.thor_value.specs.FiniteMap.{values}
use Rattle.thor_value.specs.Names.{same_ts}
use Rattle.model_reading.proofs.state.State.is_alone.Given as goal

-- what is left to look at decides
abbrev pub invariant-loop-last : goal.invariant-loop-last
invariant-loop-last l = list_any (same_ts l.tx) l.last-iterator ≡ list_any (same_ts l.tx) (values l.self.alone)
