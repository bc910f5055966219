use Rattle.std.proofs.Common.{drop, ◌≡◌}
use Rattle.std.specs.List.{list_any}
use Rattle.thor_value.specs.Names.{same_oref}
use Rattle.model_reading.proofs.names.is_one_of.Given as goal

-- what is left to look at decides
abbrev pub invariant-loop-name : goal.invariant-loop-name
invariant-loop-name l = list_any (same_oref l.oref) (drop l.name-index l.names) ≡ list_any (same_oref l.oref) l.names
