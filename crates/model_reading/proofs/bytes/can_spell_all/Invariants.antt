use Rattle.std.proofs.Common.{drop}
use Rattle.std.specs.Prelude.{All}
use Rattle.thor_value.specs.Spelling.{NameFits}
use Rattle.model_reading.proofs.bytes.can_spell_all.Given as goal

-- what is left to look at decides
abbrev pub invariant-loop-value : goal.invariant-loop-value
invariant-loop-value l = All NameFits (drop l.value-index l.values) → All NameFits l.values
