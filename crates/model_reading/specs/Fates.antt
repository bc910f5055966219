-- What became of a transaction, as the definitions of histories have it.
use Rattle.spec_history.specs.History as history
use Rattle.std.specs.Prelude.{ℕ}
use Rattle.model_reading.specs.declared.standing.Fate.TheVariants as fates
use Rattle.model_reading.specs.declared.standing.Fate.{Fate}

abbrev pub fate_of : Fate → history.Fate
fate_of fates.Open = history.Open
fate_of (fates.Committed at) = history.Committed at
fate_of fates.Aborted = history.Aborted
