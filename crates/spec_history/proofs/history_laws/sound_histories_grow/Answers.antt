use Rattle.spec_history.proofs.Growth.{owed-end, sound-beginning, sound-end}
use Rattle.spec_history.proofs.history_laws.sound_histories_grow.Goals as goal

pub returns : goal.returns
returns c = record { beginning = sound-beginning; owed = owed-end; grown = sound-end }
