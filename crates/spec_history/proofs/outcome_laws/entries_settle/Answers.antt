use Rattle.spec_history.proofs.Growth.{owed-end, sound-beginning}
use Rattle.spec_history.proofs.Settling.{caused-end}
use Rattle.spec_history.proofs.outcome_laws.entries_settle.Goals as goal
use Rattle.std.proofs.Common.{[], ◌∷◌}

pub returns : goal.returns
returns c = λ b H e sd t o w is it. caused-end b H e (sound-beginning b H (e ∷ []) sd) (owed-end b H e sd) t o w is it
