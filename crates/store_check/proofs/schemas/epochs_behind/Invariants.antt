use Rattle.store_check.proofs.Spelling.{Walked}
use Rattle.store_check.proofs.schemas.epochs_behind.Given as goal

-- the epochs of the texts to come stand behind those that are made
abbrev pub invariant-loop-text : goal.invariant-loop-text
invariant-loop-text l = Walked l.fn.first.repos l.roots l.fn.first.schema l.texts l.text-index l.epochs l.standing
