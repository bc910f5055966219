use Rattle.std.proofs.Common.{take}
use Rattle.serial_model.proofs.Replayed.{IsSoFar}
use Rattle.serial_model.proofs.replaying.replay.Given as goal

-- the entries so far are a legal history, and the view has the store behind them
abbrev pub invariant-loop-index : goal.invariant-loop-index
invariant-loop-index l = IsSoFar l.schemas (take l.index l.history) l.store l.view l.last
