use Rattle.std.proofs.Common.{◌≡◌, ◌+◌, drop}
use Rattle.serial_model.specs.Replays.{made_from}
use Rattle.serial_model.proofs.made.are_made_behind.Given as goal

-- those to come are as they should be exactly where all are
abbrev pub invariant-loop-index : goal.invariant-loop-index
invariant-loop-index l = made_from (l.index + 1) (drop l.index l.upgraded) ≡ made_from 1 l.upgraded
