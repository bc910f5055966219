use Rattle.store_check.specs.Tests.{numbered}
use Rattle.store_check.proofs.kinds.has_numbered_classes.Given as goal
use Rattle.std.proofs.Common.{◌≡◌, take}

-- whether the epochs so far have few enough
abbrev pub invariant-loop-epoch : goal.invariant-loop-epoch
invariant-loop-epoch l = l.numbered ≡ numbered (take l.epoch-index l.upgraded)
