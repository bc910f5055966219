use Rattle.std.proofs.Common.{◌≡◌}
use Rattle.lang_upgrade_eval.proofs.LevelFound.{NoneLag}
use Rattle.lang_upgrade_eval.proofs.epochs.level.Given as goal

-- no upgrade so far changes the object
abbrev pub invariant-loop-before : goal.invariant-loop-before
invariant-loop-before l = NoneLag l.schemas l.class l.ver l.before
