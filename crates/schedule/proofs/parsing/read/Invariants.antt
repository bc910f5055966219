use Rattle.std.proofs.Common.{◌≡◌, [], take, fold}
use Rattle.schedule.specs.declared.reader.Reader.TheVariants.{Ready}
use Rattle.schedule.specs.Schedule.{step}
use Rattle.schedule.proofs.parsing.read.Given as goal

-- what is read of the tokens so far
abbrev pub invariant-loop-token : goal.invariant-loop-token
invariant-loop-token l = l.reader ≡ fold step (Ready []) (take l.token-index l.tokens)
