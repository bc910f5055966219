use Rattle.std.proofs.Common.{take}
use Rattle.top_history_check.specs.Answered.{AreTold}
use Rattle.top_history_check.proofs.answers.are_told.Given as goal

-- the outcomes so far are told
abbrev pub invariant-loop-place : goal.invariant-loop-place
invariant-loop-place l = AreTold l.places l.history l.client 1 (take l.place l.ends)
