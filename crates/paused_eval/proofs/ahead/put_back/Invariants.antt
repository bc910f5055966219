use Rattle.std.proofs.Common.{◌≡◌, ◌++◌, length}
use Rattle.paused_eval.proofs.ahead.put_back.Given as goal

-- what has come onto the stack and what is still to come are all
abbrev pub invariant-loop-frame : goal.invariant-loop-frame
invariant-loop-frame l = l.frames ++ l.stack ≡ l.fn.left ++ l.fn.stack

abbrev pub decreases-loop-frame : goal.decreases-loop-frame
decreases-loop-frame l = length l.frames
