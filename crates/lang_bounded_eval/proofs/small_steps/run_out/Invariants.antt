use Rattle.std.proofs.Common.{[]}
use Rattle.lang_bounded_eval.specs.SmallSteps.{left_of}
use Rattle.method_eval.specs.Viewed.{reading}
use Rattle.lang_bounded_eval.proofs.SmallSteps.{Runs}
use Rattle.lang_bounded_eval.proofs.small_steps.run_out.Given as goal

-- what is left comes to what was left at first, and few small steps were taken
abbrev pub invariant-loop : goal.invariant-loop
invariant-loop l = Runs (reading l.world) (left_of l.fn.begun []) l.fn.machine l.counter (left_of l.next l.stack) l.machine
