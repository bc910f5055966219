use Rattle.mob_buffer.specs.Buffer.{AreOf}
use Rattle.test_repository.proofs.buffers.walk.Given as goal

abbrev pub invariant-loop-step : goal.invariant-loop-step
invariant-loop-step l = AreOf 1 l.mob.objects
