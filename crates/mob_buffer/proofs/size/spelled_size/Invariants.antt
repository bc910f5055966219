use Rattle.mob_buffer.proofs.Sizes.{Counted}
use Rattle.mob_buffer.proofs.size.spelled_size.Given as goal

abbrev pub invariant-loop-field : goal.invariant-loop-field
invariant-loop-field l = Counted l.object.fields l.field-index l.size
