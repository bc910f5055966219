use Rattle.method_eval.specs.Marks.{marks_of}
use Rattle.method_eval.proofs.Marking.{marked_at}
use Rattle.method_eval.proofs.marks.spend_given.Goals as goal

pub spend_one-requires : goal.spend_one-requires
spend_one-requires c = marked_at (marks_of c.loop-one.marks) c.args.held.now c.loop-one.one-index _ c.loop-one-test.true c.loop-one.invariant.0
