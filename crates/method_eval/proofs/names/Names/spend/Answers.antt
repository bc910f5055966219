use Rattle.std.proofs.Common.{List, subst}
use Rattle.method_eval.specs.Marks.{AreMarked, marks_of}
use Rattle.method_eval.specs.Names.{waiting}
use Rattle.method_eval.specs.declared.held.Held.{Held}
use Rattle.method_eval.proofs.Marking.{marked_some}
use Rattle.method_eval.proofs.names.Names.spend.Goals as goal

pub invariant_of-self : goal.invariant_of-self
invariant_of-self c =
    rw c.keep_waiting.ensures (subst (λ (held : List Held). AreMarked (marks_of c.spend_given.new.marks) (waiting held)) c.deref.ensures.value
    (marked_some (marks_of c.spend_given.new.marks) _ c.deref.result.now c.spend_given.ensures.marked))
