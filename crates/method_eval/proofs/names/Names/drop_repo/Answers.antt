use Rattle.method_eval.specs.Marks.{marks_of}
use Rattle.method_eval.proofs.Marking.{marked_some}
use Rattle.method_eval.proofs.names.Names.drop_repo.Goals as goal

pub invariant_of-self : goal.invariant_of-self
invariant_of-self c = rw c.keep_others.ensures (marked_some (marks_of c.self.inside.marks) _ c.self.inside.held.items c.self.invariant)
