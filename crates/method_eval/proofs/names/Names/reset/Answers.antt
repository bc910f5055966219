use Rattle.method_eval.specs.Marks.{marks_of}
use Rattle.method_eval.proofs.Holding.{freed_names}
use Rattle.method_eval.proofs.Marking.{marked_same}
use Rattle.method_eval.proofs.names.Names.reset.Goals as goal

pub invariant_of-self : goal.invariant_of-self
invariant_of-self c = marked_same (marks_of c.self.inside.marks) c.self.inside.held.items c.take_back.new.held.items (freed_names c.self.inside.held.items c.take_back.new.held.items c.take_back.ensures) c.self.invariant
