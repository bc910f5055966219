use Rattle.std.proofs.Common.{sym}
use Rattle.method_eval.specs.Marks.{marks_of}
use Rattle.method_eval.proofs.Marking.{has_not_spent, has_spent}
use Rattle.method_eval.proofs.marks.is_spent.Goals as goal

pub returns-in-Some : goal.returns-in-Some
returns-in-Some c = has_spent (marks_of c.args.marks.now) c.args.oref c.in-Some.spent.now c.requires (sym c.in-Some.ensures.value)

pub returns-in-None : goal.returns-in-None
returns-in-None c = has_not_spent (marks_of c.args.marks.now) c.args.oref c.requires (sym c.in-None.ensures.value)
