use Rattle.std.proofs.Common.{true}
use Rattle.method_eval.specs.Marks.{marks_of}
use Rattle.method_eval.proofs.Marking.{all_marked, one_marked, put_in}
use Rattle.method_eval.proofs.marks.spend_one.Goals as goal

pub returns-then-held-clause-spent : goal.returns-then-held-clause-spent
returns-then-held-clause-spent c =
    one_marked (marks_of c.args.marks.now) (marks_of c.insert.new.self) c.args.held c.if-held.true c.requires.sorted
    (put_in c.insert.result (marks_of c.args.marks.now) c.insert.new.self.entries c.args.held.oref true c.insert.ensures.entries c.insert.ensures.absent c.requires.marked.0)

pub returns-then-held-clause-marked : goal.returns-then-held-clause-marked
returns-then-held-clause-marked c =
    all_marked (marks_of c.args.marks.now) (marks_of c.insert.new.self) c.args.held.oref true
    (put_in c.insert.result (marks_of c.args.marks.now) c.insert.new.self.entries c.args.held.oref true c.insert.ensures.entries c.insert.ensures.absent c.requires.marked.0)
