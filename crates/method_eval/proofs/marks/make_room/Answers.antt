use Rattle.std.proofs.Common.{sym, ◌∙◌, false}
use Rattle.method_eval.specs.Marks.{marks_of}
use Rattle.method_eval.proofs.Marking.{all_marked, inserted, room_for}
use Rattle.method_eval.proofs.marks.make_room.Goals as goal

pub returns-clause-marked : goal.returns-clause-marked
returns-clause-marked c =
    all_marked (marks_of c.args.marks.now) (marks_of c.insert.new.self) c.args.oref false (inserted (marks_of c.args.marks.now) c.insert.new.self.entries c.args.oref false c.in_ok-insert.ensures.entries)

pub returns-clause-spent : goal.returns-clause-spent
returns-clause-spent c =
    room_for (marks_of c.args.marks.now) (marks_of c.insert.new.self) c.args.oref c.requires (sym c.contains_key.ensures ∙ c.if-contains_key.false)
    (inserted (marks_of c.args.marks.now) c.insert.new.self.entries c.args.oref false c.in_ok-insert.ensures.entries)
