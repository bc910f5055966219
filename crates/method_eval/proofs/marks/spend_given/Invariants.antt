use Rattle.std.proofs.Common.{◌≡◌, take}
use Rattle.std.specs.List.{fold}
use Rattle.method_eval.specs.Marks.{AreMarked, marks_of, spent_in}
use Rattle.method_eval.specs.Names.{spend_one}
use Rattle.method_eval.proofs.marks.spend_given.Given as goal

-- all have a mark, and those so far that were given are marked
abbrev pub invariant-loop-one : goal.invariant-loop-one
invariant-loop-one l = AreMarked (marks_of l.marks) l.held × (spent_in (marks_of l.marks) ≡ fold spend_one (spent_in (marks_of l.fn.marks)) (take l.one-index l.held))
