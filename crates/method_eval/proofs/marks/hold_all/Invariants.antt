use Rattle.std.proofs.Common.{◌≡◌, ◌++◌, map, take}
use Rattle.method_eval.specs.Marks.{AreMarked, marks_of, spent_in}
use Rattle.method_eval.specs.Names.{free}
use Rattle.method_eval.proofs.marks.hold_all.Given as goal

-- the names so far stand behind those that were held, and no other is spent
abbrev pub invariant-loop-name : goal.invariant-loop-name
invariant-loop-name l =
    AreMarked (marks_of l.marks) l.held.items × (spent_in (marks_of l.marks) ≡ spent_in (marks_of l.fn.marks))
    × (l.held.items ≡ l.fn.held.items ++ map free (take l.name-index l.names))
