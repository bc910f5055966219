use Rattle.std.proofs.Common.{◌≡◌, ◌++◌, map, not}
use Rattle.std.specs.List.{filter}
use Rattle.thor_value.specs.FiniteMap.{has}
use Rattle.method_eval.specs.Marks.{AreMarked, marks_of, spent_in}
use Rattle.method_eval.specs.Names.{free}
use Rattle.method_eval.proofs.Marking.{page_from}
use Rattle.method_eval.proofs.marks.hold_page.Given as goal

-- the names so far stand behind those that were held, and no other is spent
abbrev pub invariant-loop-slot : goal.invariant-loop-slot
invariant-loop-slot l =
    AreMarked (marks_of l.marks) l.held.items × (spent_in (marks_of l.marks) ≡ spent_in (marks_of l.fn.marks))
    × (l.held.items ≡ l.fn.held.items ++ map free (filter (λ x. not (has (spent_in (marks_of l.fn.marks)) x)) (page_from l.repo l.page l.slot)))
