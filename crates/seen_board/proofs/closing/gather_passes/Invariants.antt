use Rattle.std.proofs.Common.{◌≡◌, length}
use Rattle.seen_board.specs.Clauses.{knowledge}
use Rattle.seen_board.specs.Knowledge.{LiesIn}
use Rattle.seen_board.specs.Rows.{EachOf, Taken}
use Rattle.seen_board.proofs.closing.gather_passes.Given as goal

abbrev pub invariant-loop-pass : goal.invariant-loop-pass
invariant-loop-pass g l = (l.chief.table_id ≡ l.initial.chief.table_id) × LiesIn (knowledge l.initial.chief) (knowledge l.chief)
    × EachOf (λ _ x. x.seat.table_id ≡ l.board.table.shared.table_id) l.passes.items × Taken (λ x. LiesIn (knowledge x.seat) (knowledge l.chief)) l.passes.items l.initial.passes.items

abbrev pub decreases-loop-pass : goal.decreases-loop-pass
decreases-loop-pass g l = length l.passes.items
