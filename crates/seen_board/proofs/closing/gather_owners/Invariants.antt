use Rattle.std.proofs.Common.{◌≡◌, length}
use Rattle.seen_board.specs.Clauses.{knowledge}
use Rattle.seen_board.specs.Knowledge.{LiesIn}
use Rattle.seen_board.specs.Rows.{EachOf, Taken}
use Rattle.seen_board.proofs.closing.gather_owners.Given as goal

abbrev pub invariant-loop-owner : goal.invariant-loop-owner
invariant-loop-owner g l = (l.chief.table_id ≡ l.initial.chief.table_id) × LiesIn (knowledge l.initial.chief) (knowledge l.chief)
    × EachOf (λ _ x. x.seat.table_id ≡ l.board.table.shared.table_id) l.owners.items × Taken (λ x. LiesIn (knowledge x.seat) (knowledge l.chief)) l.owners.items l.initial.owners.items

abbrev pub decreases-loop-owner : goal.decreases-loop-owner
decreases-loop-owner g l = length l.owners.items
