use Rattle.std.proofs.Common.{◌≡◌, length}
use Rattle.seen_board.specs.Clauses.{history}
use Rattle.test_base.proofs.boards.work.Given as goal

abbrev pub invariant-loop : goal.invariant-loop
invariant-loop l = (l.owner.repo ≡ l.initial.owner.repo) × (l.owner.seat.table_id ≡ l.board.table.shared.table_id) × (l.pass.client ≡ l.initial.pass.client) × (l.pass.seat.table_id ≡ l.board.table.shared.table_id)
    × (length (history l.owner.seat l.initial.owner.repo) ≡ l.counter)
