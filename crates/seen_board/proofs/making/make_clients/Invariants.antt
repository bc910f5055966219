use Rattle.std.proofs.Common.{◌≡◌, ◌-◌, length}
use Rattle.seen_board.specs.Rows.{EachOf, from}
use Rattle.seen_board.specs.Clauses.{IsFresh}
use Rattle.seen_board.specs.Rule.{newcomer}
use Rattle.seen_board.proofs.making.make_clients.Given as goal

abbrev pub invariant-loop-client : goal.invariant-loop-client
invariant-loop-client g l = (l.chief.table_id ≡ l.initial.chief.table_id) × (l.chief.me.1 ≡ l.initial.chief.me.1) × (l.chief.me.0 ≡ newcomer (from l.repos 0) (from (l.clients - l.client) l.client))
    × (length l.passes.items ≡ l.client) × EachOf (λ k p. (p.client ≡ k) × IsFresh l.board.table.shared.table_id p.seat) l.passes.items
