use Rattle.std.proofs.Common.{◌≡◌, ◌-◌, [], length}
use Rattle.seen_board.specs.Rows.{EachOf, from}
use Rattle.seen_board.specs.Clauses.{IsFresh}
use Rattle.seen_board.specs.Rule.{newcomer}
use Rattle.seen_board.proofs.making.make_owners.Given as goal

abbrev pub invariant-loop-repo : goal.invariant-loop-repo
invariant-loop-repo g l = (l.chief.table_id ≡ l.initial.chief.table_id) × (l.chief.me.1 ≡ l.initial.chief.me.1) × (l.chief.me.0 ≡ newcomer (from (l.repos - l.repo) l.repo) [])
    × (length l.owners.items ≡ l.repo) × EachOf (λ i o. (o.repo ≡ i) × IsFresh l.board.table.shared.table_id o.seat) l.owners.items
