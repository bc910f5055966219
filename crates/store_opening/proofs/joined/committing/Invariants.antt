use Rattle.std.proofs.Common.{map, ◌++◌, ◌≡◌}
use Rattle.std.specs.List.{filter}
use Rattle.store_opening.proofs.Walking.{requests_behind}
use Rattle.store_opening.specs.Joined.{read_states, state_of}
use Rattle.store_opening.specs.OpenedStore.{committing, is_committed}
use Rattle.store_opening.proofs.joined.committing.Given as goal

-- what commits up to a request, and of those behind it
abbrev pub invariant-loop : goal.invariant-loop
invariant-loop l = map (λ q. q.now) l.requests.items ++ filter (λ q. is_committed (read_states l.store) q.tx) (requests_behind l.after l.read.recovered.now.state.table.transactions.pairs) ≡ committing (read_states l.store) (state_of l.read)
