use Rattle.std.proofs.Common.{◌≡◌}
use Rattle.std.specs.List.{list_all}
use Rattle.store_opening.proofs.Walking.{requests_behind}
use Rattle.store_opening.specs.Fitting.{has_coordinator}
use Rattle.store_opening.specs.Joined.{read_states, state_of}
use Rattle.store_opening.specs.Standing.{member_of}
use Rattle.store_opening.proofs.separate.has_coordinators.Given as goal

-- the requests that are left decide
abbrev pub invariant-loop : goal.invariant-loop
invariant-loop l =
    list_all (has_coordinator (read_states l.store) (member_of l.one)) (requests_behind l.after l.one.read.now.recovered.now.state.table.transactions.pairs)
    ≡ list_all (has_coordinator (read_states l.store) (member_of l.one)) (state_of l.one.read.now).prepared
