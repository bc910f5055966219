use Rattle.std.proofs.Common.{◌≡◌}
use Rattle.std.specs.List.{list_all}
use Rattle.std.specs.Ordering.{nat_cmp}
use Rattle.store_opening.specs.Fitting.{is_at_most}
use Rattle.store_opening.specs.Joined.{state_of}
use Rattle.two_phase.specs.Walks.{behind}
use Rattle.store_opening.proofs.separate.has_commits_below.Given as goal

-- the transactions that are left decide
abbrev pub invariant-loop : goal.invariant-loop
invariant-loop l =
    list_all (λ e. is_at_most l.threshold e.1) (behind nat_cmp l.after l.one.read.now.recovered.now.state.table.alone.pairs)
    ≡ list_all (λ e. is_at_most l.threshold e.1) (state_of l.one.read.now).alone
