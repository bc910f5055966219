use Rattle.std.proofs.Common.{◌≡◌}
use Rattle.std.specs.List.{list_all}
use Rattle.store_opening.proofs.Walking.{kept_behind}
use Rattle.store_opening.specs.Fitting.{is_at_most}
use Rattle.store_opening.specs.Joined.{state_of}
use Rattle.store_opening.proofs.separate.has_decisions_below.Given as goal

-- the decisions that are left decide
abbrev pub invariant-loop : goal.invariant-loop
invariant-loop l =
    list_all (is_at_most l.threshold) (kept_behind l.after l.one.read.now.recovered.now.state.table.transactions.pairs)
    ≡ list_all (is_at_most l.threshold) (state_of l.one.read.now).kept
