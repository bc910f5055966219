use Rattle.spec_history.specs.Requests.{has_written}
use Rattle.spec_trace.specs.Session.{last_other}
use Rattle.std.proofs.Common.{drop, ◌≡◌}
use Rattle.std.specs.List.{filter}
use Rattle.model_reading.specs.Against.{other_behind}
use Rattle.model_reading.proofs.against.last_other.Given as goal

-- what is left leads to the whole
abbrev pub invariant-loop-commit : goal.invariant-loop-commit
invariant-loop-commit l = other_behind l.fn.number l.last (filter (λ c. has_written c.1 l.fn.oref) (drop l.commit-index l.fn.commits)) ≡ last_other l.fn.number (filter (λ c. has_written c.1 l.fn.oref) l.fn.commits)
