-- When a table of transactions has what a history says.
use Rattle.log_entries.specs.declared.request.Request.{Request}
use Rattle.spec_history.specs.History.{Base, Known, State, is_open, known_in}
use Rattle.std.specs.Prelude.{None, Option, Some, cond, ◌≡◌}
use Rattle.thor_value.specs.FiniteMap.{IsSorted}
use Rattle.thor_value.specs.declared.names.Ts.{Ts}
use Rattle.two_phase.specs.Contents.{Contents, open_at}

-- the request of a transaction that stands so, where it is undecided
abbrev pub undecided_request : Option Known → Option Request
undecided_request None = None
undecided_request (Some o) = cond (is_open o.fate) (Some o.request) None

-- What a table has of a state that no transaction of an earlier run is left to be settled in: the requests of the
-- undecided transactions are open, and the last single commits are the state's.
pub record TableAgrees (b : Base) (S : State) (c : Contents) : Type 0 where
  pub sorted : IsSorted c.transactions
  pub undecided : (t : Ts) → open_at c t ≡ undecided_request (known_in b S t)
  pub alone : c.alone ≡ S.alone
