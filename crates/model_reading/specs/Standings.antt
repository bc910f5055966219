-- Undecided transactions, by the place at which the present life began.
use Rattle.spec_history.specs.History.{Known, State, is_open}
use Rattle.log_entries.specs.declared.request.Request.{Request}
use Rattle.std.specs.Option.{option_and_then}
use Rattle.std.specs.Prelude.{None, Option, Some, cond, nat_eq, nat_lt, ℕ, ◌&&◌}
use Rattle.thor_value.specs.FiniteMap.{get}
use Rattle.thor_value.specs.declared.names.Ts.{Ts}

-- the place and the request of a transaction that stands so, where it is undecided in a life that began at l
abbrev pub open_standing : ℕ → ℕ → Ts → Known → Option (ℕ × Request)
open_standing repo l t o = cond (nat_eq t.repo repo && nat_lt o.place l) None (cond (is_open o.fate) (Some (o.place, o.request)) None)

abbrev pub stands_behind : ℕ → ℕ → Ts → State → Option (ℕ × Request)
stands_behind repo l t S = option_and_then (open_standing repo l t) (get S.known t)
