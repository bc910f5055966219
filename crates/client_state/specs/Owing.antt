-- How many calls a client owes that aren't counted (this project's).
use Rattle.client_state.specs.declared.duties.Abort.{Abort}
use Rattle.client_state.specs.declared.duties.Duties.{Duties}
use Rattle.client_state.specs.declared.duties.Duty.{Duty}
use Rattle.client_state.specs.declared.duties.Duty.TheVariants.{Finish, Forget}
use Rattle.client_state.specs.declared.phase.Phase.{Phase}
use Rattle.client_state.specs.declared.phase.Phase.TheVariants.{Asking, Beginning, Between, Drawn, Evaluated, Evaluating, Preparing, Transforming}
use Rattle.client_state.specs.declared.transaction.Sent.{Sent}
use Rattle.std.specs.List.{sum_by}
use Rattle.std.specs.Prelude.{List, None, Option, Some, length, min, ℕ, ◌*◌, ◌+◌, ◌-◌, ◌^◌}

-- No list in memory has as many elements. What is counted of lists ends there, so that it has a bound for all lists.
abbrev pub most_listed : ℕ
most_listed = 2 ^ 64

-- how many elements a list in memory has
unfoldable pub count_of : List ℕ → ℕ
count_of xs = min (length xs) most_listed

-- how many calls a duty may still take: one for each participant that is to be told, and one to forget
abbrev pub calls_of : Duty → ℕ
calls_of (Finish verdict to forgets) = count_of to + 1
calls_of (Forget t) = 1

-- how many calls those of a list in memory may still take
unfoldable pub calls_of_all : List Duty → ℕ
calls_of_all ds = min (sum_by calls_of ds) (most_listed * (most_listed + 1))

-- a transaction that is to be aborted takes the decision, and then what it gives to hand on
abbrev pub calls_of_abort : Option Abort → ℕ
calls_of_abort None = 0
calls_of_abort (Some a) = count_of a.prepared + 2

-- the calls that a client's duties take
abbrev pub owed : Duties → ℕ
owed d = calls_of_abort d.abort + calls_of_all d.verdicts

-- How many calls may still come of a try's transaction: what is prepared may be to be aborted, and of what was sent
-- the verdict is asked for as often as an item has tries, and handed on.
abbrev pub calls_in : ℕ → Phase → ℕ
calls_in tries Between = 0
calls_in tries Beginning = 0
calls_in tries (Evaluating run awaited) = 0
calls_in tries (Transforming run transform) = 0
calls_in tries (Evaluated transaction) = 0
calls_in tries (Drawn t transaction) = 0
calls_in tries (Preparing t transaction coordinator prepared) = count_of prepared + 2
calls_in tries (Asking sent answers) = (tries - answers) + (count_of sent.participants + 2)

-- what was sent, and how many answers had no verdict, where its verdict is asked for
abbrev pub asking_in : Phase → Option (Sent × ℕ)
asking_in Between = None
asking_in Beginning = None
asking_in (Evaluating run awaited) = None
asking_in (Transforming run transform) = None
asking_in (Evaluated transaction) = None
asking_in (Drawn t transaction) = None
asking_in (Preparing t transaction coordinator prepared) = None
asking_in (Asking sent answers) = Some (sent, answers)
