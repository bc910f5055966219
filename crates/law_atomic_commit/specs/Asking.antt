-- What coordinators answer who are asked about a transaction, and when they may forget a decision. What one answers by
-- its trace is `asked` of spec_trace. (Presumed abort, as by Mohan and others, 1986: what is neither undecided nor
-- kept was aborted.)
use Rattle.law_atomic_commit.specs.Several.{HasCommitted, Repositories, Several, histories, part}
use Rattle.spec_history.specs.History.{Aborted, IsCommitted, Known, State, state}
use Rattle.spec_history.specs.Participants.{takes_part}
use Rattle.spec_trace.specs.Calls.{Asked, Settled, Undecided, asked, is_forgotten, is_last_alone}
use Rattle.spec_trace.specs.Trace.{entries}
use Rattle.std.specs.Prelude.{None, Some, [], false, true, ℕ, ◌≡◌, ◌≢◌, ◌≤◌, ◌⊎◌}
use Rattle.thor_value.specs.FiniteMap.{get}
use Rattle.thor_value.specs.declared.names.Ts.{Ts}
use Rattle.two_phase.specs.declared.standing.Standing.TheVariants.{Committed, Open}
use Rattle.two_phase.specs.declared.standing.Standing.TheVariants as table
use Rattle.two_phase.specs.declared.standing.Standing.{Standing}

-- what a coordinator answers by its table
abbrev pub answer_by : Standing → Asked
answer_by Open = Undecided
answer_by Committed = Settled true
answer_by table.Aborted = Settled false

-- how the coordinator of t answers about it
abbrev pub coordinator_answer : Repositories → Ts → Asked
coordinator_answer R t = asked (R.base t.repo) (R.trace t.repo) t

-- the state of the coordinator of t
abbrev pub state_of : Repositories → Ts → State
state_of R t = state (R.base t.repo) (entries (R.trace t.repo))

-- t has committed at each of its participants
pub record IsFinished (S : Several) (t : Ts) : Type 0 where
  pub w : Known
  pub committed : HasCommitted S t w
  pub everywhere : (n : ℕ) → takes_part t.repo w.request n ≡ true → (o : Known) × (part S n t ≡ Some o) × IsCommitted o.fate

-- What is forgotten has committed at each of its participants.
abbrev pub ForgottenAreFinished : Repositories → Type 0
ForgottenAreFinished R = (r : ℕ) (t : Ts) → is_forgotten (R.trace r) t ≡ true → IsFinished (histories R) t

-- The last single commits that the repositories began with are of earlier lives of theirs.
abbrev pub SinglesWereBefore : Repositories → Type 0
SinglesWereBefore R = (r : ℕ) (t : Ts) → is_last_alone (R.base r) [] t ≡ true → t.life ≤ (R.base r).life

-- t committed with no other participant, and another transaction of its client has done so since
pub record IsFollowed (R : Repositories) (t : Ts) (w : Known) : Type 0 where
  pub alone : w.request.others ≡ []
  pub next : Ts
  pub last : get (state_of R t).alone w.request.who.client ≡ Some next
  pub other : next ≢ t

-- Why a transaction is told to be aborted: nothing of it came to its coordinator, it was aborted there, or it committed
-- and was forgotten, or committed alone and was followed.
abbrev pub IsGivenUp : Repositories → Ts → Type 0
IsGivenUp R t =
    (part (histories R) t.repo t ≡ None)
    ⊎ (((w : Known) × (part (histories R) t.repo t ≡ Some w) × (w.fate ≡ Aborted))
    ⊎ ((w : Known) × HasCommitted (histories R) t w × ((is_forgotten (R.trace t.repo) t ≡ true) ⊎ IsFollowed R t w)))
