-- What was read of repositories, as the states for which their logs stand.
use Rattle.repo_state.specs.Keeps.{Keeps}
use Rattle.recovery.specs.Found.{recorded}
use Rattle.log_codec.specs.declared.state.State.{State}
use Rattle.repo_opening.specs.declared.repository.Read.{Read}
use Rattle.std.specs.List.{AllByRecursion}
use Rattle.std.specs.Prelude.{List, map}

-- the state for which the log of a repository stands that was read
abbrev pub state_of : Read → State
state_of r = recorded r.recovered.now

abbrev pub read_states : List Read → List State
read_states store = map state_of store

-- what is in memory of a repository is well kept
pub record IsKept (r : Read) : Type 0 where
  pub keeps : Keeps r.recovered.now.state

pub record AreKept (store : List Read) : Type 0 where
  pub each : AllByRecursion IsKept store
