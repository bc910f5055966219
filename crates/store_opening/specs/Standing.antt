-- The repositories of a store as they are checked, with what their prepared transactions come to.
use Rattle.std.specs.List.{AllByRecursion}
use Rattle.std.specs.Prelude.{List, map, ◌≡◌}
use Rattle.repo_opening.specs.declared.repository.Read.{Read}
use Rattle.store_opening.specs.Fitting.{Member, members_from, threshold_of}
use Rattle.store_opening.specs.Joined.{IsKept, read_states, state_of}
use Rattle.store_opening.specs.OpenedStore.{upgrades_of}
use Rattle.store_opening.specs.declared.standing.Stands.{Stands}

abbrev pub member_of : Stands → Member
member_of one = record { number = one.repo; state = state_of one.read.now }

abbrev pub members_of : List Stands → List Member
members_of standing = map member_of standing

-- what is noted of a repository is what its prepared transactions come to
pub record IsStanding (store : List Read) (one : Stands) : Type 0 where
  pub kept : IsKept one.read.now
  pub upgrades : one.settled.upgrades ≡ upgrades_of (read_states store) (state_of one.read.now)
  pub threshold : one.settled.threshold ≡ threshold_of (read_states store) (state_of one.read.now)

-- they are all repositories of the store
pub record AreStanding (store : List Read) (standing : List Stands) : Type 0 where
  pub members : members_of standing ≡ members_from 0 (read_states store)
  pub each : AllByRecursion (IsStanding store) standing

-- two repositories have the same text of classes and the same texts of upgrades
pub record HaveSameTexts (one other : Stands) : Type 0 where
  pub classes : one.read.now.recovered.now.state.classes ≡ other.read.now.recovered.now.state.classes
  pub upgrades : one.settled.upgrades ≡ other.settled.upgrades
