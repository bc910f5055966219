-- What the disks of a repository stand for behind a run.
use Rattle.commit_log.specs.Recovered.{after, stands}
use Rattle.law_repo_memory.specs.Tables.{undecided_request}
use Rattle.log_codec.specs.declared.body.Body.TheVariants.{Entry as AnEntry}
use Rattle.log_codec.specs.declared.state.State.{State}
use Rattle.log_entries.specs.declared.entry.Entry.{Entry}
use Rattle.log_entries.specs.declared.request.Request.{Request}
use Rattle.repo_durable.specs.Remembering.{Remembers}
use Rattle.spec_history.specs.History.{Base, known_by, state}
use Rattle.spec_history.specs.Sound.{owes}
use Rattle.std.specs.Prelude.{List, Some, length, ℕ, ◌+◌, ◌≡◌, ◌⊎◌}
use Rattle.thor_value.specs.FiniteMap.{IsSorted, Map, get, values}
use Rattle.thor_value.specs.Names.{ts_cmp}
use Rattle.thor_value.specs.declared.names.Ts.{Ts}

-- These are the requests of the transactions that are undecided behind a history, by rising timestamp.
pub record AreUndecided (b : Base) (H : List Entry) (qs : List Request) : Type 0 where
  pub by_name : Map ts_cmp Request
  pub sorted : IsSorted by_name
  pub each : (t : Ts) → get by_name t ≡ undecided_request (known_by b H t)
  pub all : qs ≡ values by_name

-- The state of a log says what a history says. Of its objects and of the decisions that it keeps nothing is said.
pub record SaysOf (b : Base) (H : List Entry) (s : State) : Type 0 where
  pub repo : s.repo ≡ b.repo
  pub life : s.life ≡ (state b H).life
  pub count : s.count ≡ b.count + length H
  pub threshold : s.threshold ≡ (state b H).top
  pub upgrades : s.upgrades ≡ (state b H).texts
  pub alone : s.alone ≡ (state b H).alone.pairs
  pub prepared : AreUndecided b H s.prepared

-- It says what such a state comes to by one entry more, which owes nothing to the history.
pub record SaysMore (b : Base) (H : List Entry) (s : State) : Type 0 where
  pub before : State
  pub says : SaysOf b H before
  pub entry : Entry
  pub owes : owes b (state b H) entry
  pub comes : Remembers s (after before (AnEntry entry))

-- What these images of the disks stand for says what the history says, or that with one entry more.
pub record StandFor (b : Base) (H : List Entry) (images : ℕ → List ℕ) : Type 0 where
  pub stored : State
  pub stands : stands images ≡ Some stored
  pub says : SaysOf b H stored ⊎ SaysMore b H stored
