-- What a restart does to a repository, and the events of a repository.
use Rattle.cached_sets.specs.Noted.{most_noted}
use Rattle.log_entries.specs.declared.entry.Entry.TheVariants.{Life}
use Rattle.log_entries.specs.declared.entry.Entry.{Entry}
use Rattle.repo_state.specs.Entering.{entered}
use Rattle.repo_state.specs.declared.held.Held.{Held}
use Rattle.repo_sessions.specs.Sessions.{ended, no_sessions}
use Rattle.spec_history.specs.History.{Base}
use Rattle.law_repo_memory.specs.Coming.{BeginsLife}
use Rattle.law_repo_memory.specs.Running.{CanBegin, EarlierGo, ObjectsMove, Repository, held_with, recorded_with, requested_with}
use Rattle.law_repo_runs.specs.Happening.{EntryIsMade, GoesDown, MarkIsMade, MovesObjects, TakesNothing, WasMaking}
use Rattle.law_repo_runs.specs.Standing.{Down, Phase, Torn, Up}
use Rattle.spec_trace.specs.declared.mark.Mark.{Mark}
use Rattle.std.specs.Prelude.{List, None, Option, Some, [], true, ◌+◌, ◌∷◌, ◌≡◌, ◌⊎◌}
use Rattle.thor_value.specs.FiniteMap.{has}
use Rattle.thor_value.specs.declared.names.Ts.{Ts}
use Rattle.repo_trace.specs.Recorded.{nothing, with_entry}
use Rattle.two_phase.specs.Contents.{Contents}

-- what a restart may take beside what is held: the pending entry, or nothing. One that is torn takes nothing up
abbrev pub MayTake : Phase → Option Entry → Type 0
MayTake Up None = Unit {0}
MayTake Up (Some e) = ⊥
MayTake (Down pending) None = Unit {0}
MayTake (Down pending) (Some e) = pending ≡ Some e
MayTake Torn o = ⊥

-- The disks agree with what is held, or with that and the pending entry, which is taken then. Of the decisions that are
-- kept some of earlier runs go.
pub record Recovers (b : Base) (x : Repository) (p : Phase) (y : Repository) : Type 0 where
  pub taken : Option Entry
  pub may : MayTake p taken
  pub trace : y.trace ≡ recorded_with x.trace taken
  pub moved : Held
  pub moves : MovesObjects x.held moved
  pub table : Contents
  pub go : EarlierGo b (held_with moved taken).table table
  pub held : y.held ≡ record (held_with moved taken) { table = table }
  pub came : (t : Ts) → has (requested_with x.memory.requested taken) t ≡ true → has y.memory.requested t ≡ true
  pub last : y.memory.sessions.last ≡ x.memory.sessions.last

-- the Life that is written behind what was recovered
abbrev pub life_behind : Repository → Entry
life_behind x = Life (x.held.life + 1)

-- a life begins, and all sessions end
pub record LifeBegins (x y : Repository) : Type 0 where
  pub trace : y.trace ≡ with_entry x.trace (life_behind x)
  pub held : y.held ≡ entered x.held (life_behind x)
  pub memory : BeginsLife x.held x.memory y.memory
  pub sessions : y.memory.sessions ≡ ended x.memory.sessions

-- it comes up: behind what was recovered a life begins
pub record ComesUp (b : Base) (x : Repository) (p : Phase) (y : Repository) : Type 0 where
  pub between : Repository
  pub recovers : Recovers b x p between
  pub begins : LifeBegins between y

-- The Life behind what was recovered may be written or not.
pub record FailsBehind (b : Base) (x : Repository) (p : Phase) (y : Repository) (q : Phase) : Type 0 where
  pub between : Repository
  pub recovers : Recovers b x p between
  pub down : GoesDown between y
  pub phase : (q ≡ Down None) ⊎ (q ≡ Down (Some (life_behind between)))

-- what is pending behind a restart that has taken nothing: what was so, or nothing
abbrev pub StaysPending : Phase → Phase → Type 0
StaysPending Up q = q ≡ Down None
StaysPending (Down pending) q = (q ≡ Down None) ⊎ (q ≡ Down pending)
StaysPending Torn q = q ≡ Torn

-- it stays down, and nothing was taken
pub record TakesNone (x : Repository) (p : Phase) (y : Repository) (q : Phase) : Type 0 where
  pub down : GoesDown x y
  pub phase : StaysPending p q

-- some decisions of earlier runs are kept no longer
pub record Drops (b : Base) (x y : Repository) : Type 0 where
  pub trace : y.trace ≡ x.trace
  pub memory : y.memory ≡ x.memory
  pub table : Contents
  pub go : EarlierGo b x.held.table table
  pub held : y.held ≡ record x.held { table = table }

-- an event
pub data Event : Type 0 where
  -- an entry is made
  Makes : Entry → Event
  -- a mark is made
  Marks : Mark → Event
  -- a session takes no message, since none waits
  Waits : Event
  -- objects move
  Flushes : Event
  -- decisions of earlier runs go
  Checkpoint : Event
  -- a fault, with the entry that was being written, or a stop
  Fails : Option Entry → Event
  -- a fault behind which what is held is no state of the log
  Tears : Event
  -- a restart
  Restart : Event
  -- a restart that is refused
  RestartFails : Event

-- what it does
abbrev pub Does : Base → Repository → Phase → Event → Repository → Phase → Type 0
Does b x p (Makes e) y q = (p ≡ Up) × (q ≡ Up) × EntryIsMade b x e y
Does b x p (Marks m) y q = (p ≡ Up) × (q ≡ Up) × MarkIsMade b x m y
Does b x p Waits y q = (p ≡ Up) × (q ≡ Up) × TakesNothing x y
Does b x p Flushes y q = (p ≡ Up) × (q ≡ Up) × ObjectsMove x y
Does b x p Checkpoint y q = (p ≡ Up) × (q ≡ Up) × Drops b x y
Does b x p (Fails o) y q = (p ≡ Up) × ((q ≡ Down None) ⊎ (q ≡ Down o)) × WasMaking b x o × GoesDown x y
Does b x p Tears y q = (q ≡ Torn) × (y.trace ≡ x.trace)
Does b x p Restart y q = (q ≡ Up) × ComesUp b x p y
Does b x p RestartFails y q = TakesNone x p y q ⊎ FailsBehind b x p y q

-- a repository comes from another by some events, one behind the other
abbrev pub Runs : Base → Repository → Phase → List Event → Repository → Phase → Type 0
Runs b x p [] y q = (y ≡ x) × (q ≡ p)
Runs b x p (e ∷ es) y q = (z : Repository) × (s : Phase) × Does b x p e z s × Runs b z s es y q

-- A repository is opened where h was recovered: the Life of the opening is written, where no transaction has come and no
-- session has begun.
pub record Opens (b : Base) (x y : Repository) : Type 0 where
  pub silence : b.silence ≡ Some most_noted
  pub can : CanBegin b x.held
  pub trace : x.trace ≡ nothing
  pub sessions : x.memory.sessions ≡ no_sessions
  pub begins : LifeBegins x y
