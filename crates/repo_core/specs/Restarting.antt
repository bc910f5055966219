-- What a restart makes of a repository.
use Rattle.class_defs.specs.declared.store.Setup.{Setup}
use Rattle.log_entries.specs.declared.entry.Entry.TheVariants.{Life}
use Rattle.log_entries.specs.declared.entry.Entry.{Entry}
use Rattle.repo_state.specs.Entering.{entered}
use Rattle.repo_state.specs.declared.held.Held.{Held}
use Rattle.repo_sessions.specs.Sessions.{ended, no_sessions}
use Rattle.repo_core.specs.Behind.{MovesObjects}
use Rattle.repo_core.specs.Objects.{ObjectsTake, writes_in}
use Rattle.repo_core.specs.Refusing.{GoesDown, Moved}
use Rattle.repo_core.specs.Shown.{Shown}
use Rattle.law_repo_memory.specs.Coming.{BeginsLife}
use Rattle.law_repo_memory.specs.Running.{held_with, recorded_with, requested_with}
use Rattle.std.specs.Option.{IfSome}
use Rattle.std.specs.Prelude.{List, None, Option, Some, [], false, suc, zero, ℕ, ◌+◌, ◌<◌, ◌≡◌, ◌≤◌, ◌⊎◌}
use Rattle.repo_format.specs.Fresh.{IsFresh}
use Rattle.thor_value.specs.FiniteMap.{IsSorted, empty, get}
use Rattle.thor_value.specs.declared.names.Ts.{Ts}
use Rattle.repo_trace.specs.Recorded.{with_entry}
use Rattle.two_phase.specs.Contents.{Contents, keeps, open_at}
use Rattle.validation_queue.specs.Contents.{cleared}
use Rattle.repo_volatile.specs.Volatile.{Memory, Outlasts}

-- The disks agree with what is held, or with that and the entry that was pending: this one is taken. The transactions that
-- came count as such, that of the entry among them.
pub record Takes (old new : Shown) : Type 0 where
  pub taken : Option Entry
  pub was : IfSome taken (λ e. (old.is_up ≡ false) × (old.pending ≡ Some e))
  pub whole : old.is_torn ≡ false
  pub moved : Held
  pub moves : MovesObjects old.held moved
  pub held : new.held ≡ held_with moved taken
  pub trace : new.trace ≡ recorded_with old.trace taken
  pub requested : new.memory.requested ≡ requested_with old.memory.requested taken
  pub sessions : new.memory.sessions ≡ old.memory.sessions
  pub limit : new.held.objects.mob.limit ≡ old.held.objects.mob.limit
  pub objects : ObjectsTake (writes_in old.held taken) old new

-- Of the decisions that are kept those of lives before this one may go.
pub record LetsGo (life : ℕ) (old new : Contents) : Type 0 where
  pub sorted : IsSorted old.transactions → IsSorted new.transactions
  pub same : IsSorted old.transactions → (t : Ts) → open_at new t ≡ open_at old t
  pub kept : IsSorted old.transactions → (t : Ts) → life ≤ t.life → keeps (get new.transactions t) ≡ keeps (get old.transactions t)
  pub alone : new.alone ≡ old.alone

-- the same of what is held: those go that were made before the life in which the repository was opened
pub record DropsEarlier (old new : Shown) : Type 0 where
  pub held : new.held ≡ record old.held { table = new.held.table }
  pub go : LetsGo old.opened_in old.held.table new.held.table

-- what is taken, without some decisions of earlier runs
pub record Recovers (old new : Shown) : Type 0 where
  pub taking : Shown
  pub takes : Takes old taking
  pub opened : taking.opened_in ≡ old.opened_in
  pub drops : DropsEarlier taking new
  pub memory : new.memory ≡ taking.memory
  pub trace : new.trace ≡ taking.trace

-- the Life that is written behind what was recovered
abbrev pub life_behind : Shown → Entry
life_behind x = Life (x.held.life + 1)

-- the bytes of each disk, where they are told
abbrev pub content_of : Shown → ℕ → Option (List ℕ)
content_of x zero = x.logs.0
content_of x (suc zero) = x.logs.1
content_of x (suc (suc n)) = x.pages

-- every disk tells its bytes
abbrev pub AllTold : Shown → Type 0
AllTold x = (d : ℕ) → d < 3 → (bytes : List ℕ) × (content_of x d ≡ Some bytes)

-- It comes up: behind what was recovered a life begins.
pub record ComesUp (old new : Shown) : Type 0 where
  pub between : Shown
  pub recovers : Recovers old between
  pub held : new.held ≡ entered between.held (life_behind between)
  pub memory : BeginsLife between.held between.memory new.memory
  pub trace : new.trace ≡ with_entry between.trace (life_behind between)
  pub objects : ObjectsTake (writes_in old.held recovers.takes.taken) old new

-- nothing was taken
pub record TakesNone (old new : Shown) : Type 0 where
  pub torn : new.is_torn ≡ false → old.is_torn ≡ false
  pub held : new.is_torn ≡ false → Moved old new
  pub memory : Outlasts old.memory new.memory
  pub pending : new.is_torn ≡ false → (new.pending ≡ None) ⊎ ((old.is_up ≡ false) × (new.pending ≡ old.pending))
  pub trace : new.trace ≡ old.trace
  pub objects : ObjectsTake [] old new

-- the Life behind what was recovered wasn't written, or wasn't taken
pub record FailsBehind (old new : Shown) : Type 0 where
  pub between : Shown
  pub recovers : Recovers old between
  pub falls : GoesDown between new (Some (life_behind between))
  pub trace : new.trace ≡ between.trace
  pub objects : ObjectsTake (writes_in old.held recovers.takes.taken) old new

-- it stays down
abbrev pub StaysDown : Shown → Shown → Type 0
StaysDown old new = TakesNone old new ⊎ FailsBehind old new

-- no transaction came above this threshold, and no session has begun
abbrev pub memory_at : Ts → Memory
memory_at t = record { queue = cleared t; sessions = no_sessions; requested = empty; drawn = t.time }

-- The repository x is behind the Life of its opening, where h was recovered: no transaction has come, and no session has
-- begun.
pub record Begins (h : Held) (x : Shown) : Type 0 where
  pub opened : x.opened_in ≡ h.life + 1
  pub held : x.held ≡ entered h (Life (h.life + 1))
  pub memory : BeginsLife h (memory_at h.threshold) x.memory
  pub sessions : x.memory.sessions ≡ ended no_sessions

-- The repository x of a new store, with its buffer of so many bytes, is behind its first Life: what is held before it is that
-- of a new store, with these roots.
pub record IsNew (repo repos : ℕ) (setup : Setup) (mob : ℕ) (x : Shown) : Type 0 where
  pub fresh : Held
  pub is : IsFresh repo repos setup mob fresh
  pub begins : Begins fresh x
