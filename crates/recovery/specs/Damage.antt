-- What is damage of the logs of a repository.

use Rattle.std.specs.List.{fold}
use Rattle.std.specs.Option.{IfSome, option_and_then}
use Rattle.std.specs.Prelude.{IsTrue, List, None, Option, Some, false, length, map, min, slice_get, sum_by, take, ℕ, ◌+◌, ◌-◌, ◌<◌, ◌^◌, ◌≡◌, ◌≤◌, ◌⊎◌}
use Rattle.log_entries.specs.declared.entry.Entry.{Entry}
use Rattle.repo_state.specs.Entering.{can_enter}
use Rattle.repo_state.specs.Keeps.{Keeps}
use Rattle.repo_state.specs.Said.{said}
use Rattle.repo_state.specs.Unfit.{IsUnfit}
use Rattle.repo_state.specs.declared.held.Held.{Held}
use Rattle.log_codec.specs.Checkpoint.{state_format}
use Rattle.log_codec.specs.Format.{value_of}
use Rattle.log_codec.specs.Grammar.{body_format}
use Rattle.log_codec.specs.declared.body.Body.TheVariants.{Entry as AnEntry}
use Rattle.log_codec.specs.declared.body.Body.{Body}
use Rattle.log_codec.specs.declared.state.State.{State}
use Rattle.log_frame.specs.Log.{Opened, Stands}
use Rattle.page_format.specs.declared.format.StoreFormat.TheVariants.{Two}
use Rattle.commit_log.specs.Opening.{IsTorn}
use Rattle.commit_log.specs.Recovered.{in_format, is_whole, next, sequence_end, whole}

-- the place of the gate behind some records of a log with this head
abbrev pub gate_behind : ℕ → List (List ℕ) → ℕ
gate_behind first bodies = first + sum_by (λ body. 5 + length body) bodies

-- as it is told: places end with 64 bits
abbrev pub told_place : ℕ → ℕ
told_place place = min place (2 ^ 64 - 1)

-- the place of the first record's gate
abbrev pub first_gate : List ℕ → ℕ
first_gate head = 13 + length head

-- A record's body is none, and its gate is told to be at this place; those before it are bodies.
pub record IsNoBody (first : ℕ) (bodies : List (List ℕ)) (place : ℕ) : Type 0 where
  pub at : ℕ
  pub within : at < length bodies
  pub body : List ℕ
  pub is : slice_get bodies at ≡ Some body
  pub none : value_of body_format body ≡ None
  pub place_is : place ≡ told_place (gate_behind first (take at bodies))

-- the count of entries of a checkpoint
abbrev pub Counted : List ℕ → ℕ → Type 0
Counted head count = IfSome (value_of state_format head) (λ s. s.count ≡ count)

-- the state behind one record more, where it can come next
abbrev pub put_on : Option State → Body → Option State
put_on before body = option_and_then (λ s. next s body) before

-- A record can't be taken into memory behind a state: it is an entry that can't come next where those before it were taken.
pub record CantPut (before : Option State) (bodies : List Body) : Type 0 where
  pub at : ℕ
  pub held : Held
  pub entry : Entry
  pub keeps : Keeps held
  pub so_far : fold put_on before (take at bodies) ≡ Some (said held)
  pub is : slice_get bodies at ≡ Some (AnEntry entry)
  pub refused : can_enter held entry ≡ false

-- a checkpoint that no repository leaves
pub record IsBroken (s : State) : Type 0 where
  pub unfit : IsUnfit s
  pub not_whole : IsTrue (is_whole s) → ⊥

-- An open log can't be taken into memory, which has no format: its checkpoint is none that a repository leaves, or one of its
-- records can't come behind those before it.
pub record IsUnheld (o : Opened) : Type 0 where
  pub state : State
  pub head : value_of state_format o.head ≡ Some state
  pub bodies : List Body
  pub records : map (value_of body_format) o.bodies ≡ map Some bodies
  pub unfit : IsBroken (in_format Two state) ⊎ CantPut (whole (in_format Two state)) bodies

-- What is wrong at a place of an open log.
pub data Fault (o : Opened) (place : ℕ) : Type 0 where
  -- its sequence is too great
  NoSequence : sequence_end ≤ o.sequence → place ≡ 0 → Fault o place
  -- it begins with no checkpoint
  NoCheckpoint : value_of state_format o.head ≡ None → place ≡ 0 → Fault o place
  -- the body of a record is none
  NoBody : IsNoBody (told_place (first_gate o.head)) o.bodies place → Fault o place
  -- its records can't be taken into memory
  CantHold : IsUnheld o → place ≡ 0 → Fault o place

-- This log disk is damaged at a place: by its frame, or by what the log has that counts.
abbrev pub IsDamaged : (ℕ → List ℕ) → ℕ → ℕ → Type 0
IsDamaged images d place = IsTorn images d place ⊎ ((o : Opened) × (Stands (images d) o × Fault o place))
