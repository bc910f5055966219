-- What of a repository outlives a crash, and what holds of it while it is up.
use Rattle.log_entries.specs.declared.entry.Entry.{Entry}
use Rattle.disk_trait.specs.Disks.{Disks, WhereTold}
use Rattle.disk_trait.specs.Fused.{fused_disks}
use Rattle.disk_trait.specs.declared.fused.Fused.{Fused}
use Rattle.repo_state.specs.Entering.{can_enter}
use Rattle.repo_state.specs.Keeps.{Keeps}
use Rattle.repo_state.specs.declared.held.Held.{Held}
use Rattle.log_codec.specs.Grammar.{BodyFits}
use Rattle.log_codec.specs.declared.body.Body.TheVariants.{Entry as AnEntry}
use Rattle.log_codec.specs.declared.state.State.{State}
use Rattle.log_frame.specs.Log.{Place}
use Rattle.page_store.specs.Store.{Agrees}
use Rattle.repo_durable.specs.declared.stable.Phase.TheVariants.{Down, Torn, Up}
use Rattle.repo_durable.specs.declared.stable.Phase.{Phase}
use Rattle.repo_durable.specs.declared.stable.Stable.{Stable}
use Rattle.commit_log.specs.Holds.{Holds}
use Rattle.std.specs.Option.{IfSome}
use Rattle.std.specs.Prelude.{Bool, IsTrue, None, Option, Some, false, true, ℕ, ◌≡◌}
use Rattle.repo_refusals.specs.declared.refusal.Refusal.TheVariants as refused
use Rattle.repo_refusals.specs.declared.refusal.Refusal.{Refusal}

-- The log of these disks holds a state of this repository, and the pages that are held in memory are those of the disk of
-- pages.
pub record IsOpen (disks : Disks) (log : Place) (held : Held) : Type 0 where
  pub state : State
  pub holds : Holds disks log state
  pub repo : state.repo ≡ held.repo
  pub pages : WhereTold disks 2 (Agrees held.objects.pages)
  pub keeps : Keeps held

-- what is held is that of a repository, and the pending entry has a spelling and can come next
pub record IsResting (held : Held) (pending : Option Entry) : Type 0 where
  pub keeps : Keeps held
  pub fits : IfSome pending (λ e. BodyFits (AnEntry e))
  pub takes : IfSome pending (λ e. IsTrue (can_enter held e))

abbrev pub IsOpenIn : Disks → Held → Phase → Type 0
IsOpenIn disks held (Up log) = IsOpen disks log held
IsOpenIn disks held (Down pending) = IsResting held pending
IsOpenIn disks held (Torn entry) = Unit {0}

-- its disks, with the falls of its stop counted as faults
abbrev pub disks_of : {P : Type 0} → (P → Disks) → Stable P → Disks
disks_of disks store = fused_disks disks store.parts

-- While it is up it is consistent with its disks.
pub record IsKept {P : Type 0} (disks : P → Disks) (store : Stable P) : Type 0 where
  pub stands : IsOpenIn (disks_of disks store) store.held store.phase

-- its parts
abbrev pub parts_in : {P : Type 0} → Stable P → Fused P
parts_in store = store.parts

-- what is held in memory
abbrev pub held_of : {P : Type 0} → Stable P → Held
held_of store = store.held

abbrev pub is_up_in : Phase → Bool
is_up_in (Up log) = true
is_up_in (Down pending) = false
is_up_in (Torn entry) = false

-- whether it is up
abbrev pub is_up : {P : Type 0} → Stable P → Bool
is_up store = is_up_in store.phase

abbrev pub pending_in : Phase → Option Entry
pending_in (Up log) = None
pending_in (Down pending) = pending
pending_in (Torn entry) = Some entry

-- the entry that was being written when it went down
abbrev pub pending : {P : Type 0} → Stable P → Option Entry
pending store = pending_in store.phase

abbrev pub is_torn_in : Phase → Bool
is_torn_in (Up log) = false
is_torn_in (Down pending) = false
is_torn_in (Torn entry) = true

-- whether what is held is no state of its log, so that it doesn't come up again
abbrev pub is_torn : {P : Type 0} → Stable P → Bool
is_torn store = is_torn_in store.phase

-- it isn't torn, and this entry is pending
pub record RestsWith {P : Type 0} (entry : Option Entry) (store : Stable P) : Type 0 where
  pub pending : pending store ≡ entry
  pub whole : is_torn store ≡ false

abbrev pub lowered : Phase → Phase
lowered (Up log) = Down None
lowered (Down pending) = Down pending
lowered (Torn entry) = Torn entry

-- down, with what was pending
abbrev pub down : {P : Type 0} → Stable P → Stable P
down store = record store { phase = lowered store.phase }

-- down, with this entry pending
abbrev pub down_with : {P : Type 0} → Stable P → Option Entry → Stable P
down_with store entry = record store { phase = Down entry }

-- down, with an entry that couldn't be entered
abbrev pub torn : {P : Type 0} → Stable P → Entry → Stable P
torn store entry = record store { phase = Torn entry }

-- it was up, and is down with this entry pending
pub record IsFallen {P : Type 0} (old new : Stable P) (entry : Option Entry) : Type 0 where
  pub was_up : is_up old ≡ true
  pub phase : new.phase ≡ Down entry

-- What stands after a refusal of a call that may have been writing an entry. One that was down is as it was.
abbrev pub StandsAfter : {P : Type 0} → Stable P → Stable P → Option Entry → Refusal → Type 0
StandsAfter old new entry (refused.Down r) = (is_up old ≡ false) × (new ≡ old)
StandsAfter old new entry (refused.Stopped r) = IsFallen old new entry
StandsAfter old new entry (refused.Damaged r k) = IsFallen old new entry
StandsAfter old new entry refused.NoMemory = IsFallen old new entry
StandsAfter old new entry (refused.Reason r) = ⊥

-- a refusal after which a repository is down
abbrev pub is_fault : Refusal → Bool
is_fault (refused.Stopped r) = true
is_fault (refused.Damaged r k) = true
is_fault refused.NoMemory = true
is_fault (refused.Down r) = false
is_fault (refused.Reason r) = false

-- the repository that a refusal names; this one, where it names none
abbrev pub repo_named : ℕ → Refusal → ℕ
repo_named repo (refused.Down r) = r
repo_named repo (refused.Stopped r) = r
repo_named repo (refused.Damaged r k) = r
repo_named repo refused.NoMemory = repo
repo_named repo (refused.Reason r) = repo

-- it was up and is so
pub record GoesOnUp {P : Type 0} (old new : Stable P) : Type 0 where
  pub was_up : is_up old ≡ true
  pub stays_up : is_up new ≡ true
