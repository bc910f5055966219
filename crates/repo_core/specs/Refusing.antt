-- Why a call is refused, and what stands behind a refusal.
use Rattle.log_entries.specs.declared.entry.Entry.{Entry}
use Rattle.repo_sessions.specs.Sessions.{is_live, has_session}
use Rattle.page_format.specs.Pages.{Contents}
use Rattle.page_format.specs.Sides.{side_in_use}
use Rattle.page_store.specs.Objects.{Spells}
use Rattle.page_store.specs.Sides.{place_of, side_bytes}
use Rattle.base_reasons.specs.declared.reason.Reason.TheVariants.{Gone}
use Rattle.base_reasons.specs.declared.reason.Reason.{Reason}
use Rattle.repo_core.specs.Behind.{MovesObjects}
use Rattle.repo_core.specs.Shown.{Shown}
use Rattle.repo_durable.specs.Kept.{is_fault}
use Rattle.std.specs.Prelude.{List, None, Option, Some, false, true, ℕ, ◌≡◌, ◌⊎◌}
use Rattle.repo_refusals.specs.declared.refusal.Refusal.TheVariants as refused
use Rattle.repo_refusals.specs.declared.refusal.Refusal.{Refusal}
use Rattle.repo_volatile.specs.Volatile.{Memory, Outlasts}

-- Why the repository x refuses a call: with `Down` where it is down; where it is up, with a reason that stands against the call,
-- by a fault of a disk where the call comes to one, or for want of memory.
pub record CanRefuse (x : Shown) (Against : Refusal → Type 0) (CallsDisks : Type 0) (r : Refusal) : Type 0 where
  pub down : (n : ℕ) → r ≡ refused.Down n → (x.is_up ≡ false) × (n ≡ x.held.repo)
  pub reason : (q : Reason) → r ≡ refused.Reason q → (x.is_up ≡ true) × Against r
  pub stopped : (n : ℕ) → r ≡ refused.Stopped n → (x.is_up ≡ true) × CallsDisks × (n ≡ x.held.repo)
  pub damaged : (n place : ℕ) → r ≡ refused.Damaged n place → (x.is_up ≡ true) × CallsDisks × (n ≡ x.held.repo)
  pub memory : r ≡ refused.NoMemory → x.is_up ≡ true

-- the bytes of an installed page's side in use, at this place of the disk of pages, are no page of objects with its number
pub record IsPageDamage (x : Shown) (page place : ℕ) : Type 0 where
  pub side : ℕ
  pub in_use : side_in_use x.held.objects.pages.sides page ≡ Some side
  pub place_is : place ≡ place_of page side
  pub none : (disk : List ℕ) → x.pages ≡ Some disk → (found : Contents) → Spells (side_bytes disk page side) page found → ⊥

-- no reason stands against a call
abbrev pub HasNoReason : Refusal → Type 0
HasNoReason r = ⊥

-- a call of a session is refused since it isn't live
abbrev pub IsGone : Memory → ℕ → Refusal → Type 0
IsGone M s r = (r ≡ refused.Reason (Gone s)) × (is_live M.sessions s ≡ false)

-- a decision of a session is refused since it has ended
abbrev pub IsEnded : Memory → ℕ → Refusal → Type 0
IsEnded M s r = (r ≡ refused.Reason (Gone s)) × (has_session M.sessions s ≡ false)

-- objects moved, and the buffer's limit stays
pub record Moved (old new : Shown) : Type 0 where
  pub objects : MovesObjects old.held new.held
  pub limit : new.held.objects.mob.limit ≡ old.held.objects.mob.limit

-- A fault of a call that may have been writing an entry: objects may have moved, and the entry is pending or none is. Where
-- the repository is torn, nothing is said of what is held.
pub record GoesDown (old new : Shown) (entry : Option Entry) : Type 0 where
  pub was_up : old.is_up ≡ true
  pub held : new.is_torn ≡ false → Moved old new
  pub memory : Outlasts old.memory new.memory
  pub pending : new.is_torn ≡ false → (new.pending ≡ None) ⊎ (new.pending ≡ entry)

-- nothing has changed but the trace and the clock, of which calls have clauses of their own
pub record StaysAsWas (old new : Shown) : Type 0 where
  pub held : new.held ≡ old.held
  pub memory : new.memory ≡ old.memory
  pub pending : new.pending ≡ old.pending
  pub torn : new.is_torn ≡ old.is_torn
  pub logs : new.logs ≡ old.logs
  pub pages : new.pages ≡ old.pages

-- What a refusal of a call leaves that may have been writing an entry. The trace has clauses of its own.
pub record Leaves (old new : Shown) (entry : Option Entry) (r : Refusal) : Type 0 where
  pub fault : is_fault r ≡ true → GoesDown old new entry
  pub other : is_fault r ≡ false → StaysAsWas old new

-- the entry of a call, where nothing stood against it
abbrev pub made_of : Option Refusal → Entry → Option Entry
made_of None e = Some e
made_of (Some r) e = None

-- What is pending behind a refusal of a call that writes no entry.
pub record Rests (old new : Shown) (r : Refusal) : Type 0 where
  pub fault : is_fault r ≡ true → (old.is_up ≡ true) × (new.pending ≡ None) × (new.is_torn ≡ false)
  pub other : is_fault r ≡ false → StaysAsWas old new
