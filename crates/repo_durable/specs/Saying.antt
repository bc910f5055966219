-- What the disks of a repository say of what it holds, where every disk tells its bytes.
use Rattle.log_entries.specs.declared.entry.Entry.{Entry}
use Rattle.disk_trait.specs.AllDisks.{MayLeaveAll, ReadsAs, TellsAll}
use Rattle.disk_trait.specs.Disks.{Disks, WhereTold}
use Rattle.repo_state.specs.Said.{said}
use Rattle.repo_state.specs.declared.held.Held.{Held}
use Rattle.log_codec.specs.declared.body.Body.TheVariants.{Entry as AnEntry, Installed}
use Rattle.log_codec.specs.declared.state.State.{State}
use Rattle.log_frame.specs.Log.{Place}
use Rattle.mob_flusher.specs.Images.{IsFlushed}
use Rattle.page_store.specs.Sides.{KeepsSides, ReachesSides}
use Rattle.page_store.specs.Store.{Agrees}
use Rattle.repo_durable.specs.Kept.{disks_of}
use Rattle.repo_durable.specs.Pages.{AreOrPages}
use Rattle.repo_durable.specs.Remembering.{Remembers}
use Rattle.repo_durable.specs.declared.recovering.Taken.TheVariants as taken
use Rattle.repo_durable.specs.declared.recovering.Taken.{Taken}
use Rattle.repo_durable.specs.declared.stable.Phase.TheVariants.{Down, Torn, Up}
use Rattle.repo_durable.specs.declared.stable.Phase.{Phase}
use Rattle.repo_durable.specs.declared.stable.Stable.{Stable}
use Rattle.commit_log.specs.Holds.{Holds}
use Rattle.commit_log.specs.Recovered.{after, stands}
use Rattle.std.specs.Prelude.{List, None, Option, Some, ℕ, ◌≡◌, ◌⊎◌}

-- the state of a log says what is held, with that page in use which was flushed last: its other side, on this image of the
-- disk of pages, has all its objects
pub record IsInstalling (h : Held) (s : State) (image : List ℕ) : Type 0 where
  pub page : ℕ
  pub side : ℕ
  pub repo : ℕ
  pub flushed : IsFlushed h.objects repo page side
  pub agrees : Agrees h.objects.pages image
  pub says : Remembers s (after (said h) (Installed page side))

-- it says what is held, or that with the entry that was being written
abbrev pub IsOneOf : Held → Option Entry → State → List ℕ → Type 0
IsOneOf h None s image = Remembers s (said h) ⊎ IsInstalling h s image
IsOneOf h (Some e) s image = Remembers s (said h) ⊎ Remembers s (after (said h) (AnEntry e))

-- So does what images of the disks stand for. The image of the disk of pages reaches each side in use, and this is one of those
-- that are held in use, or a page of objects.
pub record SayOneOf (h : Held) (pending : Option Entry) (images : ℕ → List ℕ) : Type 0 where
  pub state : State
  pub stands : stands images ≡ Some state
  pub says : IsOneOf h pending state (images 2)
  pub reaches : ReachesSides state.installed (images 2)
  pub spells : AreOrPages h.objects.pages.sides state.installed (images 2)

-- Each image that a crash of the disks now may leave says what is held, or that with the pending entry. That of the disk of
-- pages has the sides that are held in use as a read gives them.
pub record ImagesSay (disks : Disks) (h : Held) (pending : Option Entry) : Type 0 where
  pub each : TellsAll disks → (images : ℕ → List ℕ) → MayLeaveAll disks disks.time images → SayOneOf h pending images
  pub keeps : TellsAll disks → (images : ℕ → List ℕ) → MayLeaveAll disks disks.time images → WhereTold disks 2 (λ disk. KeepsSides h.objects.pages.sides disk (images 2))

-- the open log says this state
pub record LogSays (disks : Disks) (log : Place) (a : State) : Type 0 where
  pub state : State
  pub holds : Holds disks log state
  pub says : TellsAll disks → Remembers state a

abbrev pub SaysIn : Disks → Held → Phase → Type 0
SaysIn disks h (Up log) = LogSays disks log (said h)
SaysIn disks h (Down pending) = ImagesSay disks h pending
SaysIn disks h (Torn e) = Unit {0}

-- Its disks say what it holds, or that with the pending entry; of one that is torn nothing is said.
pub record IsSaid {P : Type 0} (disks : P → Disks) (store : Stable P) : Type 0 where
  pub says : SaysIn (disks_of disks store) store.held store.phase

abbrev pub IsAheadIn : Disks → Held → Entry → Phase → Type 0
IsAheadIn disks h e (Up log) = LogSays disks log (after (said h) (AnEntry e))
IsAheadIn disks h e (Down pending) = ⊥
IsAheadIn disks h e (Torn f) = ⊥

-- it is up, and its log has an entry that is still to be entered
pub record IsAhead {P : Type 0} (disks : P → Disks) (store : Stable P) (e : Entry) : Type 0 where
  pub ahead : IsAheadIn (disks_of disks store) store.held e store.phase

-- it came up so
abbrev pub SaysTaken : {P : Type 0} → (P → Disks) → Stable P → Taken → Type 0
SaysTaken disks store taken.Held = IsSaid disks store
SaysTaken disks store (taken.Pending e) = IsAhead disks store e

-- a crash leaves nothing that it couldn't have left before
pub record LeavesNoMore (old new : Disks) : Type 0 where
  pub images : (images : ℕ → List ℕ) → MayLeaveAll new new.time images → MayLeaveAll old old.time images
  pub tells : TellsAll new → TellsAll old
  pub goes_on : TellsAll old → TellsAll new

-- what a read gives is one of the choices that a crash could have left before
abbrev pub ReadIsLeft : Disks → Disks → Type 0
ReadIsLeft old new = (bytes : ℕ → List ℕ) → ReadsAs new bytes → MayLeaveAll old old.time bytes

-- one of the states that the disks may have said is found
abbrev pub FindsOneOf : Disks → Disks → Held → State → Type 0
FindsOneOf old new h s = (pending : Option Entry) → ImagesSay old h pending → TellsAll new → WhereTold new 2 (IsOneOf h pending s)
