-- A plain repository that may be out of order, what calls make of it, and several of them as a port (this project's).
use Rattle.log_entries.specs.declared.entry.Entry.{Entry}
use Rattle.spec_history.specs.History.{Base, is_life}
use Rattle.model_repository.specs.Reading.{added}
use Rattle.model_reading.specs.Items.{trace_of}
use Rattle.model_reading.specs.declared.item.Item as item
use Rattle.model_reading.specs.declared.item.Item.TheVariants as items
use Rattle.model_repository.specs.declared.site.Left.TheVariants as left
use Rattle.model_repository.specs.declared.site.Left.{Left}
use Rattle.model_repository.specs.declared.site.Site.{Site}
use Rattle.client_port.specs.Views.{Calm, Halted, MayCome, Unsettled, View}
use Rattle.client_port.specs.Works.{IsDown}
use Rattle.spec_trace.specs.Gaps.{maker}
use Rattle.spec_trace.specs.Trace.{E, Item}
use Rattle.std.specs.List.{slice_get}
use Rattle.std.specs.Prelude.{Bool, Err, List, None, Ok, Option, Result, Some, [], cond, false, length, nat_eq, true, ℕ, ◌++◌, ◌≡◌, ◌≢◌, ◌⊎◌}
use Rattle.thor_value.specs.declared.memory.NoMemory.{NoMemory}
use Rattle.repo_refusals.specs.declared.refusal.Refusal.TheVariants as refused
use Rattle.repo_refusals.specs.declared.refusal.Refusal.{Refusal}

-- what is unsettled of the client c: an entry that may come is that of the client whose call stopped
abbrev pub unsettled_of : ℕ → Left → Unsettled
unsettled_of c left.Up = Calm
unsettled_of c (left.Pending n e) = cond (nat_eq n c) (MayCome e) Halted
unsettled_of c left.Down = Halted

abbrev pub is_down : Left → Bool
is_down left.Up = false
is_down (left.Pending n e) = true
is_down left.Down = true

-- the trace of a repository
abbrev pub trace_in : Site → List Item
trace_in s = trace_of s.items.items

abbrev pub IfDown : Bool → Type 0 → Type 0 → Type 0
IfDown true down up = down
IfDown false down up = up

-- A call of the client c on the repository r, which began with b: where that is down it answers Down and stays as it is, else
-- it does its work.
abbrev pub SiteDoes : {X : Type 0} → ℕ → ℕ → Base → Site → Site → Result X Refusal → (Base → List Item → List Item → Unsettled → Type 0) → Type 0
SiteDoes c r b old new result work = IfDown (is_down old.left) (IsDown r result × (new ≡ old)) (work b (trace_in old) (trace_in new) (unsettled_of c new.left))

-- ---- what becomes of a step that was read

-- it is done
pub record IsDone {X : Type 0} (plan : Result (Result X Refusal × Option item.Item) NoMemory) (c : ℕ) (old new : Site) (result : Result X Refusal) : Type 0 where
  pub step : Result X Refusal × Option item.Item
  pub is : plan ≡ Ok step
  pub answer : result ≡ step.0
  pub trace : trace_in new ≡ trace_in old ++ added step.1
  pub up : unsettled_of c new.left ≡ Calm

-- there was no memory
pub record HasFailed {X : Type 0} (c : ℕ) (old new : Site) (result : Result X Refusal) : Type 0 where
  pub answer : result ≡ Err refused.NoMemory
  pub trace : trace_in new ≡ trace_in old
  pub down : unsettled_of c new.left ≡ Halted

-- the repository r was stopped while the entry e was being written
pub record HasStopped {X : Type 0} (plan : Result (Result X Refusal × Option item.Item) NoMemory) (c r : ℕ) (old new : Site) (result : Result X Refusal) : Type 0 where
  pub step : Result X Refusal × Option item.Item
  pub is : plan ≡ Ok step
  pub entry : Entry
  pub comes : step.1 ≡ Some (items.Entry entry)
  pub answer : result ≡ Err (refused.Stopped r)
  pub trace : trace_in new ≡ trace_in old
  pub left : unsettled_of c new.left ≡ MayCome entry

-- what becomes of a step of a call that writes no entry
abbrev pub IsPut : {X : Type 0} → Result (Result X Refusal × Option item.Item) NoMemory → ℕ → Site → Site → Result X Refusal → Type 0
IsPut plan c old new result = IsDone plan c old new result ⊎ HasFailed c old new result

-- of one that may write an entry
abbrev pub IsTaken : {X : Type 0} → Result (Result X Refusal × Option item.Item) NoMemory → ℕ → ℕ → Site → Site → Result X Refusal → Type 0
IsTaken plan c r old new result = IsPut plan c old new result ⊎ HasStopped plan c r old new result

-- ---- several repositories

abbrev pub trace_at : Option Site → List Item
trace_at None = []
trace_at (Some s) = trace_in s

-- a repository that isn't there is down
abbrev pub unsettled_at : ℕ → Option Site → Unsettled
unsettled_at c None = Halted
unsettled_at c (Some s) = unsettled_of c s.left

-- what the client c sees: all of each trace
abbrev pub view_of : (ℕ → Base) → ℕ → List Site → View
view_of bases c sites = record {
  opened = record { client = c; alone = true; repos = length sites; base = bases };
  seen = λ r. trace_at (slice_get sites r);
  unsettled = λ r. unsettled_at c (slice_get sites r);
}

-- ---- restarts

-- what may still come of an item that didn't find memory
abbrev pub back : ℕ → item.Item → Left
back c (items.Entry e) = left.Pending c e
back c (items.Mark m) = left.Down

-- an entry that may still come is no Life, and none of the client c's where another's call stopped
abbrev pub MayRecover : Base → ℕ → List Item → Left → Type 0
MayRecover b c T left.Up = Unit {0}
MayRecover b c T (left.Pending n e) = (is_life e ≡ false) × (nat_eq n c ≡ false → maker b T (E e) ≢ Some c)
MayRecover b c T left.Down = Unit {0}
