-- When a repository is damaged (this project's): by its logs, by a page that they say to be installed, or since its checkpoint is another
-- repository's. Which of these is told: a page before a log that can't be taken into memory.
use Rattle.commit_log.specs.Recovered.{log_in, sequence_end, stands}
use Rattle.disk_trait.specs.Disks.{Disks, Rose}
use Rattle.log_codec.specs.Checkpoint.{state_format}
use Rattle.log_codec.specs.Format.{value_of}
use Rattle.log_codec.specs.Grammar.{body_format}
use Rattle.log_codec.specs.declared.body.Body.TheVariants.{Entry as AnEntry, Installed}
use Rattle.log_codec.specs.declared.body.Body.{Body}
use Rattle.log_codec.specs.declared.state.State.{State}
use Rattle.log_frame.specs.Log.{Opened, Stands}
use Rattle.page_format.specs.declared.format.StoreFormat.{StoreFormat}
use Rattle.page_store.specs.Sides.{place_in}
use Rattle.recovery.specs.Damage.{IsDamaged}
use Rattle.recovery.specs.Paged.{AreObjectPages, HasSide, IsOnSide}
use Rattle.recovery.specs.Reopening.{reopens}
use Rattle.std.specs.BTreeMap.{insert_entry}
use Rattle.std.specs.List.{fold}
use Rattle.std.specs.Option.{IfSome, option_and_then, option_map}
use Rattle.std.specs.Ordering.{nat_cmp}
use Rattle.std.specs.Prelude.{List, None, Option, Some, cond, nat_lt, slice_get, take, true, ℕ, ◌<◌, ◌≡◌, ◌≢◌, ◌⊎◌}
use Rattle.thor_value.specs.declared.names.Oref.{Oref}
use Rattle.thor_value.specs.declared.values.Obj.{Obj}

-- ---- what a log says of pages

-- pages with their sides in use
abbrev pub Installs : Type 0
Installs = List (ℕ × ℕ)

-- those behind one record more
abbrev pub side_put : Installs → Body → Installs
side_put sides (AnEntry e) = sides
side_put sides (Installed page side) = insert_entry nat_cmp sides page side

-- none where the record's body is none
abbrev pub sides_behind : Option Installs → List ℕ → Option Installs
sides_behind before body = option_and_then (λ sides. option_map (side_put sides) (value_of body_format body)) before

-- those behind the records of a log with this checkpoint, with the format of the store
abbrev pub sides_in : List (List ℕ) → State → Option (StoreFormat × Installs)
sides_in bodies s = option_map (λ sides. (s.format, sides)) (fold sides_behind (Some s.installed) bodies)

-- The installed pages that a log says, whether it can be taken into memory or not. None where its sequence is too great, or its
-- checkpoint or a body is none.
abbrev pub said_sides : Opened → Option (StoreFormat × Installs)
said_sides o = cond (nat_lt o.sequence sequence_end) (option_and_then (sides_in o.bodies) (value_of state_format o.head)) None

-- those that the log says that counts on these disks
abbrev pub said_pages : (ℕ → List ℕ) → Option (StoreFormat × Installs)
said_pages images = option_and_then said_sides (log_in images)

-- ---- pages

-- these pages are pages of objects
abbrev pub HasPages : ℕ → List ℕ → Option (StoreFormat × Installs) → Type 0
HasPages repo disk said = IfSome said (λ p. AreObjectPages p.0 repo p.1 disk)

-- The side of this page that is in use isn't one: the disk ends before its end, or its bytes are no page of objects with its number.
abbrev pub IsNoSide : StoreFormat → ℕ → List ℕ → ℕ × ℕ → Type 0
IsNoSide format repo disk installed = (HasSide format disk installed → ⊥) ⊎ ((objects : List (Oref × Obj)) → IsOnSide format repo disk installed objects → ⊥)

-- The first of these pages that isn't one stands at this place of the disk.
pub record IsNoPage (format : StoreFormat) (repo : ℕ) (disk : List ℕ) (sides : Installs) (place : ℕ) : Type 0 where
  pub at : ℕ
  pub page : ℕ × ℕ
  pub is : slice_get sides at ≡ Some page
  pub before : AreObjectPages format repo (take at sides) disk
  pub none : IsNoSide format repo disk page
  pub place_is : place ≡ place_in format page.0 page.1

abbrev pub LacksPage : ℕ → List ℕ → ℕ → Option (StoreFormat × Installs) → Type 0
LacksPage repo disk place None = ⊥
LacksPage repo disk place (Some said) = IsNoPage said.0 repo disk said.1 place

-- ---- repositories

-- the logs stand for no state, by what is wrong at this place
pub record AreNoLogs (images : ℕ → List ℕ) (d place : ℕ) : Type 0 where
  pub at : IsDamaged images d place
  pub none : stands images ≡ None

-- A log on this disk counts, whose state is of another repository or of a store of another size, or whose records prepare what is
-- kept as decided.
pub record IsOther (repo repos : ℕ) (images : ℕ → List ℕ) (d : ℕ) : Type 0 where
  pub log : Opened
  pub counts : log_in images ≡ Some log
  pub on : Stands (images d) log
  pub state : State
  pub is : stands images ≡ Some state
  pub other : (state.repo ≢ repo) ⊎ (state.repos ≢ repos) ⊎ (reopens images ≡ true)

-- What is wrong at a place of a disk of a repository, the one with this number of so many. A page is told before a log that can't be
-- taken into memory, and before a checkpoint of another repository.
pub data IsUnsound (repo repos : ℕ) (images : ℕ → List ℕ) (d place : ℕ) : Type 0 where
  -- the logs are none that a repository leaves, and each page that they say to be installed is one
  OfLogs : AreNoLogs images d place → HasPages repo (images 2) (said_pages images) → IsUnsound repo repos images d place
  -- a page isn't one
  OfPage : d ≡ 2 → LacksPage repo (images 2) place (said_pages images) → IsUnsound repo repos images d place
  -- the checkpoint is another repository's, and each page is one
  OfOther : IsOther repo repos images d → place ≡ 0 → HasPages repo (images 2) (said_pages images) → IsUnsound repo repos images d place

-- a disk of a repository failed: its count of faults rose
pub record Failing (old new : Disks) : Type 0 where
  pub disk : ℕ
  pub within : disk < 3
  pub rose : Rose (old.faults disk) (new.faults disk)
