-- What becomes of the objects of a repository in its events, and what a page has that is sent.
use Rattle.log_entries.specs.declared.entry.Entry.{Entry}
use Rattle.mob_flusher.specs.Map.{Has, PageHas}
use Rattle.page_format.specs.Pages.{Contents, page_bytes}
use Rattle.repo_core.specs.Shown.{Shown, ShowsPages}
use Rattle.repo_durable.specs.Mapping.{MovesMap}
use Rattle.repo_sessions.specs.Sessions.{acknowledged, sent}
use Rattle.repo_state.specs.Entering.{loaded}
use Rattle.repo_state.specs.declared.held.Held.{Held}
use Rattle.session_outbox.specs.declared.message.Message.TheVariants.{Page}
use Rattle.std.specs.Prelude.{List, None, Option, Some, [], length, ℕ, ◌<◌, ◌≡◌}
use Rattle.thor_value.specs.declared.names.Oref.{Oref}
use Rattle.thor_value.specs.declared.values.Obj.{Obj}

-- The objects of a repository take these writes, where each of its disks tells its bytes, and where it isn't torn: a name has
-- what was written last under it, and else what it had.
abbrev pub ObjectsTake : List (Oref × Obj) → Shown → Shown → Type 0
ObjectsTake writes x y = MovesMap (ShowsPages x) y.is_torn writes x.pages x.held y.pages y.held

-- the writes of an entry that is taken, where one is
abbrev pub writes_in : Held → Option Entry → List (Oref × Obj)
writes_in h None = []
writes_in h (Some e) = loaded h e

-- A page is sent to a session, whose client knows what was written below upto: it has each object of the repository that lies
-- on it, and no other.
pub record SendsObjects (x : Shown) (s page upto : ℕ) (y : Shown) : Type 0 where
  pub image : Contents
  pub number : image.number ≡ page
  pub objects : (disk : List ℕ) → x.pages ≡ Some disk → (o : Oref) (answer : Option Obj) → o.repo ≡ x.held.repo → o.page ≡ page → o.slot < 12 → Has disk x.held.objects o answer → PageHas image o.slot answer
  pub sends : y.memory ≡ record x.memory { sessions = acknowledged (sent x.memory.sessions s page (Page page (page_bytes image) (length x.trace.history))) s upto }
