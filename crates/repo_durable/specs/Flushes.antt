-- What a flush leaves to be put in use, and what it takes out of the buffer.
use Rattle.repo_state.specs.declared.held.Held.{Held}
use Rattle.mob_buffer.specs.Buffer.{Objects, without_page}
use Rattle.mob_flusher.specs.Images.{IsFlushed}
use Rattle.mob_flusher.specs.declared.store.Flushed.TheVariants.{Installed, Nothing}
use Rattle.mob_flusher.specs.declared.store.Flushed.{Flushed}
use Rattle.std.specs.Option.{IfSome}
use Rattle.std.specs.Prelude.{List, [], slice_get, ℕ, ◌∷◌, ◌≡◌}

-- the page that was flushed stands on its side, and isn't in use yet
abbrev pub IsLastFlush : Held → Flushed → Type 0
IsLastFlush held (Installed page side) = (repo : ℕ) × IsFlushed held.objects repo page side
IsLastFlush held Nothing = Unit {0}

-- of the buffered objects those of other pages stay
abbrev pub left_by : Objects → Flushed → Objects
left_by objects (Installed page side) = without_page objects page
left_by objects Nothing = objects

-- the page is that of the oldest object, and there is none where nothing was buffered
abbrev pub IsOldest : Objects → Flushed → Type 0
IsOldest objects (Installed page side) = IfSome (slice_get objects 0) (λ q. q.0.page ≡ page)
IsOldest objects Nothing = objects ≡ []

-- these flushes, one behind the other, led from one list of buffered objects to another
abbrev pub AreFlushes : List Flushed → Objects → Objects → Type 0
AreFlushes [] old new = new ≡ old
AreFlushes (f ∷ fs) old new = IsOldest old f × AreFlushes fs (left_by old f) new

-- some flushes did so
pub record HasFlushed (old new : Objects) : Type 0 where
  pub flushes : List Flushed
  pub are : AreFlushes flushes old new
