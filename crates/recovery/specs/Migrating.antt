-- What a migration makes of a repository of the older format (this project's).
use Rattle.commit_log.specs.Holds.{Says}
use Rattle.commit_log.specs.Values.{migrated}
use Rattle.disk_trait.specs.Disks.{Disks, WhereTold}
use Rattle.log_codec.specs.declared.state.State.{State}
use Rattle.page_format.specs.declared.format.StoreFormat.{StoreFormat}
use Rattle.page_format.specs.declared.format.StoreFormat.TheVariants.{One, Two}
use Rattle.recovery.specs.Paged.{AreOnPage, ArePaged, IsOnSide}
use Rattle.std.specs.Prelude.{List, ℕ, ◌++◌, ◌<◌, ◌≡◌, ◌≤◌, ◌⊎◌}
use Rattle.thor_value.specs.declared.names.Oref.{Oref}
use Rattle.thor_value.specs.declared.values.Obj.{Obj}

-- A state that a migration made of another, over a disk of pages: it says the same, in the newer format, and no page is
-- installed, since the objects of the pages are in the buffer. The next page may be a later one.
pub record IsMigrated (s : State) (disk : List ℕ) (t : State) : Type 0 where
  pub objects : List (Oref × Obj)
  pub paged : ArePaged s.format s.repo disk s.installed objects
  pub next_page : s.next_page ≤ t.next_page
  pub is : t ≡ record (migrated objects s) { next_page = t.next_page }

-- images of the disks say a state, or one that was made of it by a migration over the disk of pages as it was
abbrev pub SaysMigrated : State → List ℕ → (ℕ → List ℕ) → Type 0
SaysMigrated s disk images = Says s images ⊎ ((t : State) × IsMigrated s disk t × Says t images)

-- a state is the one before, or of an older one what a migration makes of it
abbrev pub Becomes : StoreFormat → State → List ℕ → State → Type 0
Becomes One s disk t = IsMigrated s disk t
Becomes Two s disk t = t ≡ s

-- the objects of an installed page of the older format were put behind others
pub record PutsPage (repo : ℕ) (disks : Disks) (installed : ℕ × ℕ) (old new : List (Oref × Obj)) : Type 0 where
  pub objects : List (Oref × Obj)
  pub put : new ≡ old ++ objects
  pub small : installed.0 < 65536
  pub on_page : AreOnPage repo installed.0 objects
  pub on_side : WhereTold disks 2 (λ disk. IsOnSide One repo disk installed objects)
