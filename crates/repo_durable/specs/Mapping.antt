-- What becomes of the objects of a repository: what a name has is what the buffer has of it, and else what its page has on the
-- disk of pages.
use Rattle.commit_log.specs.Values.{written_last}
use Rattle.disk_trait.specs.Disks.{Disks}
use Rattle.mob_flusher.specs.Map.{Has, Kept}
use Rattle.repo_durable.specs.Kept.{disks_of, held_of, is_torn}
use Rattle.repo_durable.specs.Pages.{HasPages}
use Rattle.repo_durable.specs.declared.recovering.Taken.TheVariants as taken
use Rattle.repo_durable.specs.declared.recovering.Taken.{Taken}
use Rattle.repo_durable.specs.declared.stable.Stable.{Stable}
use Rattle.repo_state.specs.Entering.{loaded}
use Rattle.repo_state.specs.declared.held.Held.{Held}
use Rattle.std.specs.Prelude.{Bool, List, Option, Some, [], false, ℕ, ◌<◌, ◌≡◌}
use Rattle.thor_value.specs.declared.names.Oref.{Oref}
use Rattle.thor_value.specs.declared.values.Obj.{Obj}

-- A store over one disk takes these writes and is another, over another disk: a name of this repository has what was written
-- last under it, and else what it had.
abbrev pub MapTakes : ℕ → List (Oref × Obj) → List ℕ → Kept → List ℕ → Kept → Type 0
MapTakes repo writes before old after new = (x : Oref) (answer : Option Obj) → x.repo ≡ repo → x.slot < 12 → Has before old x answer → Has after new x (written_last x answer writes)

-- So does what is held over its disk of pages, where this is told of it, and where it isn't torn.
pub record MovesMap (Told : Type 0) (is_torn : Bool) (writes : List (Oref × Obj)) (before : Option (List ℕ)) (old : Held) (after : Option (List ℕ)) (new : Held) : Type 0 where
  pub moves : Told → is_torn ≡ false → (disk image : List ℕ) → before ≡ Some disk → after ≡ Some image → MapTakes old.repo writes disk old.objects image new.objects

-- the same of a repository whose disks tell their bytes
abbrev pub StoreMoves : {P : Type 0} → (P → Disks) → List (Oref × Obj) → Stable P → Stable P → Type 0
StoreMoves disks writes old new = MovesMap (HasPages disks old) (is_torn new) writes ((disks_of disks old).content 2) (held_of old) ((disks_of disks new).content 2) (held_of new)

-- what a restart that takes this has put into the objects: the writes of the pending entry, where it was taken
abbrev pub taken_writes : Held → Taken → List (Oref × Obj)
taken_writes h taken.Held = []
taken_writes h (taken.Pending e) = loaded h e
