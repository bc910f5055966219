-- When a repository holds what its history has committed.
use Rattle.law_repo_memory.specs.Agreeing.{state_of}
use Rattle.mob_flusher.specs.Map.{Has, Kept}
use Rattle.repo_core.specs.Shown.{Shown}
use Rattle.spec_history.specs.History.{Base}
use Rattle.std.specs.Option.{option_or}
use Rattle.std.specs.Prelude.{List, Option, Some, false, ℕ, ◌<◌, ◌≡◌}
use Rattle.thor_value.specs.FiniteMap.{get}
use Rattle.thor_value.specs.declared.names.Oref.{Oref}
use Rattle.thor_value.specs.declared.values.Obj.{Obj}

-- Where the disk of pages tells its bytes, and the repository isn't torn: a name of it has the object that was committed last under it
-- by the history, and else what it had as the repository was opened, over this disk.
pub record HoldsObjects (b : Base) (first : List ℕ) (opened : Kept) (x : Shown) : Type 0 where
  pub holds : x.is_torn ≡ false → (disk : List ℕ) → x.pages ≡ Some disk → (o : Oref) (answer : Option Obj) → o.repo ≡ x.held.repo → o.slot < 12 → Has first opened o answer → Has disk x.held.objects o (option_or (get (state_of b x.trace).objects o) answer)
