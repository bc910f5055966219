-- What a reading puts into a map of the objects that stand on the pages of a repository (this project's).
use Rattle.recovery.specs.Paged.{ArePaged, IsOnSide}
use Rattle.log_codec.specs.declared.state.State.{State}
use Rattle.page_format.specs.declared.format.StoreFormat.{StoreFormat}
use Rattle.commit_log.specs.Recovered.{stands}
use Rattle.std.specs.Prelude.{List, Some, ℕ, ◌≡◌}
use Rattle.class_defs.specs.Stored.{Objects}
use Rattle.thor_value.specs.FiniteMap.{overwrite}
use Rattle.thor_value.specs.declared.names.Oref.{Oref}
use Rattle.thor_value.specs.declared.values.Obj.{Obj}

-- the objects of the installed page were put
pub record PutsSide (format : StoreFormat) (repo : ℕ) (disk : List ℕ) (installed : ℕ × ℕ) (old new : Objects) : Type 0 where
  pub objects : List (Oref × Obj)
  pub is : IsOnSide format repo disk installed objects
  pub put : new ≡ overwrite old objects

-- those of these installed pages were
pub record PutsPaged (format : StoreFormat) (repo : ℕ) (disk : List ℕ) (sides : List (ℕ × ℕ)) (old new : Objects) : Type 0 where
  pub objects : List (Oref × Obj)
  pub paged : ArePaged format repo disk sides objects
  pub put : new ≡ overwrite old objects

-- what the disks with these bytes hold of objects on pages, by the state for which their logs stand, was put
pub record PutsStored (images : ℕ → List ℕ) (old new : Objects) : Type 0 where
  pub objects : List (Oref × Obj)
  pub paged : (s : State) → stands images ≡ Some s → ArePaged s.format s.repo (images 2) s.installed objects
  pub put : new ≡ overwrite old objects
