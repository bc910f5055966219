-- What the reading of a store's repositories, one behind the other, finds on their disks.
use Rattle.class_defs.specs.Stored.{Objects}
use Rattle.disk_trait.specs.AllDisks.{ReadsAs}
use Rattle.disk_trait.specs.Disks.{Disks}
use Rattle.log_codec.specs.declared.state.State.{State}
use Rattle.recovery.specs.Paged.{ArePaged}
use Rattle.commit_log.specs.Opening.{IsFresh}
use Rattle.commit_log.specs.Recovered.{stands}
use Rattle.std.specs.List.{AllZip, flat_map}
use Rattle.class_defs.specs.declared.store.Plain.{Plain}
use Rattle.class_defs.specs.declared.store.Schemas.{Schemas}
use Rattle.std.specs.Prelude.{List, None, Option, Some, [], length, ℕ, ◌≡◌, ◌∷◌}
use Rattle.store_opening.specs.Fitting.{AreSchemasOf, FitTogether}
use Rattle.store_opening.specs.OpenedStore.{Holds, Repository, objects_of, opened_store, paged_of, roots_of, states_of}
use Rattle.store_opening.specs.declared.found.OpenStore.{OpenStore}
use Rattle.store_opening.specs.declared.found.Store.TheVariants.{Fresh, Open}
use Rattle.store_opening.specs.declared.found.Store.{Store}
use Rattle.thor_value.specs.FiniteMap.{IsSorted, overwrite}
use Rattle.thor_value.specs.declared.names.Oref.{Oref}
use Rattle.thor_value.specs.declared.values.Obj.{Obj}

-- reads of the disks of the repositories give these bytes
abbrev pub ReadAll : {P : Type 0} → (P → Disks) → List P → List (ℕ → List ℕ) → Type 0
ReadAll disks parts images = AllZip (λ p i. ReadsAs (disks p) i) parts images

-- the objects on the pages of a repository, by the state for which its logs stand
pub record IsPagedBy (images : ℕ → List ℕ) (objects : List (Oref × Obj)) : Type 0 where
  pub paged : (s : State) → stands images ≡ Some s → ArePaged s.format s.repo (images 2) s.installed objects

-- those of all repositories were put into a map
pub record PutsAll (images : List (ℕ → List ℕ)) (old new : Objects) : Type 0 where
  pub pages : List (List (Oref × Obj))
  pub each : AllZip IsPagedBy images pages
  pub put : new ≡ overwrite old (flat_map (λ ws. ws) pages)

-- disks stand for states, repository by repository
abbrev pub StandFor : List (ℕ → List ℕ) → List State → Type 0
StandFor images states = AllZip (λ i s. stands i ≡ Some s) images states

-- what is held of a store is what its disks hold
pub record IsStored (images : List (ℕ → List ℕ)) (store : OpenStore) : Type 0 where
  pub repositories : List Repository
  pub each : AllZip Holds images repositories
  pub objects : store.stored.objects ≡ objects_of repositories
  pub sorted : IsSorted store.stored.objects
  pub epoch : store.stored.epoch ≡ length store.schemas.upgraded
  pub roots : store.roots ≡ roots_of (states_of repositories)

-- repository 0 is fresh: neither of its log disks has an open header
abbrev pub IsFreshIn : List (ℕ → List ℕ) → Type 0
IsFreshIn [] = Unit {0}
IsFreshIn (image ∷ images) = IsFresh image

-- every repository is open: its disks stand for a state and the objects of its pages
pub record AreOpen (images : List (ℕ → List ℕ)) : Type 0 where
  pub repositories : List Repository
  pub each : AllZip Holds images repositories

abbrev pub IsStoredIn : List (ℕ → List ℕ) → Store → Type 0
IsStoredIn images Fresh = IsFreshIn images
IsStoredIn images (Open store) = IsStored images store

-- a store is the one for which these disks stand, with these schemas
pub record IsOpened (images : List (ℕ → List ℕ)) (schemas : Schemas) (opened : Plain) : Type 0 where
  pub repositories : List Repository
  pub each : AllZip Holds images repositories
  pub store : opened ≡ opened_store schemas repositories

-- where a store was found it is opened, and else nothing
abbrev pub IsOpenedIn : List (ℕ → List ℕ) → Store → Option Plain → Type 0
IsOpenedIn images Fresh None = Unit {0}
IsOpenedIn images Fresh (Some opened) = ⊥
IsOpenedIn images (Open store) None = ⊥
IsOpenedIn images (Open store) (Some opened) = IsOpened images store.schemas opened

-- the schemas of a store that was found
abbrev pub schemas_in : Store → Option Schemas
schemas_in Fresh = None
schemas_in (Open store) = Some store.schemas

-- how many upgrades it has installed
abbrev pub epochs_in : Store → ℕ
epochs_in Fresh = 0
epochs_in (Open store) = length store.schemas.upgraded

-- ---- what a store that was found keeps to

-- these are the schemas that the texts on the disks of repository 0 spell
pub record AreSpelledOn (images : List (ℕ → List ℕ)) (schemas : Schemas) : Type 0 where
  pub states : List State
  pub each : StandFor images states
  pub spelled : AreSchemasOf states schemas

abbrev pub AreSpelledIn : List (ℕ → List ℕ) → Store → Type 0
AreSpelledIn images Fresh = Unit {0}
AreSpelledIn images (Open store) = AreSpelledOn images store.schemas

-- the repositories of a store that is open fit together
pub record Fit (images : List (ℕ → List ℕ)) (schemas : Schemas) : Type 0 where
  pub repositories : List Repository
  pub each : AllZip Holds images repositories
  pub together : FitTogether (states_of repositories) (paged_of repositories) schemas

abbrev pub FitIn : List (ℕ → List ℕ) → Store → Type 0
FitIn images Fresh = Unit {0}
FitIn images (Open store) = Fit images store.schemas
