-- With what a run begins (this project's): the schemas of the opened store and the store itself. A fresh store is opened by
-- the setup of the script; one that was there is opened as it stands, by a script without a setup.
use Rattle.std.specs.Prelude.{◌≡◌, ℕ, List, [], Option, Some, None, length}
use Rattle.class_defs.specs.declared.declarations.Declarations.{Declarations}
use Rattle.class_defs.specs.declared.store.Plain.{Plain}
use Rattle.class_defs.specs.declared.store.Schemas.{Schemas}
use Rattle.script_check.specs.Judging.{KeepsRules}
use Rattle.script_check.specs.Opened.{opened, schema_of}
use Rattle.script_check.specs.Upgrading.{last_schema}
use Rattle.script_parse.specs.declared.script.Script.{Script}
use Rattle.store_opening.specs.Limits.{AnyHas}
use Rattle.store_opening.specs.Reading.{AreOpen, AreSpelledIn, AreSpelledOn, IsFreshIn, IsOpened, IsStoredIn}
use Rattle.store_opening.specs.declared.found.Store.{Store}

-- the schemas of the store that a setup opens
abbrev pub first_schemas : Declarations → Schemas
first_schemas setup = record { first = schema_of setup; upgraded = [] }

-- the schemas of the opened store, up to its epoch
abbrev pub IsBase : Option Declarations → Schemas → Type 0
IsBase (Some setup) base = base ≡ first_schemas setup
IsBase None base = Unit {0}

-- the opened store
abbrev pub IsStore : Option Declarations → Schemas → Plain → Type 0
IsStore (Some setup) base store = store ≡ opened (schema_of setup)
IsStore None base store = store.epoch ≡ length base.upgraded

-- which bytes reads of the disks of all repositories give, where they tell them
abbrev pub DiskBytes : Type 1
DiskBytes = List (ℕ → List ℕ) → Type 0

-- those of a fresh store
abbrev pub FreshBytes : DiskBytes
FreshBytes images = IsFreshIn images

-- what was found of a store is what the disks hold, with the schemas that its texts spell
pub record IsStoredBy (DiskReads : DiskBytes) (store : Store) : Type 0 where
  pub each : (images : List (ℕ → List ℕ)) → DiskReads images → IsStoredIn images store
  pub spelled : (images : List (ℕ → List ℕ)) → DiskReads images → AreSpelledIn images store

-- these are the schemas that the texts on the disks of repository 0 spell
pub record SpelledBy (DiskReads : DiskBytes) (base : Schemas) : Type 0 where
  pub each : (images : List (ℕ → List ℕ)) → DiskReads images → AreSpelledOn images base

-- the schemas of a store that was there are those
abbrev pub AreSpelledBy : DiskBytes → Option Declarations → Schemas → Type 0
AreSpelledBy DiskReads (Some setup) base = Unit {0}
AreSpelledBy DiskReads None base = SpelledBy DiskReads base

-- of the repositories' disks those of one are so
pub record OneOfDisks (DiskReads : DiskBytes) (Is : (ℕ → List ℕ) → Type 0) : Type 0 where
  pub each : (images : List (ℕ → List ℕ)) → DiskReads images → AnyHas Is images

-- ---- setup and fresh store

-- A setup goes with a fresh store, and a script without one with a store that is open: repository 0 tells whether it is fresh.
abbrev pub GoesWith : Option Declarations → List (ℕ → List ℕ) → Type 0
GoesWith (Some setup) images = IsFreshIn images
GoesWith None images = AreOpen images

-- a setup, and a store that is open; or none, and a fresh one
abbrev pub IsAgainst : Option Declarations → List (ℕ → List ℕ) → Type 0
IsAgainst (Some setup) images = AreOpen images
IsAgainst None images = IsFreshIn images

pub record FitsDisks (DiskReads : DiskBytes) (setup : Option Declarations) : Type 0 where
  pub each : (images : List (ℕ → List ℕ)) → DiskReads images → GoesWith setup images

pub record MisfitsDisks (DiskReads : DiskBytes) (setup : Option Declarations) : Type 0 where
  pub each : (images : List (ℕ → List ℕ)) → DiskReads images → IsAgainst setup images

-- ---- the store

-- A store that was there is the one for which the disks stand, with these schemas.
abbrev pub IsOfDisks : DiskBytes → Option Declarations → Schemas → Plain → Type 0
IsOfDisks DiskReads (Some setup) base store = Unit {0}
IsOfDisks DiskReads None base store = (images : List (ℕ → List ℕ)) → DiskReads images → IsOpened images base store

-- the script breaks no rule over so many repositories, on a store with these schemas
pub record IsAccepted (repos : ℕ) (script : Script) (base : Schemas) : Type 0 where
  pub base_is : IsBase script.setup base
  pub keeps : KeepsRules (last_schema base) repos script
