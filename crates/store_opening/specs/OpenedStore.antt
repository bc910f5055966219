-- The store that the disks of its repositories stand for (this project's; that a log and a buffer of modified objects over
-- pages stand for a store is Thor's: Ghemawat, 1995; that what is prepared and has no decision that is kept was aborted is
-- Mohan's and others', 1986).
use Rattle.class_defs.specs.Eager.{eager}
use Rattle.class_defs.specs.Stored.{Objects}
use Rattle.class_defs.specs.declared.store.Plain.{Plain}
use Rattle.class_defs.specs.declared.store.Root.{Root}
use Rattle.class_defs.specs.declared.store.Schemas.{Schemas}
use Rattle.log_entries.specs.declared.request.Request.{Request}
use Rattle.log_codec.specs.declared.state.State.{State}
use Rattle.recovery.specs.Paged.{ArePaged}
use Rattle.commit_log.specs.Recovered.{stands, texts_after}
use Rattle.std.specs.List.{filter, flat_map, fold, list_any}
use Rattle.std.specs.Prelude.{Bool, List, None, Option, Some, [], false, length, map, slice_get, ℕ, ◌≡◌, ◌∷◌}
use Rattle.thor_value.specs.FiniteMap.{empty, overwrite}
use Rattle.thor_value.specs.Names.{same_ts}
use Rattle.thor_value.specs.declared.names.Oref.{Oref}
use Rattle.thor_value.specs.declared.names.Ts.{Ts}
use Rattle.thor_value.specs.declared.values.Obj.{Obj}

-- ---- what is prepared

abbrev pub keeps_decision : Option State → Ts → Bool
keeps_decision (Some s) t = list_any (same_ts t) s.kept
keeps_decision None t = false

-- whether the coordinator of a transaction keeps the decision to commit it
abbrev pub is_committed : List State → Ts → Bool
is_committed store t = keeps_decision (slice_get store t.repo) t

-- the requests that a repository has prepared and that commit
abbrev pub committing : List State → State → List Request
committing store s = filter (λ q. is_committed store q.tx) s.prepared

-- the texts of its upgrades, with those that commit
abbrev pub upgrades_of : List State → State → List (List ℕ)
upgrades_of store s = fold (λ texts q. texts_after texts q.kind) s.upgrades (committing store s)

-- ---- the objects

-- a map with what a repository has over its pages: the objects of its buffer, and over them the writes of what commits
abbrev pub with_repository : List State → Objects → State → Objects
with_repository store m s = fold (λ n q. overwrite n q.writes) (overwrite m s.mob) (committing store s)

-- the objects of all repositories, over those of their pages
abbrev pub joined : List State → Objects → Objects
joined store paged = fold (with_repository store) paged store

-- ---- the store

-- what the disks of a repository hold: the state for which its logs stand, and the objects of its pages
pub record Repository : Type 0 where
  pub state : State
  pub paged : List (Oref × Obj)

-- disks with these bytes hold this
pub record Holds (images : ℕ → List ℕ) (r : Repository) : Type 0 where
  pub state : stands images ≡ Some r.state
  pub paged : ArePaged r.state.format r.state.repo (images 2) r.state.installed r.paged

abbrev pub states_of : List Repository → List State
states_of store = map (λ r. r.state) store

-- the objects of the pages of all repositories as one map
abbrev pub paged_of : List Repository → Objects
paged_of store = overwrite empty (flat_map (λ r. r.paged) store)

-- the objects of all repositories as one map
abbrev pub objects_of : List Repository → Objects
objects_of store = joined (states_of store) (paged_of store)

-- the roots are those of repository 0
abbrev pub roots_of : List State → List Root
roots_of [] = []
roots_of (s ∷ states) = s.roots

-- The opened store, with schemas: each object of the map brought up to their epoch.
abbrev pub opened_store : Schemas → List Repository → Plain
opened_store schemas store = eager schemas (record { objects = objects_of store; epoch = length schemas.upgraded; roots = roots_of (states_of store) })
