-- Runs of checked transactions on what a stored map stands for.
use Rattle.class_defs.specs.Eager.{eager}
use Rattle.class_defs.specs.Epochs.{schema_at}
use Rattle.class_defs.specs.KeptOwnership.{AllKeepClasses}
use Rattle.class_defs.specs.Levels.{is_due}
use Rattle.class_defs.specs.Run.{Ran, run}
use Rattle.class_defs.specs.SchemaRules.{item_rules, schema_rules}
use Rattle.class_defs.specs.Stored.{Stored, in_epoch}
use Rattle.class_defs.specs.Types.{class_named}
use Rattle.class_defs.specs.declared.statements.Stmt.{Stmt}
use Rattle.class_defs.specs.declared.store.Root.{Root}
use Rattle.class_defs.specs.declared.store.RootDeclaration.{RootDeclaration}
use Rattle.class_defs.specs.declared.store.Schema.{Schema}
use Rattle.class_defs.specs.declared.store.Schemas.{Schemas}
use Rattle.serial_model.specs.History.{are_fresh}
use Rattle.std.specs.List.{AllByRecursion, Contains}
use Rattle.std.specs.Prelude.{List, Some, [], false, option_map, slice_get, true, ℕ, ◌≡◌, ◌≢◌}
use Rattle.law_lazy_history.specs.Standing.{MapFits, left_at}
use Rattle.thor_value.specs.FiniteMap.{get}
use Rattle.thor_value.specs.declared.names.Oref.{Oref}
use Rattle.thor_value.specs.declared.values.Obj.{Obj}

-- each root that a schema declares is one of these, with its class
abbrev pub RootsStand : Schema → List Root → Type 0
RootsStand schema roots = AllByRecursion (λ (d : RootDeclaration). (i : ℕ) × (r : Root) × (slice_get roots i ≡ Some r) × (r.oref ≡ d.oref) × (class_named schema.classes d.class.text ≡ Some r.class)) schema.roots

-- The transaction tx breaks no rule under the schema of the map's epoch, the map fits, and the run with fresh names on what
-- the map stands for gave r.
pub record CheckedRun (s : Schemas) (N : Stored) (schema : Schema) (repos : ℕ) (tx : List Stmt) (names : List Oref) (r : Ran) : Type 0 where
  pub epoch : schema_at s N.epoch ≡ Some schema
  pub rules : schema_rules schema repos ≡ []
  pub item : item_rules schema repos tx ≡ []
  pub keeps : AllKeepClasses s N.epoch
  pub fits : MapFits s N
  pub roots : RootsStand schema N.roots
  -- no object lies where the stand-in names lie
  pub placed : (x : Oref) (o : Obj) → get N.objects x ≡ Some o → x.repo ≢ 255
  pub fresh : are_fresh (eager s N) names ≡ true
  pub ran : run schema tx (eager s N) names ≡ Some r

-- it touched nothing that is due
abbrev pub TouchedUndue : Schemas → Stored → Ran → Type 0
TouchedUndue s N r = (x : Oref) (o : Obj) → Contains r.touched x → get N.objects x ≡ Some o → is_due s N.epoch o ≡ false

-- these writes are what the run wrote, in the epoch of the map
abbrev pub AreItsWrites : Stored → Ran → List (Oref × Obj) → Type 0
AreItsWrites N r ws = (x : Oref) → left_at ws x ≡ option_map (in_epoch N.epoch) (left_at r.written x)
