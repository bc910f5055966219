-- What it is that a change stands on the stored map that it meets: a transaction runs so on the store that the map
-- stands for, a transform brings an object, an upgrade is the next one. This project's.
use Rattle.class_defs.specs.Eager.{brought, eager}
use Rattle.class_defs.specs.Epochs.{upgrade_to}
use Rattle.class_defs.specs.Levels.{is_due}
use Rattle.class_defs.specs.Ownership.{IsAbove}
use Rattle.class_defs.specs.Run.{Ran as RanOn}
use Rattle.class_defs.specs.Stored.{Stored, in_epoch}
use Rattle.class_defs.specs.UpgradeLinesAside.{upgrade_on_line_1}
use Rattle.class_defs.specs.WellOwned.{AreOfTheirClasses, IsWellOwned}
use Rattle.class_defs.specs.declared.statements.Stmt.{Stmt}
use Rattle.class_defs.specs.declared.store.Schemas.{Schemas}
use Rattle.class_defs.specs.declared.upgrades.Upgrade.{Upgrade}
use Rattle.serial_model.specs.History.{are_fresh, run_on}
use Rattle.serial_model.specs.declared.entries.Did.{Did}
use Rattle.serial_model.specs.declared.entries.What.TheVariants.{Tx, Upgrade as UpgradeItem}
use Rattle.std.specs.Prelude.{IsSomeAnd, List, Option, Some, [], false, option_map, suc, true, ℕ, ◌+◌, ◌∷◌, ◌≡◌}
use Rattle.law_lazy_history.specs.Changes.{Brought, Change, Installed, Ran, changed_by}
use Rattle.thor_value.specs.FiniteMap.{empty, get, overwrite}
use Rattle.thor_value.specs.Names.{oref_cmp}
use Rattle.thor_value.specs.declared.names.Oref.{Oref}
use Rattle.thor_value.specs.declared.values.Answer.TheVariants.{Ints}
use Rattle.thor_value.specs.declared.values.Obj.{Obj}

-- what these writes leave at a name by themselves; of two at one name the last counts
abbrev pub left_at : {X : Type 0} → List (Oref × X) → Oref → Option X
left_at ws x = get {R = oref_cmp} (overwrite empty ws) x

-- A stored map fits its schemas: it is well owned, and each object is of its class, as that was when the object was
-- written.
pub record MapFits (s : Schemas) (N : Stored) : Type 0 where
  pub owned : IsWellOwned s N
  pub kinds : AreOfTheirClasses s N

-- The run gave the answer of d, and these writes are what it wrote, in this epoch.
pub record Gave (epoch : ℕ) (d : Did) (ws : List (Oref × Obj)) (r : RanOn) : Type 0 where
  pub answer : r.answer ≡ d.answer
  pub writes : (x : Oref) → left_at ws x ≡ option_map (in_epoch epoch) (left_at r.written x)

-- The transaction of d, with names that are fresh, runs on the store that the map stands for, and gave that.
pub record RunsOn (s : Schemas) (N : Stored) (d : Did) (ws : List (Oref × Obj)) : Type 0 where
  pub tx : List Stmt
  pub item : d.what ≡ Tx tx
  pub number : d.number ≡ 0
  pub fresh : are_fresh (eager s N) d.fresh ≡ true
  pub ran : IsSomeAnd (run_on s (eager s N) tx d.fresh) (Gave N.epoch d ws)

-- What was written is no due object, and none is above it as an owner.
abbrev pub WritesApart : Schemas → Stored → List (Oref × Obj) → Type 0
WritesApart s N ws = (n : ℕ) (a x : Oref) (o v : Obj) → get N.objects a ≡ Some o → is_due s N.epoch o ≡ true → IsAbove s N.objects n a x
    → ¬ (left_at ws x ≡ Some v)

-- It runs so, apart from what is due, and leaves a map that fits.
pub record Runs (s : Schemas) (N : Stored) (d : Did) (ws : List (Oref × Obj)) : Type 0 where
  pub runs : RunsOn s N d ws
  pub apart : WritesApart s N ws
  pub fits : MapFits s (changed_by N (Ran d ws))

-- The transform brings one object of the map to its epoch, and none of that object's owners is due.
pub record Brings (s : Schemas) (N : Stored) (ws : List (Oref × Obj)) : Type 0 where
  pub x : Oref
  pub object : Obj
  pub there : get N.objects x ≡ Some object
  pub writes : ws ≡ (x, brought s N object) ∷ []
  pub undue : (n : ℕ) (a : Oref) (o : Obj) → IsAbove s N.objects (suc n) a x → get N.objects a ≡ Some o → is_due s N.epoch o ≡ false

-- The upgrade is the one that leads on from the map's epoch, lines aside.
pub record Installs (s : Schemas) (N : Stored) (d : Did) : Type 0 where
  pub upgrade : Upgrade
  pub item : d.what ≡ UpgradeItem upgrade
  pub number : d.number ≡ N.epoch + 1
  pub fresh : d.fresh ≡ []
  pub answer : d.answer ≡ Ints []
  pub leads : option_map upgrade_on_line_1 (upgrade_to s (N.epoch + 1)) ≡ Some (upgrade_on_line_1 upgrade)

-- the change stands on the map
abbrev pub Stands : Schemas → Stored → Change → Type 0
Stands s N (Ran d ws) = Runs s N d ws
Stands s N (Brought ws) = Brings s N ws
Stands s N (Installed d) = Installs s N d

-- each of these changes stands on the map behind those before it, where that fits
abbrev pub AllStand : Schemas → Stored → List Change → Type 0
AllStand s N [] = Unit {0}
AllStand s N (c ∷ cs) = (MapFits s N → Stands s N c) × AllStand s (changed_by N c) cs

-- the change is a transaction, and runs so
abbrev pub IsRun : Schemas → Stored → Change → Type 0
IsRun s N (Ran d ws) = RunsOn s N d ws
IsRun s N (Brought ws) = ⊥
IsRun s N (Installed d) = ⊥

-- each of these changes is one, on the map behind those before it
abbrev pub AllRun : Schemas → Stored → List Change → Type 0
AllRun s N [] = Unit {0}
AllRun s N (c ∷ cs) = IsRun s N c × AllRun s (changed_by N c) cs
