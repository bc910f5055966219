-- Upgrades that a check accepts (this project's). Rule O4 lets expressions read through owned fields alone, O3 and O6 let
-- references be handed on alone, O5 lets each part be handed over once, and O1 and the rules T inside an upgrade keep
-- classes and types: together they are what `KeptOwnership` asks of the upgrades of a store.
use Rattle.std.specs.Prelude.{◌≡◌, ◌<◌, ℕ, suc, List, [], Some, None}
use Rattle.class_defs.specs.Applied.{applied}
use Rattle.class_defs.specs.Epochs.{schema_of, upgrade_to}
use Rattle.class_defs.specs.UpgradeOrder.{own_fault}
use Rattle.class_defs.specs.declared.statements.Stmt.{Stmt}
use Rattle.class_defs.specs.declared.store.Schemas.{Schemas}
use Rattle.class_defs.specs.declared.upgrades.Upgrade.{Upgrade}

-- The upgrade that leads on from an epoch breaks no rule there, and the schema of the next epoch is the one behind it.
pub record IsAccepted (s : Schemas) (repos : ℕ) (items : List (List Stmt)) (k : ℕ) : Type 0 where
  pub upgrade : Upgrade
  pub leads : upgrade_to s (suc k) ≡ Some upgrade
  pub keeps : own_fault (schema_of s k) repos upgrade items ≡ None
  pub behind : schema_of s (suc k) ≡ applied (schema_of s k) upgrade

-- all upgrades up to an epoch are such
abbrev pub AllAccepted : Schemas → ℕ → List (List Stmt) → ℕ → Type 0
AllAccepted s repos items e = (k : ℕ) → k < e → IsAccepted s repos items k

-- each upgrade up to an epoch names a class, as the grammar has it
abbrev pub AllNameAClass : Schemas → ℕ → Type 0
AllNameAClass s e = (k : ℕ) → (u : Upgrade) → k < e → upgrade_to s (suc k) ≡ Some u → ¬ (u.classes ≡ [])
