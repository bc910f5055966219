-- The upgrades of a script, checked one after the other (this project's): each on the schema behind those before it, and
-- against all transactions of the script, whoever's they are and wherever they stand.
use Rattle.std.specs.Prelude.{◌≡◌, ◌≤◌, ◌+◌, ◌^◌, ℕ, List, [], ◌∷◌, length, Option, None, Result, Ok, Err, ◌++◌}
use Rattle.std.specs.List.{flat_map}
use Rattle.class_defs.specs.Applied.{applied, next_number}
use Rattle.class_defs.specs.Objects.{first_of}
use Rattle.class_defs.specs.UpgradeOrder.{own_fault}
use Rattle.class_defs.specs.declared.checked.Checked.{Checked}
use Rattle.class_defs.specs.declared.rules.RuleFault.{RuleFault}
use Rattle.class_defs.specs.declared.statements.Stmt.{Stmt}
use Rattle.class_defs.specs.declared.store.Schema.{Schema}
use Rattle.class_defs.specs.declared.store.Schemas.{Schemas}
use Rattle.class_defs.specs.declared.store.UpgradedSchema.{UpgradedSchema}
use Rattle.class_defs.specs.declared.upgrades.Upgrade.{Upgrade}
use Rattle.method_check.specs.Told.{Tells}
use Rattle.method_check.specs.declared.error.CheckError.{CheckError}
use Rattle.serial_model.specs.declared.entries.What.{What}
use Rattle.serial_model.specs.declared.entries.What.TheVariants.{Tx, Upgrade as UpgradeItem}

-- the upgrade that an item is, where it is one
abbrev pub upgrade_in : What → List Upgrade
upgrade_in (Tx block) = []
upgrade_in (UpgradeItem upgrade) = upgrade ∷ []

-- the block of the transaction that an item is, where it is one
abbrev pub block_in : What → List (List Stmt)
block_in (Tx block) = block ∷ []
block_in (UpgradeItem upgrade) = []

-- the upgrades of all clients, in the order of the text
abbrev pub upgrades_of : List (List What) → List Upgrade
upgrades_of clients = flat_map (flat_map upgrade_in) clients

-- the blocks of the transactions of all clients
abbrev pub blocks_of : List (List What) → List (List Stmt)
blocks_of clients = flat_map (flat_map block_in) clients

-- The first fault of upgrades that come one after the other: that of the first one which breaks a rule on the schema
-- behind those before it.
abbrev pub upgrades_fault : Schema → ℕ → List Upgrade → List (List Stmt) → Option RuleFault
upgrades_fault schema repos [] blocks = None
upgrades_fault schema repos (u ∷ upgrades) blocks =
    first_of (own_fault schema repos u blocks) (upgrades_fault (applied schema u) repos upgrades blocks)

-- ---- on the way

-- the schema behind upgrades
abbrev pub schema_behind : Schema → List Upgrade → Schema
schema_behind schema [] = schema
schema_behind schema (u ∷ upgrades) = schema_behind (applied schema u) upgrades

-- there are as few classes, and numbers for so many more upgrades, as the check of one asks for
abbrev pub HasRoom : Schema → List Upgrade → Type 0
HasRoom schema upgrades = (length schema.classes ≤ 65536) × (next_number schema.upgraded + length upgrades ≤ 2 ^ 32)

-- upgrades lead from a schema to the one behind them, or this fault of theirs is told
abbrev pub Leads : Schema → ℕ → List Upgrade → List (List Stmt) → Result Checked CheckError → Type 0
Leads schema repos upgrades blocks (Ok behind) =
    (upgrades_fault schema repos upgrades blocks ≡ None) × (behind.schema ≡ schema_behind schema upgrades) × (behind.repos ≡ repos)
Leads schema repos upgrades blocks (Err error) = Tells error (upgrades_fault schema repos upgrades blocks)

-- ---- as epochs of a store

-- the schemas behind each of some upgrades, with the upgrade that leads there
abbrev pub epochs_behind : Schema → List Upgrade → List UpgradedSchema
epochs_behind schema [] = []
epochs_behind schema (u ∷ upgrades) = record { upgrade = u; schema = applied schema u } ∷ epochs_behind (applied schema u) upgrades

-- the schemas of a store that begins with a schema and takes these upgrades in this order
abbrev pub schemas_behind : Schema → List Upgrade → Schemas
schemas_behind schema upgrades = record { first = schema; upgraded = epochs_behind schema upgrades }

-- the last of some schemas, the first of which is given
abbrev pub last_behind : Schema → List UpgradedSchema → Schema
last_behind schema [] = schema
last_behind schema (u ∷ us) = last_behind u.schema us

-- the schema of the last epoch
abbrev pub last_schema : Schemas → Schema
last_schema s = last_behind s.first s.upgraded

-- with one more upgrade
abbrev pub with_epoch : Schemas → Upgrade → Schemas
with_epoch s u = record s { upgraded = s.upgraded ++ record { upgrade = u; schema = applied (last_schema s) u } ∷ [] }

-- the schemas of a store that takes these upgrades behind those that it has
abbrev pub extended : Schemas → List Upgrade → Schemas
extended s [] = s
extended s (u ∷ upgrades) = extended (with_epoch s u) upgrades
