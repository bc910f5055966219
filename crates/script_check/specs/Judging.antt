-- Which rule a script breaks (this project's): T1 to T8 in its classes, roots and transactions, T9 in its schedule. Of these
-- the fault that is told has the least line of all, and on that line the least rule. Where it breaks none of them, the
-- rules on upgrades come next.
use Rattle.std.specs.Prelude.{◌≡◌, ℕ, List, [], ◌++◌, length, Option, Some, None, option_map}
use Rattle.std.specs.List.{flat_map}
use Rattle.class_defs.specs.Objects.{first_of}
use Rattle.class_defs.specs.Rules.{least, lesser}
use Rattle.class_defs.specs.declared.rules.Rule.TheVariants.{T9}
use Rattle.class_defs.specs.declared.rules.RuleFault.{RuleFault}
use Rattle.class_defs.specs.declared.store.Schema.{Schema}
use Rattle.class_defs.specs.SchemaRules.{item_rules, schema_rules}
use Rattle.schedule.specs.Breaks.{AllKeep, IsLeastBreach}
use Rattle.schedule.specs.declared.events.Event.{Event}
use Rattle.serial_model.specs.declared.entries.What.{What}
use Rattle.serial_model.specs.declared.entries.What.TheVariants.{Tx, Upgrade as UpgradeItem}
use Rattle.script_check.specs.Upgrading.{blocks_of, upgrades_fault, upgrades_of}
use Rattle.script_parse.specs.declared.refusal.Refusal.{Refusal}
use Rattle.script_parse.specs.declared.refusal.Refusal.TheVariants as refusal
use Rattle.script_parse.specs.declared.script.Script.{Script}

-- the least line of an event that breaks the rule, where one does
abbrev pub IsToldEvent : ℕ → ℕ → List Event → Option ℕ → Type 0
IsToldEvent clients repos events None = AllKeep clients repos events
IsToldEvent clients repos events (Some line) = IsLeastBreach clients repos events line

-- of a fault that is told of the rules T1 to T8 and the line of an event that breaks T9, the fault that is told
abbrev pub least_breach : Option RuleFault → Option ℕ → Option RuleFault
least_breach found None = found
least_breach found (Some line) = lesser found (record { line = line; rule = T9 })

-- the rules T1 to T8 that an item breaks; an upgrade is looked at behind them
abbrev pub what_rules : Schema → ℕ → What → List RuleFault
what_rules schema repos (Tx block) = item_rules schema repos block
what_rules schema repos (UpgradeItem upgrade) = []

abbrev pub items_rules : Schema → ℕ → List What → List RuleFault
items_rules schema repos items = flat_map (what_rules schema repos) items

-- a schema, and under it the items of all clients
abbrev pub script_rules : Schema → ℕ → List (List What) → List RuleFault
script_rules schema repos clients = schema_rules schema repos ++ flat_map (items_rules schema repos) clients

-- the fault of a script's upgrades that is told
abbrev pub own_told : Schema → ℕ → Script → Option RuleFault
own_told schema repos script = upgrades_fault schema repos (upgrades_of script.clients) (blocks_of script.clients)

-- the script breaks no rule
pub record KeepsRules (schema : Schema) (repos : ℕ) (script : Script) : Type 0 where
  pub rules : script_rules schema repos script.clients ≡ []
  pub events : AllKeep (length script.clients) repos script.events
  pub upgrades : own_told schema repos script ≡ None

-- The script breaks a rule, and this is told: of the rules T1 to T9, and where it breaks none of them, of its upgrades.
pub record BreaksRule (schema : Schema) (repos : ℕ) (script : Script) (r : Refusal) : Type 0 where
  pub event : Option ℕ
  pub first : IsToldEvent (length script.clients) repos script.events event
  pub is : option_map refusal.Rule (first_of (least_breach (least (script_rules schema repos script.clients)) event) (own_told schema repos script)) ≡ Some r

abbrev pub Judges : Schema → ℕ → Script → Option Refusal → Type 0
Judges schema repos script None = KeepsRules schema repos script
Judges schema repos script (Some r) = BreaksRule schema repos script r
