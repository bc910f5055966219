-- What a check tells of an upgrade (this project's): first the rules O1 to O6, then the rules T inside it, then O7.
use Rattle.std.specs.Prelude.{ℕ, ◌+◌, List, [], ◌∷◌, ◌++◌, Option, Some, None, is_some, if◌then◌else◌}
use Rattle.std.specs.List.{flat_map}
use Rattle.class_defs.specs.Applied.{applied, said_of}
use Rattle.class_defs.specs.Objects.{first_of}
use Rattle.class_defs.specs.Rules.{least}
use Rattle.class_defs.specs.SchemaRules.{class_rules, item_rules, method_rules}
use Rattle.class_defs.specs.UpgradeRules.{upgrade_rules}
use Rattle.class_defs.specs.declared.classes.Class.{Class}
use Rattle.class_defs.specs.declared.rules.Rule.TheVariants.{O7}
use Rattle.class_defs.specs.declared.rules.RuleFault.{RuleFault}
use Rattle.class_defs.specs.declared.statements.Stmt.{Stmt}
use Rattle.class_defs.specs.declared.store.Schema.{Schema}
use Rattle.class_defs.specs.declared.upgrades.Upgrade.{Upgrade}

-- ---- the rules T behind the upgrade

-- what rules say of classes, the first of which has the number c
abbrev pub over_classes : (ℕ → Class → List RuleFault) → ℕ → List Class → List RuleFault
over_classes rules c [] = []
over_classes rules c (d ∷ ds) = rules c d ++ over_classes rules (c + 1) ds

-- of a class that the upgrade names: all that is in it
abbrev pub inside_class : Upgrade → Schema → ℕ → ℕ → Class → List RuleFault
inside_class u schema repos c d = if is_some (said_of u d) then class_rules schema repos c d else []

-- of a class that the upgrade doesn't name: its methods
abbrev pub outside_class : Upgrade → Schema → ℕ → ℕ → Class → List RuleFault
outside_class u schema repos c d = if is_some (said_of u d) then [] else flat_map (method_rules schema repos c) d.methods

-- The rules T that the upgrade's own fields and methods break on the schema behind it.
unfoldable pub inside_rules : Upgrade → Schema → ℕ → List RuleFault
inside_rules u schema repos = over_classes (inside_class u schema repos) 0 schema.classes

-- The rules T that the methods of other classes, and the items, break on the schema behind the upgrade.
unfoldable pub outside_rules : Upgrade → Schema → ℕ → List (List Stmt) → List RuleFault
outside_rules u schema repos items = over_classes (outside_class u schema repos) 0 schema.classes ++ flat_map (item_rules schema repos) items

-- ---- what is told

-- O7, on the line of the word `upgrade`: it breaks a rule outside of it
abbrev pub breaks_outside : ℕ → List RuleFault → Option RuleFault
breaks_outside line [] = None
breaks_outside line (f ∷ fs) = Some (record { line = line; rule = O7 })

-- What a check tells of an upgrade on a schema, with the items of the script: the least of what it breaks of the rules O1
-- to O6; where these hold, the least rule T that it breaks inside; and where these hold, O7.
unfoldable pub own_fault : Schema → ℕ → Upgrade → List (List Stmt) → Option RuleFault
own_fault schema repos u items =
    let behind = applied schema u in
    first_of (least (upgrade_rules schema.classes u))
    (first_of (least (inside_rules u behind repos))
    (breaks_outside u.line (outside_rules u behind repos items)))
