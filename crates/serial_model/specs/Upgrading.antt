-- What the code that transforms objects says on its way.
use Rattle.std.specs.Prelude.{List, Option}
use Rattle.thor_value.specs.declared.names.Oref.{Oref}
use Rattle.class_defs.specs.Upgrades.{transformed, upgrade_of}
use Rattle.class_defs.specs.declared.classes.Class.{Class}
use Rattle.class_defs.specs.declared.store.Object.{Object}
use Rattle.class_defs.specs.declared.upgrades.Upgrade.{Upgrade}

-- an object behind an upgrade, with its name
abbrev pub transformed_pair : List Class → List Class → Upgrade → (Oref → Option Object) → Oref × Object → Oref × Object
transformed_pair old new u objects p = (p.0, transformed old new objects p.1 (upgrade_of old u p.1.class))
