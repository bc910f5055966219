-- The text of an upgrade: its words, with one space between two. This project's.
use Rattle.std.specs.Prelude.{ℕ, List}
use Rattle.class_defs.specs.Printed.{with_spaces}
use Rattle.class_defs.specs.declared.upgrades.Upgrade.{Upgrade}
use Rattle.upgrade_defs.specs.Spelling.{upgrade_words}

abbrev pub printed_upgrade : Upgrade → List ℕ
printed_upgrade upgrade = with_spaces (upgrade_words upgrade)
