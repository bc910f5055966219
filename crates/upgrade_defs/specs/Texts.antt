-- Which tokens are an upgrade, with which tree. This project's.
use Rattle.std.specs.Prelude.{List}
use Rattle.class_defs.specs.declared.upgrades.Upgrade.{Upgrade}
use Rattle.method_parse.specs.Matching.{AreWords}
use Rattle.script_text.specs.declared.token.Token.{Token}
use Rattle.upgrade_defs.specs.Grammar.{IsUpgrade}
use Rattle.upgrade_defs.specs.Spelling.{upgrade_words}

-- the tokens are an upgrade, from the word `upgrade` on
abbrev pub SpellsUpgrade : List Token → Upgrade → Type 0
SpellsUpgrade tokens upgrade = AreWords tokens (upgrade_words upgrade) × IsUpgrade upgrade
