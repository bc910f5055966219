-- What is read of all tokens.
use Rattle.std.proofs.Common.{List, Result}
use Rattle.std.specs.Prelude.{IfOk}
use Rattle.class_defs.specs.declared.upgrades.Upgrade.{Upgrade}
use Rattle.script_text.specs.declared.syntax.SyntaxError.{SyntaxError}
use Rattle.script_text.specs.declared.token.Token.{Token}
use Rattle.method_parse.specs.Texts.{Answers}
use Rattle.method_parse.proofs.Ends.{answered_found}
use Rattle.method_parse.proofs.Lawful.{Says, Lawful, lawful_as}
use Rattle.upgrade_defs.specs.Texts.{SpellsUpgrade}
use Rattle.upgrade_defs.specs.Upgrades.{upgrade, upgrade_of}
use Rattle.upgrade_defs.proofs.UpgradeLaws.{lawful_upgrade}

abbrev pub SaysUpgrade : Says Upgrade
SaysUpgrade u tokens = SpellsUpgrade tokens u

pub lawful_text : Lawful SaysUpgrade upgrade
lawful_text = lawful_as (λ u ts s. (s.spelled, s.is)) lawful_upgrade

pub upgrade_found : (tokens : List Token) (result : Result Upgrade SyntaxError) → Answers tokens result (upgrade_of tokens)
    → IfOk result (SpellsUpgrade tokens)
unfolding upgrade_of
upgrade_found tokens result answers = answered_found SaysUpgrade tokens (upgrade tokens) result (lawful_text.reads tokens) answers
