-- What all tokens spell is what is read of them.
use Rattle.std.proofs.Common.{◌≡◌, List, [], Result, Ok, sym, ap, ◌∙◌}
use Rattle.std.proofs.lemmas.List.{append-nil}
use Rattle.class_defs.specs.declared.upgrades.Upgrade.{Upgrade}
use Rattle.script_text.specs.Reading.{Gives}
use Rattle.script_text.specs.declared.syntax.SyntaxError.{SyntaxError}
use Rattle.script_text.specs.declared.token.Token.{Token}
use Rattle.method_parse.specs.Setups.{whole}
use Rattle.method_parse.specs.Texts.{Answers}
use Rattle.method_parse.proofs.Only.{only, same_read}
use Rattle.upgrade_defs.specs.Texts.{SpellsUpgrade}
use Rattle.upgrade_defs.specs.Upgrades.{upgrade, upgrade_of}
use Rattle.upgrade_defs.proofs.UpgradeOnly.{upgrade_reads}

pub upgrade_is_read : (tokens : List Token) (x : Upgrade) → SpellsUpgrade tokens x → upgrade tokens ≡ Ok (x, [])
upgrade_is_read tokens x spells = ap upgrade (sym (append-nil tokens)) ∙ upgrade_reads x tokens [] spells.0 spells.1

upgrade_of_is : (tokens : List Token) (x : Upgrade) → SpellsUpgrade tokens x → upgrade_of tokens ≡ Ok x
unfolding upgrade_of
upgrade_of_is tokens x spells = ap whole (upgrade_is_read tokens x spells)

pub upgrade_only : (tokens : List Token) (result : Result Upgrade SyntaxError) → Answers tokens result (upgrade_of tokens) → (x : Upgrade)
    → SpellsUpgrade tokens x → Gives result (Ok x)
upgrade_only tokens result answers x spells = only tokens (upgrade_of tokens) result x answers (upgrade_of_is tokens x spells)

-- no tokens spell two upgrades
pub one_upgrade : (tokens : List Token) (a b : Upgrade) → SpellsUpgrade tokens a → SpellsUpgrade tokens b → a ≡ b
one_upgrade tokens a b p q = same_read (upgrade_of tokens) a b (upgrade_of_is tokens a p) (upgrade_of_is tokens b q)
