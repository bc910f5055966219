-- The fault is at the first token that can't go on.
use Rattle.std.proofs.Common.{List, Result}
use Rattle.std.specs.Prelude.{IfErr}
use Rattle.class_defs.specs.declared.upgrades.Upgrade.{Upgrade}
use Rattle.script_text.specs.declared.syntax.SyntaxError.{SyntaxError}
use Rattle.script_text.specs.declared.token.Token.{Token}
use Rattle.method_parse.specs.Texts.{Answers, IsFaultOf}
use Rattle.method_parse.proofs.Faults.{answered_fault}
use Rattle.upgrade_defs.specs.Texts.{SpellsUpgrade}
use Rattle.upgrade_defs.specs.Upgrades.{upgrade, upgrade_of}
use Rattle.upgrade_defs.proofs.Ends.{SaysUpgrade, lawful_text}
use Rattle.upgrade_defs.proofs.LocalReaders.{local_upgrade}
use Rattle.upgrade_defs.proofs.Only.{upgrade_is_read}

pub upgrade_fault : (tokens : List Token) (result : Result Upgrade SyntaxError) → Answers tokens result (upgrade_of tokens)
    → IfErr result (IsFaultOf SpellsUpgrade tokens)
unfolding upgrade_of
upgrade_fault tokens result answers = answered_fault SaysUpgrade upgrade local_upgrade lawful_text.reads
    (λ ts x said. upgrade_is_read ts x said) tokens result answers
