use Rattle.script_text.specs.Grammar.{AreTokensOf}
use Rattle.std.proofs.Common.{subst}
use Rattle.store_check.proofs.Spelling.{found_behind, none_behind, ok_map}
use Rattle.store_check.specs.Spelled.{FindsOnly}
use Rattle.upgrade_defs.specs.Texts.{SpellsUpgrade}
use Rattle.store_check.proofs.schemas.upgrade_of.Goals as goal

pub returns-in-Some : goal.returns-in-Some
returns-in-Some c =
    ok_map c.upgrade_in.result _ _ (λ r h. found_behind (AreTokensOf c.args.text.now) SpellsUpgrade c.in-Some.tokens r (subst (FindsOnly (AreTokensOf c.args.text.now)) c.in-Some.is c.in_ok-tokens.ensures) h) c.upgrade_in.ensures

pub returns-in-None : goal.returns-in-None
returns-in-None c = none_behind (AreTokensOf c.args.text.now) SpellsUpgrade (subst (FindsOnly (AreTokensOf c.args.text.now)) c.in-None.is c.in_ok-tokens.ensures)
