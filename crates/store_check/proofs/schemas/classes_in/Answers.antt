use Rattle.method_parse.specs.Texts.{SpellsSetup}
use Rattle.std.proofs.Common.{subst}
use Rattle.store_check.proofs.Spelling.{classes_found, classes_none}
use Rattle.store_check.specs.Spelled.{FindsOnly}
use Rattle.store_check.proofs.schemas.classes_in.Goals as goal

pub returns-in-Some : goal.returns-in-Some
returns-in-Some c =
    classes_found c.args.tokens.now c.in-Some.setup c.classes_alone.result (subst (FindsOnly (SpellsSetup c.args.tokens.now)) c.in-Some.is c.in_ok-setup.ensures)
    c.classes_alone.ensures.found c.classes_alone.ensures.few c.classes_alone.ensures.none

pub returns-in-None : goal.returns-in-None
returns-in-None c = classes_none c.args.tokens.now (subst (FindsOnly (SpellsSetup c.args.tokens.now)) c.in-None.is c.in_ok-setup.ensures)
