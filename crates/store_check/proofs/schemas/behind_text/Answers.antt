use Rattle.std.proofs.Common.{subst}
use Rattle.store_check.proofs.Spelling.{found_behind, none_behind, ok_map}
use Rattle.store_check.specs.Spelled.{FindsOnly, IsEpochOf, IsText}
use Rattle.upgrade_defs.specs.Texts.{SpellsUpgrade}
use Rattle.store_check.proofs.schemas.behind_text.Goals as goal

pub returns-in-Some-clause-epoch : goal.returns-in-Some-clause-epoch
returns-in-Some-clause-epoch c =
    ok_map c.behind_upgrade.result _ _
    (λ r h. found_behind (IsText SpellsUpgrade c.args.text.now) (IsEpochOf c.args.standing.repos c.args.roots.now c.args.standing.schema) c.in-Some.upgrade _
    (subst (FindsOnly (IsText SpellsUpgrade c.args.text.now)) c.in-Some.is c.in_ok-upgrade.ensures) h)
    c.behind_upgrade.ensures.epoch

pub returns-clause-epoch : goal.returns-clause-epoch
returns-clause-epoch c =
    none_behind (IsText SpellsUpgrade c.args.text.now) (IsEpochOf c.args.standing.repos c.args.roots.now c.args.standing.schema)
    (subst (FindsOnly (IsText SpellsUpgrade c.args.text.now)) c.in-None.is c.in_ok-upgrade.ensures)
