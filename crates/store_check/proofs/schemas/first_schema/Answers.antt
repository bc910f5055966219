use Rattle.std.proofs.Common.{subst}
use Rattle.store_check.proofs.Spelling.{found_behind, none_behind, ok_map}
use Rattle.store_check.specs.Spelled.{AreClasses, FindsOnly, IsLawful, IsText}
use Rattle.store_check.proofs.schemas.first_schema.Goals as goal

pub returns-in-Some-clause-schema : goal.returns-in-Some-clause-schema
returns-in-Some-clause-schema c =
    ok_map c.lawful.result _ _
    (λ r h. found_behind (IsText AreClasses c.args.text.now) (IsLawful c.args.repos) c.in-Some.classes _ (subst (FindsOnly (IsText AreClasses c.args.text.now)) c.in-Some.is c.in_ok-classes.ensures) h)
    c.lawful.ensures.schema

pub returns-in-None-clause-schema : goal.returns-in-None-clause-schema
returns-in-None-clause-schema c = none_behind (IsText AreClasses c.args.text.now) (IsLawful c.args.repos) (subst (FindsOnly (IsText AreClasses c.args.text.now)) c.in-None.is c.in_ok-classes.ensures)
