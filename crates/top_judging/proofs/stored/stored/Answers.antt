use Rattle.class_defs.specs.declared.store.Plain.{Plain}
use Rattle.std.proofs.Common.{Option, subst}
use Rattle.store_opening.specs.Reading.{IsOpenedIn}
use Rattle.top_judging.proofs.StageLaws.{opened_at}
use Rattle.top_judging.proofs.stored.stored.Goals as goal

pub returns-then-store-len-clause-opened : goal.returns-then-store-len-clause-opened
returns-then-store-len-clause-opened g c = λ images stored.
    let found = c.args.found.now.store in
    opened_at images found c.args.base.now c.in-Some.store c.requires
    (subst (λ (o : Option Plain). IsOpenedIn images found o) c.in-Some.is (c.in_ok-store.ensures.opened images stored))
