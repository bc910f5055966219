use Rattle.std.proofs.Common.{arith}
use Rattle.std.proofs.lemmas.Bool.Decides.{nat_tests}
use Rattle.std.proofs.lemmas.Bool.{ltb-true}
use Rattle.client_cache.proofs.Named.{last_there, last_tells}
use Rattle.client_cache.proofs.placing.have_names.Goals as goal

pub returns-in-Some : goal.returns-in-Some
returns-in-Some c =
    let told = last_tells c.args.page.now.objects.pairs c.len-count.result c.in-Some.slot c.in-Some.field-0-1.now c.within.ensures.rising c.len-count.ensures c.in-Some.ensures in
    (λ t. told.0 (ltb-true c.in-Some.slot 12 t), λ all. (let below = told.1 all in grind (arith, nat_tests, below)))

pub returns-in-None : goal.returns-in-None
returns-in-None c = absurd (last_there c.args.page.now.objects.pairs c.len-count.result c.len-count.ensures c.if-count-eq0.false c.in-None.ensures)
