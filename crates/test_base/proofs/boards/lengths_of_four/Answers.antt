use Rattle.std.proofs.Common.{◌∙◌, arith}
use Rattle.test_base.proofs.SampleLemmas.{has_at}
use Rattle.test_base.proofs.boards.lengths_of_four.Goals as goal

pub close-requires-clause-owners : goal.close-requires-clause-owners
close-requires-clause-owners g c = λ i x e. let o = c.in-Ok.ensures.owners i x e in (o.0, o.1)

pub returns : goal.returns
returns g c = λ r lt.
    let at = has_at c.in-Ok.owners.items r (omega (arith, lt, c.in-Ok.ensures.count)) in
    c.close.ensures.lengths r at.0 at.1 ∙ (c.in-Ok.ensures.owners r at.0 at.1).2
