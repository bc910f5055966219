use Rattle.std.proofs.lemmas.Grind.{common_steps}
use Rattle.std.proofs.Common.{arith, ◌≡◌, [], ◌∷◌, rules, subst, sym}
use Rattle.std.specs.Vec.Iter.{into_iter_items}
use Rattle.two_phase.specs.Contents.{Contents}
use Rattle.repo_state.proofs.Filled.{alone_next}
use Rattle.repo_state.specs.Making.{AlonesTo}
use Rattle.repo_state.proofs.making.put_all.Goals as goal

pub loop-client-preserved : goal.loop-client-preserved
loop-client-preserved c = λ prepared decisions to.
    let step : into_iter_items c.loop-client.client-iterator ≡ (c.in-Some.client, c.in-Some.tx) ∷ into_iter_items c.next.new.self = search rules in
    subst (λ (d : Contents). AlonesTo c.args.repo prepared decisions c.args.alone d (into_iter_items c.next.new.self)) (sym c.in_ok-alone.ensures.ok)
    (alone_next c.args.repo prepared decisions c.args.alone c.requires.rise c.loop-client.table c.in-Some.client c.in-Some.tx (into_iter_items c.next.new.self) (subst (AlonesTo c.args.repo prepared decisions c.args.alone c.loop-client.table) step (c.loop-client.invariant prepared decisions to)))

pub returns-clause-all : goal.returns-clause-all
returns-clause-all c = λ prepared decisions to.
    let done : into_iter_items c.loop-client.client-iterator ≡ [] = grind (arith, common_steps, c.in-None.ensures.steps, c.next.ensures.steps) in
    subst (AlonesTo c.args.repo prepared decisions c.args.alone c.loop-client.table) done (c.loop-client.invariant prepared decisions to)
