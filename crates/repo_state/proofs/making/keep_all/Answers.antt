use Rattle.std.proofs.lemmas.Grind.{common_steps}
use Rattle.std.proofs.Common.{arith, ◌≡◌, [], ◌∷◌, false, rules, subst, sym, true}
use Rattle.std.specs.Vec.Iter.{into_iter_items}
use Rattle.thor_value.specs.FiniteMap.{has}
use Rattle.two_phase.specs.Contents.{Contents}
use Rattle.repo_state.proofs.Filled.{keep_next}
use Rattle.repo_state.proofs.Unfit.{none_keeps, one_both}
use Rattle.repo_state.specs.Making.{KeepsTo}
use Rattle.repo_state.proofs.making.keep_all.Goals as goal

pub loop-tx-preserved : goal.loop-tx-preserved
loop-tx-preserved c = λ prepared to.
    let step : into_iter_items c.loop-tx.tx-iterator ≡ c.in-Some.tx ∷ into_iter_items c.next.new.self = search rules in
    let new : has c.loop-tx.table.transactions c.in-Some.tx ≡ false = search rules in
    subst (λ (d : Contents). KeepsTo c.args.repo prepared c.args.kept d (into_iter_items c.next.new.self)) (sym c.in_ok-keep.ensures.ok)
    (keep_next c.args.repo prepared c.args.kept c.requires.rise c.loop-tx.table c.in-Some.tx (into_iter_items c.next.new.self) new (subst (KeepsTo c.args.repo prepared c.args.kept c.loop-tx.table) step (c.loop-tx.invariant prepared to)))

pub returns-clause-all : goal.returns-clause-all
returns-clause-all c = λ prepared to.
    let done : into_iter_items c.loop-tx.tx-iterator ≡ [] = grind (arith, common_steps, c.in-None.ensures.steps, c.next.ensures.steps) in
    subst (KeepsTo c.args.repo prepared c.args.kept c.loop-tx.table) done (c.loop-tx.invariant prepared to)

pub returns-then-knows-clause-unfit : goal.returns-then-knows-clause-unfit
returns-then-knows-clause-unfit c = λ prepared to is.
    let step : into_iter_items c.loop-tx.tx-iterator ≡ c.in-Some.tx ∷ into_iter_items c.next.new.self = search rules in
    let there : has c.loop-tx.table.transactions c.in-Some.tx ≡ true = search rules in
    none_keeps c.args.repo prepared c.args.kept c.requires.rise c.loop-tx.table c.in-Some.tx (into_iter_items c.next.new.self) (subst (KeepsTo c.args.repo prepared c.args.kept c.loop-tx.table) step (c.loop-tx.invariant prepared to)) there

pub returns-then-knows-clause-broken : goal.returns-then-knows-clause-broken
returns-then-knows-clause-broken c = λ prepared to is all.
    let step : into_iter_items c.loop-tx.tx-iterator ≡ c.in-Some.tx ∷ into_iter_items c.next.new.self = search rules in
    let there : has c.loop-tx.table.transactions c.in-Some.tx ≡ true = search rules in
    one_both c.args.repo prepared c.args.kept c.requires.rise c.loop-tx.table c.in-Some.tx (into_iter_items c.next.new.self) (subst (KeepsTo c.args.repo prepared c.args.kept c.loop-tx.table) step (c.loop-tx.invariant prepared to)) there all
