use Rattle.std.proofs.Common.{◌≡◌, ◌∷◌, false, rules, subst, sym, true}
use Rattle.std.specs.Vec.Iter.{into_iter_items}
use Rattle.two_phase.specs.Contents.{Contents}
use Rattle.repo_state.proofs.Filled.{open_new, open_next}
use Rattle.repo_state.proofs.Unfit.{none_opens}
use Rattle.commit_log.specs.Recovered.{are_of}
use Rattle.repo_state.specs.Making.{OpensTo}
use Rattle.repo_state.proofs.making.open_all.Goals as goal

pub open-requires : goal.open-requires
open-requires c =
    let step : into_iter_items c.loop-request.request-iterator ≡ c.in-Some.request ∷ into_iter_items c.next.new.self = search rules in
    open_new c.args.repo c.args.prepared c.requires.rise c.loop-request.table c.in-Some.request (into_iter_items c.next.new.self) (subst (OpensTo c.args.repo c.args.prepared c.loop-request.table) step c.loop-request.invariant)

pub loop-request-preserved : goal.loop-request-preserved
loop-request-preserved c =
    let step : into_iter_items c.loop-request.request-iterator ≡ c.in-Some.request ∷ into_iter_items c.next.new.self = search rules in
    let all : are_of c.args.repo c.in-Some.request.writes ≡ true = search rules in
    subst (λ (d : Contents). OpensTo c.args.repo c.args.prepared d (into_iter_items c.next.new.self)) (sym c.in_ok-open.ensures.ok)
    (open_next c.args.repo c.args.prepared c.requires.rise c.loop-request.table c.in-Some.request (into_iter_items c.next.new.self) (subst (OpensTo c.args.repo c.args.prepared c.loop-request.table) step c.loop-request.invariant) all)

pub returns-then-not-are_of-clause-unfit : goal.returns-then-not-are_of-clause-unfit
returns-then-not-are_of-clause-unfit c = λ is.
    let step : into_iter_items c.loop-request.request-iterator ≡ c.in-Some.request ∷ into_iter_items c.next.new.self = search rules in
    let isnt : are_of c.args.repo c.in-Some.request.writes ≡ false = search rules in
    none_opens c.args.repo c.args.prepared c.loop-request.table c.in-Some.request (into_iter_items c.next.new.self) (subst (OpensTo c.args.repo c.args.prepared c.loop-request.table) step c.loop-request.invariant) isnt
