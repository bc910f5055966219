use Rattle.std.proofs.Common.{◌≡◌, ◌∷◌, ◌++◌, ap, rules, sym, ◌∙◌}
use Rattle.std.specs.Vec.Iter.{into_iter_items}
use Rattle.mob_buffer.specs.Buffer.{Objects}
use Rattle.repo_state.proofs.Buffers.{filled, of_own}
use Rattle.repo_state.proofs.making.buffer_of.Goals as goal

pub load-requires-clause-one_repo : goal.load-requires-clause-one_repo
load-requires-clause-one_repo c =
    let step : into_iter_items c.loop-name.name-iterator ≡ (c.in-Some.name, c.in-Some.object) ∷ into_iter_items c.next.new.self = search rules in
    of_own c.args.repo c.loop-name.buffer.objects (into_iter_items c.next.new.self) c.args.mob (c.in-Some.name, c.in-Some.object) (ap (λ (rest : Objects). c.loop-name.buffer.objects ++ rest) (sym step) ∙ c.loop-name.invariant.1) c.requires.one_repo

pub loop-name-preserved : goal.loop-name-preserved
loop-name-preserved c =
    let step : into_iter_items c.loop-name.name-iterator ≡ (c.in-Some.name, c.in-Some.object) ∷ into_iter_items c.next.new.self = search rules in
    filled c.loop-name.buffer c.load.new.self c.args.mob_limit (into_iter_items c.next.new.self) c.args.mob (c.in-Some.name, c.in-Some.object) c.requires.distinct c.loop-name.invariant.0
    (ap (λ (rest : Objects). c.loop-name.buffer.objects ++ rest) (sym step) ∙ c.loop-name.invariant.1) c.in_ok-load.ensures.ok
