use Rattle.client_port.specs.Works.{FinishWork}
use Rattle.cluster_port.proofs.Counting.{failed_at, steady_at}
use Rattle.cluster_port.proofs.Lending.{lent_at, none_at}
use Rattle.cluster_port.proofs.Placing.{placed_at}
use Rattle.repo_refusals.specs.declared.refusal.Refusal.TheVariants as refused
use Rattle.std.proofs.Common.{arith, refl}
use Rattle.std.specs.Prelude.{Err}
use Rattle.std.specs.Vec.{vec_len}
use Rattle.cluster_port.proofs.calls.finish.Goals as goal

pub returns-in-Some-clause-placed : goal.returns-in-Some-clause-placed
returns-in-Some-clause-placed g c = placed_at c.args.sites.now.items c.from.result (vec_len c.args.sites.now) c.in-Some.site.now c.finish.new.self c.requires c.finish.ensures.happens.number (omega (arith, c.args.sites.now.ok.0)) (c.in-Some.ensures.variant.0 refl) c.in-Some.ensures.value

pub returns-in-Some-clause-does : goal.returns-in-Some-clause-does
returns-in-Some-clause-does g c = λ based n. lent_at g.O.Opening.run n c.args.sites.now.items c.args.repo c.from.result (vec_len c.args.sites.now) c.in-Some.site.now c.finish.new.self c.requires c.finish.ensures.happens c.from.ensures (omega (arith, c.args.sites.now.ok.0)) (c.in-Some.ensures.variant.0 refl) c.in-Some.ensures.value c.finish.result (FinishWork c.args.verdict.now.tx c.args.verdict.now.commit c.finish.result) (c.finish.ensures.shows n based)

pub returns-in-None-clause-does : goal.returns-in-None-clause-does
returns-in-None-clause-does g c = λ based n. none_at g.O.Opening.run n c.args.sites.now.items c.args.repo c.from.result (vec_len c.args.sites.now) c.from.ensures (omega (arith, c.args.sites.now.ok.0)) c.in-None.ensures.variant.1 (Err (refused.Down c.args.repo)) (FinishWork c.args.verdict.now.tx c.args.verdict.now.commit (Err (refused.Down c.args.repo))) refl

pub returns-in-Some-clause-stopped : goal.returns-in-Some-clause-stopped
returns-in-Some-clause-stopped g c = λ n is. failed_at c.args.sites.now.items c.args.repo c.from.result (vec_len c.args.sites.now) c.in-Some.site.now c.finish.new.self c.from.ensures (omega (arith, c.args.sites.now.ok.0)) (c.in-Some.ensures.variant.0 refl) c.in-Some.ensures.value (c.finish.ensures.stopped n is)

pub returns-in-Some-clause-steady : goal.returns-in-Some-clause-steady
returns-in-Some-clause-steady g c = steady_at c.finish.result c.args.sites.now.items c.from.result (vec_len c.args.sites.now) c.in-Some.site.now c.finish.new.self (omega (arith, c.args.sites.now.ok.0)) (c.in-Some.ensures.variant.0 refl) c.in-Some.ensures.value c.finish.ensures.steady
