use Rattle.client_port.specs.Works.{AskWork}
use Rattle.cluster_port.proofs.Counting.{same_at}
use Rattle.cluster_port.proofs.Lending.{lent_at, none_at}
use Rattle.cluster_port.proofs.Placing.{placed_at}
use Rattle.repo_refusals.specs.declared.refusal.Refusal.TheVariants as refused
use Rattle.std.proofs.Common.{arith, refl}
use Rattle.std.specs.Prelude.{Err}
use Rattle.std.specs.Vec.{vec_len}
use Rattle.cluster_port.proofs.calls.ask.Goals as goal

pub returns-in-Some-clause-placed : goal.returns-in-Some-clause-placed
returns-in-Some-clause-placed g c = placed_at c.args.sites.now.items c.from.result (vec_len c.args.sites.now) c.in-Some.site.now c.ask.new.self c.requires c.ask.ensures.happens.number (omega (arith, c.args.sites.now.ok.0)) (c.in-Some.ensures.variant.0 refl) c.in-Some.ensures.value

pub returns-in-Some-clause-does : goal.returns-in-Some-clause-does
returns-in-Some-clause-does g c = λ based n. lent_at g.O.Opening.run n c.args.sites.now.items c.args.repo c.from.result (vec_len c.args.sites.now) c.in-Some.site.now c.ask.new.self c.requires c.ask.ensures.happens c.from.ensures (omega (arith, c.args.sites.now.ok.0)) (c.in-Some.ensures.variant.0 refl) c.in-Some.ensures.value c.ask.result (AskWork c.args.tx c.ask.result) (c.ask.ensures.shows n based)

pub returns-in-None-clause-does : goal.returns-in-None-clause-does
returns-in-None-clause-does g c = λ based n. none_at g.O.Opening.run n c.args.sites.now.items c.args.repo c.from.result (vec_len c.args.sites.now) c.from.ensures (omega (arith, c.args.sites.now.ok.0)) c.in-None.ensures.variant.1 (Err (refused.Down c.args.repo)) (AskWork c.args.tx (Err (refused.Down c.args.repo))) refl

pub returns-in-Some-clause-counts : goal.returns-in-Some-clause-counts
returns-in-Some-clause-counts g c = same_at c.args.sites.now.items c.from.result (vec_len c.args.sites.now) c.in-Some.site.now c.ask.new.self (omega (arith, c.args.sites.now.ok.0)) (c.in-Some.ensures.variant.0 refl) c.in-Some.ensures.value c.ask.ensures.counts
