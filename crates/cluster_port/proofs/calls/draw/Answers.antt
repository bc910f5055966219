use Rattle.client_port.specs.Works.{DrawWork}
use Rattle.cluster_port.proofs.Lending.{lent_at, none_at}
use Rattle.cluster_port.proofs.Placing.{placed_at}
use Rattle.repo_refusals.specs.declared.refusal.Refusal.TheVariants as refused
use Rattle.std.proofs.Common.{arith, refl}
use Rattle.std.specs.Prelude.{Err}
use Rattle.std.specs.Vec.{vec_len}
use Rattle.cluster_port.proofs.calls.draw.Goals as goal

pub returns-in-Some-clause-placed : goal.returns-in-Some-clause-placed
returns-in-Some-clause-placed g c = placed_at c.args.sites.now.items c.from.result (vec_len c.args.sites.now) c.in-Some.site.now c.draw.new.self c.requires c.draw.ensures.happens.number (omega (arith, c.args.sites.now.ok.0)) (c.in-Some.ensures.variant.0 refl) c.in-Some.ensures.value

pub returns-in-Some-clause-does : goal.returns-in-Some-clause-does
returns-in-Some-clause-does g c = λ based n. lent_at g.O.Opening.run n c.args.sites.now.items c.args.at.repo c.from.result (vec_len c.args.sites.now) c.in-Some.site.now c.draw.new.self c.requires c.draw.ensures.happens c.from.ensures (omega (arith, c.args.sites.now.ok.0)) (c.in-Some.ensures.variant.0 refl) c.in-Some.ensures.value c.draw.result (DrawWork c.args.at.session c.args.floor c.draw.result) (c.draw.ensures.shows n based)

pub returns-in-None-clause-does : goal.returns-in-None-clause-does
returns-in-None-clause-does g c = λ based n. none_at g.O.Opening.run n c.args.sites.now.items c.args.at.repo c.from.result (vec_len c.args.sites.now) c.from.ensures (omega (arith, c.args.sites.now.ok.0)) c.in-None.ensures.variant.1 (Err (refused.Down c.args.at.repo)) (DrawWork c.args.at.session c.args.floor (Err (refused.Down c.args.at.repo))) refl
