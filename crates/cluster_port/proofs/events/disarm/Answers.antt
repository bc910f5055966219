use Rattle.cluster_port.proofs.Placing.{placed_at}
use Rattle.std.proofs.Common.{arith, refl}
use Rattle.std.specs.Vec.{vec_len}
use Rattle.cluster_port.proofs.events.disarm.Goals as goal

pub returns-in-Some-clause-placed : goal.returns-in-Some-clause-placed
returns-in-Some-clause-placed g c = placed_at c.args.sites.now.items c.args.place (vec_len c.args.sites.now) c.in-Some.site.now c.disarm.new.self c.requires c.disarm.ensures.happens.number (omega (arith, c.args.sites.now.ok.0)) (c.in-Some.ensures.variant.0 refl) c.in-Some.ensures.value
