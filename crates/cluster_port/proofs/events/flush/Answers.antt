use Rattle.cluster_port.proofs.Happening.{happened_at, none_happened}
use Rattle.cluster_port.proofs.Placing.{placed_at}
use Rattle.repo_site.specs.Happening.{Flushes}
use Rattle.std.proofs.Common.{arith, refl}
use Rattle.std.specs.Vec.{vec_len}
use Rattle.cluster_port.proofs.events.flush.Goals as goal

pub returns-in-Some-clause-placed : goal.returns-in-Some-clause-placed
returns-in-Some-clause-placed g c = placed_at c.args.sites.now.items c.args.place (vec_len c.args.sites.now) c.in-Some.site.now c.flush.new.self c.requires c.flush.ensures.happens.number (omega (arith, c.args.sites.now.ok.0)) (c.in-Some.ensures.variant.0 refl) c.in-Some.ensures.value

pub returns-in-Some-clause-does : goal.returns-in-Some-clause-does
returns-in-Some-clause-does g c = happened_at Flushes c.args.sites.now.items c.args.place (vec_len c.args.sites.now) c.in-Some.site.now c.flush.new.self (omega (arith, c.args.sites.now.ok.0)) (c.in-Some.ensures.variant.0 refl) c.in-Some.ensures.value c.flush.ensures.does

pub returns-in-None-clause-does : goal.returns-in-None-clause-does
returns-in-None-clause-does g c = none_happened Flushes c.args.sites.now.items c.args.place (vec_len c.args.sites.now) (omega (arith, c.args.sites.now.ok.0)) c.in-None.ensures.variant.1
