use Rattle.cluster_core.proofs.Stepping.{no_step, steps_at}
use Rattle.cluster_core.proofs.Steps.{as_many, one_less}
use Rattle.front_end.specs.Moving.{steps_left}
use Rattle.std.proofs.Common.{arith}
use Rattle.std.specs.Vec.{vec_len}
use Rattle.cluster_core.proofs.cluster.Cluster.turn.Goals as goal

pub returns-in-Some-clause-moved : goal.returns-in-Some-clause-moved
returns-in-Some-clause-moved g c = λ is_step moved. one_less steps_left c.args.self.now.clients.items c.args.place c.in-Some.client.now c.lend-sites.new.client c.in-Some.ensures.item.3.0 c.in-Some.ensures.item.1 (c.lend-sites.ensures.moved is_step moved)

pub returns-in-Some-clause-ended : goal.returns-in-Some-clause-ended
returns-in-Some-clause-ended g c = λ ended. as_many steps_left c.args.self.now.clients.items c.args.place c.in-Some.client.now c.lend-sites.new.client c.in-Some.ensures.item.3.0 c.in-Some.ensures.item.1 (c.lend-sites.ensures.ended ended)

pub returns-in-Some-clause-steps : goal.returns-in-Some-clause-steps
returns-in-Some-clause-steps g c = λ is_step. steps_at c.args.self.now.clients.items c.args.place c.in-Some.client.now c.lend-sites.new.client c.lend-sites.result.1 c.in-Some.ensures.item.3.0 c.in-Some.ensures.item.1 (c.lend-sites.ensures.moved is_step) (c.lend-sites.ensures.over is_step)

pub returns-in-None-clause-steps : goal.returns-in-None-clause-steps
returns-in-None-clause-steps g c = λ is_step. no_step c.args.self.now.clients.items c.args.place (vec_len c.args.self.now.clients) (omega (arith, c.args.self.now.clients.ok.0)) c.in-None.ensures.variant.1
