use Rattle.client_port.specs.Works.{AskWork}
use Rattle.cluster_port.proofs.Lending.{as_lent}
use Rattle.cluster_port.specs.Lent.{view_of}
use Rattle.cluster_port.proofs.lent.LentSitesPort.ask.Goals as goal

pub returns : goal.returns
returns g c = record {
  call = λ based. as_lent g.O.Opening.run c.self.inside.client c.self.inside.sites.items c.args.self.now (view_of g.O.Opening.run c.self.inside.client c.ask.new.sites.items) c.args.repo c.ask.result (AskWork c.args.tx c.ask.result) c.self.view_is (c.ask.ensures.does based c.self.inside.client);
}
