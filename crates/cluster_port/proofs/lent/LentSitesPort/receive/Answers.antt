use Rattle.client_port.specs.Works.{ReceiveWork}
use Rattle.cluster_port.proofs.Lending.{as_lent}
use Rattle.cluster_port.specs.Lent.{view_of}
use Rattle.cluster_port.proofs.lent.LentSitesPort.receive.Goals as goal

pub returns : goal.returns
returns g c = record {
  call = λ based. as_lent g.O.Opening.run c.self.inside.client c.self.inside.sites.items c.args.self.now (view_of g.O.Opening.run c.self.inside.client c.receive.new.sites.items) c.args.at.repo c.receive.result (ReceiveWork c.args.at.session c.receive.result) c.self.view_is (c.receive.ensures.does based c.self.inside.client);
}
