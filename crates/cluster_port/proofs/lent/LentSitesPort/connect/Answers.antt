use Rattle.client_port.specs.Works.{ConnectWork}
use Rattle.cluster_port.proofs.Lending.{as_lent}
use Rattle.cluster_port.specs.Lent.{view_of}
use Rattle.cluster_port.proofs.lent.LentSitesPort.connect.Goals as goal

pub returns : goal.returns
returns g c = record {
  call = λ based. as_lent g.O.Opening.run c.self.inside.client c.self.inside.sites.items c.args.self.now (view_of g.O.Opening.run c.self.inside.client c.connect.new.sites.items) c.args.repo c.connect.result (ConnectWork c.args.client c.connect.result) c.self.view_is (c.connect.ensures.does based c.self.inside.client);
}
