use Rattle.client_port.specs.Works.{DrawWork}
use Rattle.cluster_port.proofs.Lending.{as_lent}
use Rattle.cluster_port.specs.Lent.{view_of}
use Rattle.cluster_port.proofs.lent.LentSitesPort.draw.Goals as goal

pub returns : goal.returns
returns g c = record {
  call = λ based. as_lent g.O.Opening.run c.self.inside.client c.self.inside.sites.items c.args.self.now (view_of g.O.Opening.run c.self.inside.client c.draw.new.sites.items) c.args.at.repo c.draw.result (DrawWork c.args.at.session c.args.floor c.draw.result) c.self.view_is (c.draw.ensures.does based c.self.inside.client);
}
