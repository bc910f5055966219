use Rattle.client_port.specs.Works.{FetchWork}
use Rattle.cluster_port.proofs.Lending.{as_lent}
use Rattle.cluster_port.specs.Lent.{view_of}
use Rattle.cluster_port.proofs.lent.LentSitesPort.fetch.Goals as goal

pub returns : goal.returns
returns g c = record {
  call = λ based. as_lent g.O.Opening.run c.self.inside.client c.self.inside.sites.items c.args.self.now (view_of g.O.Opening.run c.self.inside.client c.fetch.new.sites.items) c.args.at.repo c.fetch.result (FetchWork c.args.at.session c.args.page c.args.upto c.fetch.result) c.self.view_is (c.fetch.ensures.does based c.self.inside.client);
}
