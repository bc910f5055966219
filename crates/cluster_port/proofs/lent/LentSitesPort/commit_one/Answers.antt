use Rattle.client_port.specs.Works.{CommitWork}
use Rattle.cluster_port.proofs.Lending.{as_lent}
use Rattle.cluster_port.specs.Lent.{view_of}
use Rattle.cluster_port.proofs.lent.LentSitesPort.commit_one.Goals as goal

pub returns : goal.returns
returns g c = record {
  call = λ based. as_lent g.O.Opening.run c.self.inside.client c.self.inside.sites.items c.args.self.now (view_of g.O.Opening.run c.self.inside.client c.commit_one.new.sites.items) c.args.at.repo c.commit_one.result (CommitWork c.args.at.session c.args.request c.commit_one.result) c.self.view_is (c.commit_one.ensures.does based c.self.inside.client);
}
