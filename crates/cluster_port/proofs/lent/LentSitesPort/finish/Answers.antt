use Rattle.client_port.specs.Works.{FinishWork}
use Rattle.cluster_port.proofs.Lending.{as_lent}
use Rattle.cluster_port.specs.Lent.{view_of}
use Rattle.cluster_port.proofs.lent.LentSitesPort.finish.Goals as goal

pub returns : goal.returns
returns g c = record {
  call = λ based. as_lent g.O.Opening.run c.self.inside.client c.self.inside.sites.items c.args.self.now (view_of g.O.Opening.run c.self.inside.client c.finish.new.sites.items) c.args.repo c.finish.result (FinishWork c.args.verdict.now.tx c.args.verdict.now.commit c.finish.result) c.self.view_is (c.finish.ensures.does based c.self.inside.client);
}
