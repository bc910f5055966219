use Rattle.client_port.specs.Works.{ForgetWork}
use Rattle.cluster_port.proofs.Lending.{as_lent}
use Rattle.cluster_port.specs.Lent.{view_of}
use Rattle.cluster_port.proofs.lent.LentSitesPort.forget.Goals as goal

pub returns : goal.returns
returns g c = record {
  call = λ based. as_lent g.O.Opening.run c.self.inside.client c.self.inside.sites.items c.args.self.now (view_of g.O.Opening.run c.self.inside.client c.forget.new.sites.items) c.args.repo c.forget.result (ForgetWork c.args.tx c.forget.result) c.self.view_is (c.forget.ensures.does based c.self.inside.client);
}
