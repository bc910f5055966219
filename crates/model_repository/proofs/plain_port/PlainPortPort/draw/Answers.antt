use Rattle.model_repository.proofs.Lending.{lent_at, none_at}
use Rattle.client_port.specs.Works.{DrawWork}
use Rattle.std.proofs.Common.{arith, refl}
use Rattle.std.specs.Prelude.{Err}
use Rattle.std.specs.Vec.{vec_len}
use Rattle.repo_refusals.specs.declared.refusal.Refusal.TheVariants as refused
use Rattle.model_repository.proofs.plain_port.PlainPortPort.draw.Goals as goal

pub returns-in-Some : goal.returns-in-Some
returns-in-Some g c = record {
  call = λ _. lent_at (g.R.Reads.bases c.args.self.now.reader) c.args.self.now.client c.args.self.now.sites.items c.args.at.repo c.from.result (vec_len c.args.self.now.sites) c.in-Some.site.now c.draw.new.site c.from.ensures (omega (arith, c.args.self.now.sites.ok.0)) (c.in-Some.ensures.variant.0 refl) c.in-Some.ensures.value c.draw.result (DrawWork c.args.at.session c.args.floor c.draw.result) c.draw.ensures;
}

pub returns-in-None : goal.returns-in-None
returns-in-None g c = record {
  call = λ _. none_at (g.R.Reads.bases c.args.self.now.reader) c.args.self.now.client c.args.self.now.sites.items c.args.at.repo c.from.result (vec_len c.args.self.now.sites) c.from.ensures (omega (arith, c.args.self.now.sites.ok.0)) c.in-None.ensures.variant.1 (Err (refused.Down c.args.at.repo)) (DrawWork c.args.at.session c.args.floor (Err (refused.Down c.args.at.repo))) refl;
}
