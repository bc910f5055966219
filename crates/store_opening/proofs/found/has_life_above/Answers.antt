use Rattle.std.proofs.Common.{subst, ℕ, ◌<◌}
use Rattle.std.proofs.lemmas.Bool.{ltb-true}
use Rattle.store_opening.proofs.Limits.{known_life}
use Rattle.store_opening.specs.Seated.{IsSeated}
use Rattle.store_opening.proofs.found.has_life_above.Goals as goal

pub returns-in-Known : goal.returns-in-Known
returns-in-Known g c = λ is. record {
  each = λ part images seated reads.
      known_life (g.P.Parts.disks part) _ c.recovered.result.now c.recovered.ensures c.args.limit
      (subst (λ (n : ℕ). c.args.limit < n) c.life.ensures (ltb-true c.args.limit c.life.result is))
      images (subst (λ x. IsSeated g.P.Parts.disks part x) c.in-Known.is seated) reads;
}
