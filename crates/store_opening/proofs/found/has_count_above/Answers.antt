use Rattle.std.proofs.Common.{subst}
use Rattle.store_opening.specs.Seated.{IsSeated}
use Rattle.store_opening.proofs.found.has_count_above.Goals as goal

pub returns-in-Known : goal.returns-in-Known
returns-in-Known g c = λ is. record {
  each = λ part images seated reads.
      c.counts_above.ensures is part images (subst (λ x. IsSeated g.P.Parts.disks part x) c.in-Known.is seated) reads;
}
