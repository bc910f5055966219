use Rattle.store_opening.proofs.Holding.{known_stands}
use Rattle.store_opening.proofs.Misfits.{known_log}
use Rattle.store_opening.specs.Seated.{IsSeated}
use Rattle.std.proofs.Common.{subst}
use Rattle.store_opening.proofs.closed.Closed.read.Goals as goal

pub returns-in-Known-clause-stands : goal.returns-in-Known-clause-stands
returns-in-Known-clause-stands g c = λ part images seated reads.
    known_stands (g.P.Parts.disks part) _ c.read.result.recovered.now c.read.ensures images (subst (λ x. IsSeated g.P.Parts.disks part x) c.in-Known.is seated) reads

pub returns-in-Known-clause-log : goal.returns-in-Known-clause-log
returns-in-Known-clause-log g c = λ part images seated reads.
    known_log (g.P.Parts.disks part) _ c.read.result.recovered.now c.read.ensures images (subst (λ x. IsSeated g.P.Parts.disks part x) c.in-Known.is seated) reads
