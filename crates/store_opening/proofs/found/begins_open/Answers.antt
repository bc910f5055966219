use Rattle.store_opening.proofs.Misfits.{open_first}
use Rattle.store_opening.proofs.found.begins_open.Goals as goal

pub returns-in-Some : goal.returns-in-Some
returns-in-Some g c = λ is. open_first g.P.Parts.disks c.args.places.now c.in-Some.first.now c.in-Some._others.now c.in-Some.ensures.cases.0 (c.is_open.ensures is)
