use Rattle.std.proofs.lemmas.List.{nil_from_length}
use Rattle.store_opening.proofs.Freshness.{fresh_first, fresh_none}
use Rattle.store_opening.proofs.found.begins_fresh.Goals as goal

pub returns-in-Some : goal.returns-in-Some
returns-in-Some g c = λ is parts images seated reads.
    fresh_first g.P.Parts.disks c.args.places.now c.in-Some.first.now c.in-Some._others.now c.in-Some.ensures.cases.0 (c.is_fresh.ensures is) parts images seated reads

pub returns-in-None : goal.returns-in-None
returns-in-None g c = λ is parts images seated reads.
    fresh_none g.P.Parts.disks c.args.places.now (nil_from_length c.args.places.now c.in-None.ensures.cases) parts images seated reads
