use Rattle.cluster_core.proofs.Seating.{on_ok_of}
use Rattle.cluster_core.specs.Failing.{NoneFellOn, faults_at}
use Rattle.cluster_core.specs.Seated.{AreRecovered}
use Rattle.cluster_core.proofs.opening.open_stored.Goals as goal

pub returns-in-Some-clause-recovered : goal.returns-in-Some-clause-recovered
returns-in-Some-clause-recovered g c = on_ok_of c.open_all-seats.result.1 c.with.result (AreRecovered g.P.Parts.disks c.args.places.items) c.open_all-seats.ensures.recovered c.with.ensures.opened

pub returns-in-Some-clause-fell : goal.returns-in-Some-clause-fell
returns-in-Some-clause-fell g c = on_ok_of c.open_all-seats.result.1 c.with.result (NoneFellOn g.P.Parts.disks (faults_at g.P.Parts.disks) c.args.places.items c.open_all-seats.result.0.items) c.open_all-seats.ensures.fell c.with.ensures.opened

pub returns-in-Some-clause-failed : goal.returns-in-Some-clause-failed
returns-in-Some-clause-failed g c = λ r is. c.open_all-seats.ensures.failed r (c.with.ensures.failed r is)
