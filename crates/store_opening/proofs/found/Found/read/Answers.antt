use Rattle.repo_opening.specs.declared.unopened.Unopened.TheVariants.{Damaged, Failed}
use Rattle.class_defs.specs.Stored.{Objects}
use Rattle.std.proofs.Common.{IsErrOf, List, OnOk, rules, subst, sym}
use Rattle.store_opening.proofs.Failing.{fails_back}
use Rattle.store_opening.specs.Reading.{PutsAll}
use Rattle.store_opening.specs.Seated.{AreSeated}
use Rattle.thor_value.specs.FiniteMap.{empty}
use Rattle.store_opening.specs.declared.closed.Closed.{Closed}
use Rattle.store_opening.proofs.found.Found.read.Goals as goal

pub returns-in-Err-clause-damaged : goal.returns-in-Err-clause-damaged
returns-in-Err-clause-damaged g c = λ images r d place reads is.
    let wrong : IsErrOf c.store_of.result (Damaged r d place) = search rules in
    let seated : AreSeated g.P.Parts.disks c.args.parts.items c.as_slice.result.now = subst (λ (ps : List (Closed _)). AreSeated g.P.Parts.disks c.args.parts.items ps) (sym c.as_slice.ensures.value) c.read_all-places.ensures.seated in
    let put : OnOk c.read_all-places.result.1 (PutsAll images empty c.read_all-places.new.objects) =
    subst (λ (m : Objects). OnOk c.read_all-places.result.1 (PutsAll images m c.read_all-places.new.objects)) c.new-objects.ensures (c.read_all-places.ensures.put images reads) in
    c.store_of.ensures.damaged c.args.parts.items images r d place seated reads put (c.read_all-places.ensures.damaged images r d place reads) wrong

pub returns-in-Err-clause-failed : goal.returns-in-Err-clause-failed
returns-in-Err-clause-failed g c = λ r is.
    let wrong : IsErrOf c.store_of.result (Failed r) = search rules in
    fails_back g.P.Parts.disks c.args.parts.items c.give_back.result.items c.read_all-places.result.0.items r c.give_back.ensures.parts (c.read_all-places.ensures.failed r (c.store_of.ensures.failed r wrong))
