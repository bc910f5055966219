use Rattle.cluster_core.proofs.Failing.{failed_given, fell_handed}
use Rattle.cluster_core.proofs.Seating.{always_ok, at_ok, on_ok_of}
use Rattle.cluster_core.specs.Failing.{NoneFellOn, faults_at}
use Rattle.repo_opening.specs.declared.unopened.Unopened.TheVariants.{Failed}
use Rattle.repo_opening.specs.declared.unopened.Unopened.{Unopened}
use Rattle.store_opening.specs.Failing.{AreCalled}
use Rattle.cluster_core.specs.Counts.{parts_of}
use Rattle.cluster_core.specs.Seated.{Begins, IsFound}
use Rattle.std.proofs.Common.{Err, IfErr, IfOk, IsErrOf, List, ap, subst, sym, vec_len, ◌∙◌, ◌≡◌, ℕ}
use Rattle.store_opening.specs.declared.closed.Closed.{Closed}
use Rattle.cluster_core.proofs.opening.open_found.Goals as goal

pub returns-in-Ok-clause-ok : goal.returns-in-Ok-clause-ok
returns-in-Ok-clause-ok g c = subst (λ (n : ℕ). IfOk c.seated.result (λ cluster. parts_of cluster ≡ n)) (c.open_seats-seats.ensures.count ∙ c.into_repositories-places.ensures.count) c.seated.ensures.ok

pub returns-in-Ok-clause-err : goal.returns-in-Ok-clause-err
returns-in-Ok-clause-err g c = subst (λ (n : ℕ). IfErr c.seated.result (λ fault. vec_len fault.parts ≡ n)) (c.open_seats-seats.ensures.count ∙ c.into_repositories-places.ensures.count) c.seated.ensures.err

pub open_seats-seats-requires-clause-begins : goal.open_seats-seats-requires-clause-begins
open_seats-seats-requires-clause-begins g c =
    subst (λ (m : ℕ). Begins g.O.Opening.run c.into_repositories-places.result.0.items m c.args.plan.start) (sym c.into_repositories-places.ensures.mob)
    (subst (λ (places : List (Closed _)). Begins g.O.Opening.run places c.args.found.mob c.args.plan.start) (sym c.into_repositories-places.ensures.places) c.requires.begins)

pub returns-in-Ok-clause-found : goal.returns-in-Ok-clause-found
returns-in-Ok-clause-found g c =
    let told = on_ok_of c.open_seats-seats.result.1 c.told_to.result (IsFound g.P.Parts.disks c.into_repositories-places.result.0.items c.args.plan.start) c.open_seats-seats.ensures.found c.told_to.ensures.opened in
    always_ok c.seated.result (IsFound g.P.Parts.disks c.args.found.places.items c.args.plan.start)
    (subst (λ (places : List (Closed _)). IsFound g.P.Parts.disks places c.args.plan.start) c.into_repositories-places.ensures.places (at_ok c.told_to.result _ _ c.in-Ok.is told))

pub returns-in-Ok-clause-failed : goal.returns-in-Ok-clause-failed
returns-in-Ok-clause-failed g c = λ given called.
    let told = on_ok_of c.open_seats-seats.result.1 c.told_to.result (NoneFellOn g.P.Parts.disks (faults_at g.P.Parts.disks) c.into_repositories-places.result.0.items c.open_seats-seats.result.0.items) c.open_seats-seats.ensures.fell c.told_to.ensures.opened in
    let each = at_ok c.told_to.result _ _ c.in-Ok.is told in
    let there = subst (λ (places : List (Closed _)). AreCalled g.P.Parts.disks given places) (sym c.into_repositories-places.ensures.places) called in
    c.seated.ensures.failed given (fell_handed g.P.Parts.disks given c.into_repositories-places.result.0.items c.open_seats-seats.result.0.items there each)

pub returns-in-Err-clause-failed : goal.returns-in-Err-clause-failed
returns-in-Err-clause-failed g c = λ given called r is.
    let wrong : IsErrOf c.told_to.result (Failed r) = c.in-Err.is ∙ ap (λ (w : Unopened). Err w) is in
    let there = subst (λ (places : List (Closed _)). AreCalled g.P.Parts.disks given places) (sym c.into_repositories-places.ensures.places) called in
    failed_given g.P.Parts.disks given c.give_back.result.items c.into_repositories-places.result.0.items c.open_seats-seats.result.0.items r there (c.open_seats-seats.ensures.failed r (c.told_to.ensures.failed r wrong)) c.give_back.ensures.gives
