use Rattle.repo_opening.specs.Paged.{PutsStored}
use Rattle.store_opening.proofs.Holding.{always}
use Rattle.store_opening.proofs.Misfits.{told_as}
use Rattle.std.proofs.Common.{IsErrOf, Ok, ap, length, rules, ◌∙◌, ◌≡◌}
use Rattle.repo_opening.proofs.Reading.{reads_on}
use Rattle.disk_trait.proofs.Several.{goes_then}
use Rattle.repo_opening.specs.declared.unopened.Unopened.TheVariants.{Damaged, Failed}
use Rattle.store_opening.specs.Seated.{disks_at}
use Rattle.store_opening.specs.Unsound.{NotOpen, Unsound}
use Rattle.store_opening.proofs.Freshness.{finds_fresh}
use Rattle.store_opening.proofs.found.read_behind.Goals as goal

pub placed-requires-clause-fresh : goal.placed-requires-clause-fresh
placed-requires-clause-fresh g c =
    finds_fresh (g.P.Parts.disks c.args.part) (g.P.Parts.disks c.read_repository.new.parts) c.in-Ok.found c.read_repository.ensures.same.content (λ images reads none. c.in-Ok.ensures.fresh images reads (ap (λ f. Ok f) none))

pub returns-in-Ok-clause-seated : goal.returns-in-Ok-clause-seated
returns-in-Ok-clause-seated g c = c.placed.ensures.seated c.args.part c.read_repository.ensures.same

pub returns-in-Ok-clause-put : goal.returns-in-Ok-clause-put
returns-in-Ok-clause-put g c = λ images reads. always c.placed.result.1 (PutsStored images c.args.objects.now c.read_repository.new.objects) (c.in-Ok.ensures.stored images reads)

pub returns-in-Ok-clause-damaged : goal.returns-in-Ok-clause-damaged
returns-in-Ok-clause-damaged g c = λ image r d place reads is.
    let told = c.placed.ensures.damaged r d place is in
    let fresh = told.3.each image (reads_on (g.P.Parts.disks c.args.part) (g.P.Parts.disks c.read_repository.new.parts) c.read_repository.ensures.same.content image reads) in
    let first : c.in-Ok-Ok.repo ≡ length c.args.places.now = search rules in
    (told.0 ∙ first, NotOpen fresh told.4 told.1 told.2)

pub returns-in-Err-clause-damaged : goal.returns-in-Err-clause-damaged
returns-in-Err-clause-damaged g c = λ image r d place reads is.
    let wrong : IsErrOf c.read_repository.result (Damaged r d place) = search rules in
    let told = c.read_repository.ensures.damaged image r d place reads wrong in
    let first : c.in-Ok-Ok.repo ≡ length c.args.places.now = search rules in
    let second : c.in-Ok-Ok.repos ≡ c.args.repos = search rules in
    (told.0 ∙ first, Unsound (told_as c.in-Ok-Ok.repo c.in-Ok-Ok.repos r c.args.repos d place image told.0 second told.1))

pub returns-in-Ok-clause-goes : goal.returns-in-Ok-clause-goes
returns-in-Ok-clause-goes g c = goes_then (g.P.Parts.disks c.args.part) (g.P.Parts.disks c.read_repository.new.parts) (disks_at g.P.Parts.disks c.placed.result.0) c.read_repository.ensures.goes c.placed.ensures.goes

pub returns-in-Err-clause-failed : goal.returns-in-Err-clause-failed
returns-in-Err-clause-failed g c = λ r is.
    let wrong : IsErrOf c.read_repository.result (Failed r) = search rules in
    let told = c.read_repository.ensures.failed r wrong in
    let first : c.in-Ok-Ok.repo ≡ length c.args.places.now = search rules in
    (told.0 ∙ first, told.1)
