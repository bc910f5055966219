use Rattle.recovery.specs.Reopening.{reopens}
use Rattle.recovery.specs.declared.recovered.Recovered.{Recovered}
use Rattle.disk_trait.specs.Disks.{WhereTold}
use Rattle.recovery.specs.Found.{recorded}
use Rattle.recovery.specs.Paged.{AreObjectPages, HasSides}
use Rattle.repo_opening.proofs.Reading.{has_pages, holds_reads, reads_on, recovered_on, same_on, stored_is}
use Rattle.disk_trait.proofs.Several.{goes_one, goes_then}
use Rattle.repo_opening.proofs.SaidPages.{has_said, lacks_said, other_is, pages_fail, reopened_as, unsound_of}
use Rattle.repo_opening.proofs.Syncing.{failing_then, same_then}
use Rattle.repo_opening.specs.declared.unopened.Unopened.TheVariants.{Damaged, Failed}
use Rattle.repo_opening.specs.Recovered.{IsHeld, IsRecovered}
use Rattle.disk_trait.specs.AllDisks.{ReadsAs}
use Rattle.mob_flusher.specs.Map.{Kept}
use Rattle.page_store.specs.Store.{Store}
use Rattle.repo_opening.specs.Paged.{PutsPaged}
use Rattle.repo_opening.specs.Unsound.{OfPage}
use Rattle.std.proofs.Common.{IsErrOf, List, ap, arith, rules, subst, sym, ◌∙◌, ◌≡◌, ℕ}
use Rattle.repo_opening.proofs.repository.read_repository.Goals as goal

pub returns-clause-found : goal.returns-clause-found
returns-clause-found g c =
    let r = c.in-Some.recovered in
    let known : IsHeld (g.P.Parts.disks c.recover_one.new.parts) r = rw c.in-Some.is at c.in_ok-recovered.ensures.found in
    let same : c.sides-sides.result.now ≡ r.state.objects.pages.sides = c.sides-sides.ensures ∙ ap (λ (s : Store). s.sides) (c.pages.ensures ∙ ap (λ (k : Kept). k.pages) c.objects.ensures) in
    let sides : WhereTold (g.P.Parts.disks c.read_pages.new.parts) 2 (HasSides r.format r.state.objects.pages.sides) = subst (λ (qs : List (ℕ × ℕ)). WhereTold (g.P.Parts.disks c.read_pages.new.parts) 2 (HasSides r.format qs)) same c.in-Ok.ensures.sides in
    let paged : WhereTold (g.P.Parts.disks c.read_pages.new.parts) 2 (AreObjectPages r.format r.state.repo r.state.objects.pages.sides) = λ disk told. has_pages r c.args.repo c.sides-sides.result.now disk c.args.objects.now c.read_pages.new.objects same c.in_ok-read.ensures.number (c.in-Ok.ensures.paged disk (sym c.read_pages.ensures.stays.content ∙ told)) in
    let stays : IsRecovered (g.P.Parts.disks c.read_pages.new.parts) r = recovered_on (g.P.Parts.disks c.recover_one.new.parts) (g.P.Parts.disks c.read_pages.new.parts) r c.read_pages.ensures.stays sides paged known in
    subst (λ (x : Recovered). IsRecovered (g.P.Parts.disks c.read_pages.new.parts) x) (sym (ap (λ (p : Recovered × ℕ). p.0) c.in_ok-read.ensures.read)) stays

pub returns-clause-same : goal.returns-clause-same
returns-clause-same g c =
    same_then (g.P.Parts.disks c.args.parts.now) (g.P.Parts.disks c.sync.new.parts) (g.P.Parts.disks c.read_pages.new.parts) c.sync.ensures.same
    (same_then (g.P.Parts.disks c.sync.new.parts) (g.P.Parts.disks c.recover_one.new.parts) (g.P.Parts.disks c.read_pages.new.parts) c.recover_one.ensures.same
    (same_on (g.P.Parts.disks c.recover_one.new.parts) (g.P.Parts.disks c.read_pages.new.parts) c.read_pages.ensures.stays))

pub returns-in_err-read-clause-same : goal.returns-in_err-read-clause-same
returns-in_err-read-clause-same g c =
    same_then (g.P.Parts.disks c.args.parts.now) (g.P.Parts.disks c.sync.new.parts) (g.P.Parts.disks c.read_pages.new.parts) c.sync.ensures.same
    (same_then (g.P.Parts.disks c.sync.new.parts) (g.P.Parts.disks c.recover_one.new.parts) (g.P.Parts.disks c.read_pages.new.parts) c.recover_one.ensures.same
    (same_on (g.P.Parts.disks c.recover_one.new.parts) (g.P.Parts.disks c.read_pages.new.parts) c.read_pages.ensures.stays))

pub returns-clause-stored : goal.returns-clause-stored
returns-clause-stored g c = λ images reads.
    let first = g.P.Parts.disks c.args.parts.now in
    let synced = g.P.Parts.disks c.sync.new.parts in
    let found = g.P.Parts.disks c.recover_one.new.parts in
    let r = c.in-Some.recovered in
    let known : IsHeld found r = rw c.in-Some.is at c.in_ok-recovered.ensures.found in
    let number : r.state.repo ≡ c.args.repo = c.in_ok-read.ensures.number in
    let told : ReadsAs found images = reads_on synced found c.recover_one.ensures.same.content images (reads_on first synced c.sync.ensures.same.content images reads) in
    let sides : c.sides-sides.result.now ≡ r.state.objects.pages.sides = c.sides-sides.ensures ∙ ap (λ (s : Store). s.sides) (c.pages.ensures ∙ ap (λ (k : Kept). k.pages) c.objects.ensures) in
    stored_is images r c.args.repo c.args.objects.now c.read_pages.new.objects (holds_reads found r.log (recorded r) known.holds images told) number
    (subst (λ (qs : List (ℕ × ℕ)). PutsPaged r.format c.args.repo (images 2) qs c.args.objects.now c.read_pages.new.objects) sides (c.in-Ok.ensures.paged (images 2) (told 2 (omega arith))))

pub returns-clause-reopens : goal.returns-clause-reopens
returns-clause-reopens g c = λ images reads.
    let told : c.in-Some.recovered.reopens ≡ reopens images = rw c.in-Some.is at c.in_ok-recovered.ensures.reopens images (reads_on (g.P.Parts.disks c.args.parts.now) (g.P.Parts.disks c.sync.new.parts) c.sync.ensures.same.content images reads) in
    sym told ∙ c.in_ok-read.ensures.reopens

-- ---- what is damaged, and what fails

pub returns-in_err-recovered-clause-damaged : goal.returns-in_err-recovered-clause-damaged
returns-in_err-recovered-clause-damaged g c = λ images r d place reads is.
    let wrong : IsErrOf c.recover_one.result (Damaged r d place) = search rules in
    let told = c.recover_one.ensures.damaged images r d place (reads_on (g.P.Parts.disks c.args.parts.now) (g.P.Parts.disks c.sync.new.parts) c.sync.ensures.same.content images reads) wrong in
    (told.0, unsound_of images c.args.repo c.args.repos d place told.1)

pub returns-in_err-recovered-clause-failed : goal.returns-in_err-recovered-clause-failed
returns-in_err-recovered-clause-failed g c = λ r is.
    let wrong : IsErrOf c.recover_one.result (Failed r) = search rules in
    let fails = c.recover_one.ensures.failed r wrong in
    (fails.0, failing_then (g.P.Parts.disks c.args.parts.now) (g.P.Parts.disks c.sync.new.parts) (g.P.Parts.disks c.recover_one.new.parts) c.sync.ensures.goes fails.1)

pub returns-in-Err-clause-damaged : goal.returns-in-Err-clause-damaged
returns-in-Err-clause-damaged g c = λ images r d place reads is.
    let wrong : IsErrOf c.read_pages.result (Damaged r d place) = search rules in
    let first = g.P.Parts.disks c.args.parts.now in
    let synced = g.P.Parts.disks c.sync.new.parts in
    let found = g.P.Parts.disks c.recover_one.new.parts in
    let recovered = c.in-Some.recovered in
    let known : IsHeld found recovered = rw c.in-Some.is at c.in_ok-recovered.ensures.found in
    let told : ReadsAs found images = reads_on synced found c.recover_one.ensures.same.content images (reads_on first synced c.sync.ensures.same.content images reads) in
    let sides : c.sides-sides.result.now ≡ recovered.state.objects.pages.sides = c.sides-sides.ensures ∙ ap (λ (s : Store). s.sides) (c.pages.ensures ∙ ap (λ (k : Kept). k.pages) c.objects.ensures) in
    let none = c.read_pages.ensures.damaged r d place wrong in
    (none.0, OfPage none.1 (lacks_said images (recorded recovered) c.args.repo place c.sides-sides.result.now (holds_reads found recovered.log (recorded recovered) known.holds images told) sides (none.2 (images 2) (told 2 (omega arith)))))

pub returns-in-Err-clause-failed : goal.returns-in-Err-clause-failed
returns-in-Err-clause-failed g c = λ r is.
    let wrong : IsErrOf c.read_pages.result (Failed r) = search rules in
    let first = g.P.Parts.disks c.args.parts.now in
    let synced = g.P.Parts.disks c.sync.new.parts in
    let found = g.P.Parts.disks c.recover_one.new.parts in
    let new = g.P.Parts.disks c.read_pages.new.parts in
    let fails = c.read_pages.ensures.failed r wrong in
    (fails.0, failing_then first found new (goes_then first synced found c.sync.ensures.goes c.recover_one.ensures.goes) (pages_fail found new fails.1))

pub returns-in_err-read-clause-damaged : goal.returns-in_err-read-clause-damaged
returns-in_err-read-clause-damaged g c = λ images r d place reads is.
    let wrong : IsErrOf c.numbered.result (Damaged r d place) = search rules in
    let first = g.P.Parts.disks c.args.parts.now in
    let synced = g.P.Parts.disks c.sync.new.parts in
    let found = g.P.Parts.disks c.recover_one.new.parts in
    let recovered = c.in-Some.recovered in
    let known : IsHeld found recovered = rw c.in-Some.is at c.in_ok-recovered.ensures.found in
    let there = reads_on first synced c.sync.ensures.same.content images reads in
    let told : ReadsAs found images = reads_on synced found c.recover_one.ensures.same.content images there in
    let reopening : recovered.reopens ≡ reopens images = rw c.in-Some.is at c.in_ok-recovered.ensures.reopens images there in
    let sides : c.sides-sides.result.now ≡ recovered.state.objects.pages.sides = c.sides-sides.ensures ∙ ap (λ (s : Store). s.sides) (c.pages.ensures ∙ ap (λ (k : Kept). k.pages) c.objects.ensures) in
    let has = has_said images (recorded recovered) c.args.repo c.sides-sides.result.now c.args.objects.now c.read_pages.new.objects (holds_reads found recovered.log (recorded recovered) known.holds images told) sides (c.in-Ok.ensures.paged (images 2) (told 2 (omega arith))) in
    let other = c.numbered.ensures.damaged r d place wrong in
    (other.0, other_is found images recovered.log (recorded recovered) c.args.repo c.args.repos d place known.holds told other.1 other.2 (reopened_as c.args.repo c.args.repos recovered images reopening other.3) has)

-- ---- calls on the disks

pub returns-clause-goes : goal.returns-clause-goes
returns-clause-goes g c =
    let first = g.P.Parts.disks c.args.parts.now in
    let synced = g.P.Parts.disks c.sync.new.parts in
    let found = g.P.Parts.disks c.recover_one.new.parts in
    let new = g.P.Parts.disks c.read_pages.new.parts in
    goes_then first found new (goes_then first synced found c.sync.ensures.goes c.recover_one.ensures.goes) (goes_one found new 2 c.read_pages.ensures.stays.alone)

pub returns-in-Err-clause-goes : goal.returns-in-Err-clause-goes
returns-in-Err-clause-goes g c =
    let first = g.P.Parts.disks c.args.parts.now in
    let synced = g.P.Parts.disks c.sync.new.parts in
    let found = g.P.Parts.disks c.recover_one.new.parts in
    let new = g.P.Parts.disks c.read_pages.new.parts in
    goes_then first found new (goes_then first synced found c.sync.ensures.goes c.recover_one.ensures.goes) (goes_one found new 2 c.read_pages.ensures.stays.alone)

pub returns-in_err-read-clause-goes : goal.returns-in_err-read-clause-goes
returns-in_err-read-clause-goes g c =
    let first = g.P.Parts.disks c.args.parts.now in
    let synced = g.P.Parts.disks c.sync.new.parts in
    let found = g.P.Parts.disks c.recover_one.new.parts in
    let new = g.P.Parts.disks c.read_pages.new.parts in
    goes_then first found new (goes_then first synced found c.sync.ensures.goes c.recover_one.ensures.goes) (goes_one found new 2 c.read_pages.ensures.stays.alone)
