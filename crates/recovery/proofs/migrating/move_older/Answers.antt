use Rattle.std.proofs.Common.{IsErrOf, refl, rules, subst, sym, ℕ, ◌∙◌}
use Rattle.disk_trait.proofs.Several.{goes_then}
use Rattle.disk_trait.specs.Disks.{Rose}
use Rattle.log_codec.specs.declared.state.State.{State}
use Rattle.page_format.specs.declared.format.StoreFormat.{StoreFormat}
use Rattle.recovery.proofs.FoundLaws.{unread_agree}
use Rattle.recovery.proofs.Moving.{both_say, err_at, holds_on, reads_goes, reads_say, reads_steady, says_migrated}
use Rattle.recovery.specs.Found.{recorded}
use Rattle.recovery.specs.Migrating.{IsMigrated}
use Rattle.recovery.specs.declared.fault.RecoverFault.TheVariants.{Damaged, Failed, NoMemory}
use Rattle.commit_log.specs.Recovered.{in_format}
use Rattle.repo_state.specs.Said.{said}
use Rattle.recovery.proofs.migrating.move_older.Goals as goal

pub begin_older-requires-clause-holds : goal.begin_older-requires-clause-holds
begin_older-requires-clause-holds g c = (recorded c.args.recovered, holds_on (g.P.Parts.disks c.args.parts.now) (g.P.Parts.disks c.moved_state.new.parts) c.args.recovered.log (recorded c.args.recovered) c.moved_state.ensures.stays c.requires.holds)

pub returns-in_ok-state-in-Ok-clause-goes : goal.returns-in_ok-state-in-Ok-clause-goes
returns-in_ok-state-in-Ok-clause-goes g c = goes_then (g.P.Parts.disks c.args.parts.now) (g.P.Parts.disks c.moved_state.new.parts) (g.P.Parts.disks c.begin_older.new.parts) (reads_goes (g.P.Parts.disks c.args.parts.now) (g.P.Parts.disks c.moved_state.new.parts) c.moved_state.ensures.stays) c.begin_older.ensures.goes

pub returns-in_ok-state-in-Ok-clause-any_moment : goal.returns-in_ok-state-in-Ok-clause-any_moment
returns-in_ok-state-in-Ok-clause-any_moment g c = λ tells images reads.
    let s = recorded c.args.recovered in
    let made : IsMigrated s (images 2) c.in-Ok.state = subst (λ (f : StoreFormat). IsMigrated (in_format f (said c.args.recovered.state)) (images 2) c.in-Ok.state) (sym c.requires.older) (c.in-Ok.ensures.moved images reads) in
    both_say (g.P.Parts.disks c.args.parts.now) (g.P.Parts.disks c.moved_state.new.parts) (g.P.Parts.disks c.begin_older.new.parts) c.args.recovered.log s c.in-Ok.state (images 2) c.moved_state.ensures.stays c.requires.holds tells made
    (λ told. c.begin_older.ensures.any_moment s (holds_on (g.P.Parts.disks c.args.parts.now) (g.P.Parts.disks c.moved_state.new.parts) c.args.recovered.log s c.moved_state.ensures.stays c.requires.holds) told)

pub returns-in_ok-state-in-Ok-clause-content : goal.returns-in_ok-state-in-Ok-clause-content
returns-in_ok-state-in-Ok-clause-content g c = c.begin_older.ensures.pages ∙ c.moved_state.ensures.stays.content

pub returns-in_ok-state-in-Ok-clause-still : goal.returns-in_ok-state-in-Ok-clause-still
returns-in_ok-state-in-Ok-clause-still g c = λ image left. c.moved_state.ensures.stays.crash image (c.begin_older.ensures.still image left)

pub returns-in_ok-state-in-Ok-clause-clock : goal.returns-in_ok-state-in-Ok-clause-clock
returns-in_ok-state-in-Ok-clause-clock g c = c.begin_older.ensures.clock ∙ c.moved_state.ensures.stays.alone.clock

pub returns-in_ok-state-in-Ok-clause-pages : goal.returns-in_ok-state-in-Ok-clause-pages
returns-in_ok-state-in-Ok-clause-pages g c = λ disk reaches. unread_agree c.in_ok-state-in-Ok.state.objects.pages c.in_ok-state-in-Ok.ensures.unread disk reaches

pub returns-in_ok-state-in-Ok-clause-becomes : goal.returns-in_ok-state-in-Ok-clause-becomes
returns-in_ok-state-in-Ok-clause-becomes g c = λ images reads.
    let s = recorded c.args.recovered in
    let made : IsMigrated s (images 2) c.in-Ok.state = subst (λ (f : StoreFormat). IsMigrated (in_format f (said c.args.recovered.state)) (images 2) c.in-Ok.state) (sym c.requires.older) (c.in-Ok.ensures.moved images reads) in
    subst (λ (t : State). IsMigrated s (images 2) t) (sym c.in_ok-state-in-Ok.ensures.said) made

pub returns-in_ok-state-in-Ok-clause-steady : goal.returns-in_ok-state-in-Ok-clause-steady
returns-in_ok-state-in-Ok-clause-steady g c = λ d. c.in_ok-state-in-Ok.ensures.steady d ∙ (reads_steady (g.P.Parts.disks c.args.parts.now) (g.P.Parts.disks c.moved_state.new.parts) c.moved_state.ensures.stays c.in-Ok.ensures.steady d)

pub returns-in_err-state-in-Ok-clause-goes : goal.returns-in_err-state-in-Ok-clause-goes
returns-in_err-state-in-Ok-clause-goes g c = goes_then (g.P.Parts.disks c.args.parts.now) (g.P.Parts.disks c.moved_state.new.parts) (g.P.Parts.disks c.begin_older.new.parts) (reads_goes (g.P.Parts.disks c.args.parts.now) (g.P.Parts.disks c.moved_state.new.parts) c.moved_state.ensures.stays) c.begin_older.ensures.goes

pub returns-in_err-state-in-Ok-clause-any_moment : goal.returns-in_err-state-in-Ok-clause-any_moment
returns-in_err-state-in-Ok-clause-any_moment g c = λ tells images reads.
    let s = recorded c.args.recovered in
    let made : IsMigrated s (images 2) c.in-Ok.state = subst (λ (f : StoreFormat). IsMigrated (in_format f (said c.args.recovered.state)) (images 2) c.in-Ok.state) (sym c.requires.older) (c.in-Ok.ensures.moved images reads) in
    both_say (g.P.Parts.disks c.args.parts.now) (g.P.Parts.disks c.moved_state.new.parts) (g.P.Parts.disks c.begin_older.new.parts) c.args.recovered.log s c.in-Ok.state (images 2) c.moved_state.ensures.stays c.requires.holds tells made
    (λ told. c.begin_older.ensures.any_moment s (holds_on (g.P.Parts.disks c.args.parts.now) (g.P.Parts.disks c.moved_state.new.parts) c.args.recovered.log s c.moved_state.ensures.stays c.requires.holds) told)

pub returns-in_err-state-in-Ok-clause-content : goal.returns-in_err-state-in-Ok-clause-content
returns-in_err-state-in-Ok-clause-content g c = c.begin_older.ensures.pages ∙ c.moved_state.ensures.stays.content

pub returns-in_err-state-in-Ok-clause-still : goal.returns-in_err-state-in-Ok-clause-still
returns-in_err-state-in-Ok-clause-still g c = λ image left. c.moved_state.ensures.stays.crash image (c.begin_older.ensures.still image left)

pub returns-in_err-state-in-Ok-clause-clock : goal.returns-in_err-state-in-Ok-clause-clock
returns-in_err-state-in-Ok-clause-clock g c = c.begin_older.ensures.clock ∙ c.moved_state.ensures.stays.alone.clock

pub returns-in_err-state-in-Ok-clause-damaged : goal.returns-in_err-state-in-Ok-clause-damaged
returns-in_err-state-in-Ok-clause-damaged g c = λ d place is tells.
    let wrong : IsErrOf c.begin_older.result (Damaged d place) = search rules in
    c.begin_older.ensures.damaged d place wrong

pub returns-in_err-state-in-Ok-clause-failed : goal.returns-in_err-state-in-Ok-clause-failed
returns-in_err-state-in-Ok-clause-failed g c = λ d is.
    let wrong : IsErrOf c.begin_older.result (Failed d) = search rules in
    subst (λ (n : ℕ). Rose n ((g.P.Parts.disks c.begin_older.new.parts).faults d)) (reads_steady (g.P.Parts.disks c.args.parts.now) (g.P.Parts.disks c.moved_state.new.parts) c.moved_state.ensures.stays c.in-Ok.ensures.steady d) (c.begin_older.ensures.failed d wrong)

pub returns-in_err-state-in-Ok-clause-wanting : goal.returns-in_err-state-in-Ok-clause-wanting
returns-in_err-state-in-Ok-clause-wanting g c = λ is d.
    let wrong : IsErrOf c.begin_older.result NoMemory = search rules in
    c.begin_older.ensures.wanting wrong d ∙ (reads_steady (g.P.Parts.disks c.args.parts.now) (g.P.Parts.disks c.moved_state.new.parts) c.moved_state.ensures.stays c.in-Ok.ensures.steady d)

pub returns-in-Err-clause-goes : goal.returns-in-Err-clause-goes
returns-in-Err-clause-goes g c = reads_goes (g.P.Parts.disks c.args.parts.now) (g.P.Parts.disks c.moved_state.new.parts) c.moved_state.ensures.stays

pub returns-in-Err-clause-any_moment : goal.returns-in-Err-clause-any_moment
returns-in-Err-clause-any_moment g c = λ tells images reads. says_migrated (g.P.Parts.disks c.args.parts.now) (g.P.Parts.disks c.moved_state.new.parts) (recorded c.args.recovered) (images 2) (reads_say (g.P.Parts.disks c.args.parts.now) (g.P.Parts.disks c.moved_state.new.parts) c.args.recovered.log (recorded c.args.recovered) c.moved_state.ensures.stays c.requires.holds tells)

pub returns-in-Err-clause-content : goal.returns-in-Err-clause-content
returns-in-Err-clause-content g c = c.moved_state.ensures.stays.content

pub returns-in-Err-clause-still : goal.returns-in-Err-clause-still
returns-in-Err-clause-still g c = c.moved_state.ensures.stays.crash

pub returns-in-Err-clause-clock : goal.returns-in-Err-clause-clock
returns-in-Err-clause-clock g c = c.moved_state.ensures.stays.alone.clock

pub returns-in-Err-clause-damaged : goal.returns-in-Err-clause-damaged
returns-in-Err-clause-damaged g c = λ d place is. c.moved_state.ensures.damaged d place (err_at c.moved_state.result _ c.in-Err.fault (Damaged d place) c.in-Err.is refl is)

pub returns-in-Err-clause-failed : goal.returns-in-Err-clause-failed
returns-in-Err-clause-failed g c = λ d is. (let f = c.moved_state.ensures.failed d (err_at c.moved_state.result _ c.in-Err.fault (Failed d) c.in-Err.is refl is) in subst (λ (n : ℕ). Rose ((g.P.Parts.disks c.args.parts.now).faults n) ((g.P.Parts.disks c.moved_state.new.parts).faults n)) (sym f.0) f.1)

pub returns-in-Err-clause-wanting : goal.returns-in-Err-clause-wanting
returns-in-Err-clause-wanting g c = λ is. reads_steady (g.P.Parts.disks c.args.parts.now) (g.P.Parts.disks c.moved_state.new.parts) c.moved_state.ensures.stays (c.moved_state.ensures.wanting (err_at c.moved_state.result _ c.in-Err.fault NoMemory c.in-Err.is refl is))
