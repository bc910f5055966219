use Rattle.disk_trait.specs.Fused.{fused_disks}
use Rattle.repo_state.specs.Said.{said}
use Rattle.log_codec.specs.declared.body.Body.TheVariants.{Entry as AnEntry}
use Rattle.repo_durable.proofs.Opened.{opened_more}
use Rattle.repo_durable.proofs.Pages.{reach_open, reach_still}
use Rattle.repo_durable.proofs.Saying.{ahead_up, images_written, log_more, said_resting, taken_says}
use Rattle.repo_durable.proofs.Staying.{kept_up, taken_follows, taken_open}
use Rattle.repo_durable.specs.Kept.{disks_of}
use Rattle.std.specs.Prelude.{Some}
use Rattle.repo_durable.proofs.Counting.{goes_between, log_quiet, stays_between}
use Rattle.repo_durable.specs.Kept.{parts_in}
use Rattle.std.proofs.Common.{ap, sym, ◌∙◌}
use Rattle.repo_durable.proofs.Readable.{back_has, out_has, still_has, whole_out}
use Rattle.std.proofs.Common.{refl}
use Rattle.repo_durable.specs.declared.stable.Phase.TheVariants.{Down, Up}
use Rattle.repo_durable.proofs.stable.Stable.append.Goals as goal

pub append-requires-clause-holds : goal.append-requires-clause-holds
append-requires-clause-holds g c =
    let taken = c.in-Some.ensures.some in
    taken_follows g.P.Parts.disks c.args.self.now c.take_log.new.self c.in-Some.log c.args.entry taken.1 taken.2 c.requires.takes

pub returns-in-Ok-clause-kept : goal.returns-in-Ok-clause-kept
returns-in-Ok-clause-kept g c =
    let taken = c.in-Some.ensures.some in
    let stood = taken_open g.P.Parts.disks c.args.self.now c.take_log.new.self c.in-Some.log taken.1 taken.2 in
    let now = fused_disks g.P.Parts.disks c.append.new.parts in
    kept_up g.P.Parts.disks (record c.take_log.new.self { parts = c.append.new.parts }) c.set_phase.new.self c.append.new.self c.set_phase.ensures
    (opened_more (disks_of g.P.Parts.disks c.take_log.new.self) now c.in-Some.log c.append.new.self c.take_log.new.self.held (AnEntry c.args.entry) stood c.in-Ok.ensures.appended c.in-Ok.ensures.pages)

pub returns-in-Ok-clause-ahead : goal.returns-in-Ok-clause-ahead
returns-in-Ok-clause-ahead g c = λ is.
    let taken = c.in-Some.ensures.some in
    let mid = c.take_log.new.self in
    let says = taken_says g.P.Parts.disks c.args.self.now mid c.in-Some.log taken.0 taken.1 is in
    let now = fused_disks g.P.Parts.disks c.append.new.parts in
    ahead_up g.P.Parts.disks (record mid { parts = c.append.new.parts }) c.set_phase.new.self c.append.new.self c.args.entry c.set_phase.ensures
    (log_more (disks_of g.P.Parts.disks mid) now c.in-Some.log c.append.new.self (said mid.held) (AnEntry c.args.entry) says c.append.ensures.goes c.in-Ok.ensures.appended)

pub returns-in-Err-clause-says : goal.returns-in-Err-clause-says
returns-in-Err-clause-says g c = λ is.
    let taken = c.in-Some.ensures.some in
    let mid = c.take_log.new.self in
    let says = taken_says g.P.Parts.disks c.args.self.now mid c.in-Some.log taken.0 taken.1 is in
    let now = fused_disks g.P.Parts.disks c.append.new.parts in
    let stood = taken_open g.P.Parts.disks c.args.self.now mid c.in-Some.log taken.1 taken.2 in
    let reach = reach_open (disks_of g.P.Parts.disks mid) c.in-Some.log mid.held stood in
    said_resting g.P.Parts.disks (record mid { parts = c.append.new.parts }) c.set_phase-in-Err.new.self (Some c.args.entry) c.set_phase-in-Err.ensures
    (images_written (disks_of g.P.Parts.disks mid) now c.in-Some.log mid.held c.args.entry says c.append.ensures.goes c.append.ensures.any_moment
    (reach_still (disks_of g.P.Parts.disks mid) now mid.held.objects.pages.sides c.append.ensures.goes c.append.ensures.still c.append.ensures.pages reach))

pub returns-in-Ok-clause-steady : goal.returns-in-Ok-clause-steady
returns-in-Ok-clause-steady g c = stays_between g.P.Parts.disks c.args.self.now c.take_log.new.self c.set_phase.new.self c.append.new.parts c.in-Some.ensures.some.1 (ap parts_in c.set_phase.ensures) c.in-Ok.ensures.steady

pub returns-in-Err-clause-quiet : goal.returns-in-Err-clause-quiet
returns-in-Err-clause-quiet g c = λ other.
    stays_between g.P.Parts.disks c.args.self.now c.take_log.new.self c.set_phase-in-Err.new.self c.append.new.parts c.in-Some.ensures.some.1 (ap parts_in c.set_phase-in-Err.ensures)
    (log_quiet c.append.result c.in-Err.fault _ c.in-Err.is c.append.ensures.wanting (λ place w. absurd (c.append.ensures.damaged place w)) (sym c.of_log.ensures.stops ∙ other))

pub returns-in-Ok-clause-readable : goal.returns-in-Ok-clause-readable
returns-in-Ok-clause-readable g c = λ has.
    let taken = c.in-Some.ensures.some in
    let mid = c.take_log.new.self in
    let was = out_has g.P.Parts.disks c.args.self.now mid c.in-Some.log taken.0 taken.1 has in
    let whole = whole_out c.args.self.now mid taken.1 in
    let written = record mid { parts = c.append.new.parts } in
    back_has g.P.Parts.disks written c.set_phase.new.self (Up c.append.new.self) c.set_phase.ensures whole
    (still_has g.P.Parts.disks mid written c.append.ensures.goes.told c.append.ensures.pages refl (λ whole. whole) was)

pub returns-in-Err-clause-readable : goal.returns-in-Err-clause-readable
returns-in-Err-clause-readable g c = λ has.
    let taken = c.in-Some.ensures.some in
    let mid = c.take_log.new.self in
    let was = out_has g.P.Parts.disks c.args.self.now mid c.in-Some.log taken.0 taken.1 has in
    let whole = whole_out c.args.self.now mid taken.1 in
    let written = record mid { parts = c.append.new.parts } in
    back_has g.P.Parts.disks written c.set_phase-in-Err.new.self (Down (Some c.args.entry)) c.set_phase-in-Err.ensures whole
    (still_has g.P.Parts.disks mid written c.append.ensures.goes.told c.append.ensures.pages refl (λ whole. whole) was)

pub returns-in-Ok-clause-goes : goal.returns-in-Ok-clause-goes
returns-in-Ok-clause-goes g c = goes_between g.P.Parts.disks c.args.self.now c.take_log.new.self c.set_phase.new.self c.append.new.parts c.in-Some.ensures.some.1 (ap parts_in c.set_phase.ensures) c.append.ensures.goes

pub returns-in-Err-clause-goes : goal.returns-in-Err-clause-goes
returns-in-Err-clause-goes g c = goes_between g.P.Parts.disks c.args.self.now c.take_log.new.self c.set_phase-in-Err.new.self c.append.new.parts c.in-Some.ensures.some.1 (ap parts_in c.set_phase-in-Err.ensures) c.append.ensures.goes
