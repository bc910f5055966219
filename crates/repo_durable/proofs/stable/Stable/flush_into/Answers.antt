use Rattle.disk_trait.proofs.Several.{goes_one}
use Rattle.disk_trait.specs.Fused.{fused_disks}
use Rattle.repo_state.specs.Said.{said}
use Rattle.mob_buffer.specs.Buffer.{Buffer}
use Rattle.repo_durable.proofs.Failing.{failed_behind}
use Rattle.repo_durable.proofs.Harmed.{damage_told}
use Rattle.repo_durable.proofs.Flushes.{left_from, oldest_is, oldest_then}
use Rattle.repo_durable.proofs.Opened.{holds_beside, opened_beside, repo_of}
use Rattle.repo_durable.proofs.Pages.{reach_written}
use Rattle.repo_durable.proofs.Saying.{images_beside, log_beside, log_same}
use Rattle.repo_durable.specs.Kept.{disks_of}
use Rattle.std.proofs.Common.{ap}
use Rattle.repo_durable.proofs.Counting.{err_behind, ok_behind, stays_on, store_quiet}
use Rattle.std.proofs.Common.{sym, ◌∙◌}
use Rattle.repo_durable.specs.Kept.{is_torn}
use Rattle.std.proofs.Common.{Err, refl}
use Rattle.repo_durable.proofs.Readable.{never_oldest, written_has}
use Rattle.repo_durable.proofs.Returning.{same_err}
use Rattle.page_store.specs.declared.fault.StoreFault.{StoreFault}
use Rattle.repo_refusals.specs.declared.refusal.Refusal.TheVariants.{Damaged as IsDamaged}
use Rattle.repo_durable.proofs.Mapping.{moves_then, written_moves}
use Rattle.repo_durable.proofs.Opened.{repo_of}
use Rattle.repo_durable.specs.Kept.{is_torn_in}
use Rattle.std.proofs.Common.{[]}
use Rattle.repo_durable.proofs.stable.Stable.flush_into.Goals as goal

pub put_flushed-requires-clause-opened : goal.put_flushed-requires-clause-opened
put_flushed-requires-clause-opened g c =
    opened_beside (disks_of g.P.Parts.disks c.args.self.now) (fused_disks g.P.Parts.disks c.flush_one.new.parts) c.args.log.now c.args.self.now.held c.flush_one.new.self c.requires.opened c.flush_one.ensures.alone c.in-Ok.ensures.settled c.in-Ok.ensures.agrees (ap repo_of c.flush_one.ensures.held) c.flush_one.ensures.keeps

pub returns-in-Ok-clause-log : goal.returns-in-Ok-clause-log
returns-in-Ok-clause-log g c = λ says.
    let old = disks_of g.P.Parts.disks c.args.self.now in
    let mid = fused_disks g.P.Parts.disks c.flush_one.new.parts in
    let held = c.args.self.now.held in
    let log = c.args.log.now in
    c.put_flushed.ensures.log (log_same mid log (said held) (said c.flush_one.new.self) (log_beside old mid log (said held) says c.flush_one.ensures.alone (λ s holds. holds_beside old mid log s holds c.flush_one.ensures.alone c.in-Ok.ensures.settled)) c.flush_one.ensures.said)

pub returns-in-Ok-clause-images : goal.returns-in-Ok-clause-images
returns-in-Ok-clause-images g c = λ says.
    let old = disks_of g.P.Parts.disks c.args.self.now in
    let mid = fused_disks g.P.Parts.disks c.flush_one.new.parts in
    let held = c.args.self.now.held in
    let log = c.args.log.now in
    c.put_flushed.ensures.images (log_same mid log (said held) (said c.flush_one.new.self) (log_beside old mid log (said held) says c.flush_one.ensures.alone (λ s holds. holds_beside old mid log s holds c.flush_one.ensures.alone c.in-Ok.ensures.settled)) c.flush_one.ensures.said)

pub returns-in-Err-clause-images : goal.returns-in-Err-clause-images
returns-in-Err-clause-images g c = λ says.
    images_beside (disks_of g.P.Parts.disks c.args.self.now) (fused_disks g.P.Parts.disks c.flush_one.new.parts) c.args.log.now c.args.self.now.held c.flush_one.new.self says c.flush_one.ensures.alone c.flush_one.ensures.said
    (reach_written (disks_of g.P.Parts.disks c.args.self.now) (fused_disks g.P.Parts.disks c.flush_one.new.parts) c.args.log.now c.args.self.now.held c.requires.opened c.flush_one.ensures.alone c.flush_one.ensures.any_moment c.read_is_left-in-Err.ensures)

pub returns-in-Ok-clause-stopped : goal.returns-in-Ok-clause-stopped
returns-in-Ok-clause-stopped g c = λ r wrong.
    let old = disks_of g.P.Parts.disks c.args.self.now in
    let mid = fused_disks g.P.Parts.disks c.flush_one.new.parts in
    failed_behind old.faults mid.faults (disks_of g.P.Parts.disks c.put_flushed.new.self).faults (goes_one old mid 2 c.flush_one.ensures.alone).faults (c.put_flushed.ensures.stopped r wrong)

pub returns-in-Ok-clause-buffer : goal.returns-in-Ok-clause-buffer
returns-in-Ok-clause-buffer g c = left_from c.put_flushed.result _ _ _ (ap (λ (m : Buffer). m.objects) c.flush_one.ensures.mob) c.put_flushed.ensures.buffer

pub returns-in-Ok-clause-oldest : goal.returns-in-Ok-clause-oldest
returns-in-Ok-clause-oldest g c =
    oldest_then c.put_flushed.result c.in-Ok.flushed _ (oldest_is c.in-Ok.flushed c.args.self.now.held.objects.mob.objects c.flush_one.result c.in-Ok.is c.flush_one.ensures.nothing c.flush_one.ensures.oldest) c.put_flushed.ensures.same

pub returns-in-Ok-clause-steady : goal.returns-in-Ok-clause-steady
returns-in-Ok-clause-steady g c =
    let old = disks_of g.P.Parts.disks c.args.self.now in
    let mid = fused_disks g.P.Parts.disks c.flush_one.new.parts in
    ok_behind c.put_flushed.result old mid (disks_of g.P.Parts.disks c.put_flushed.new.self) (stays_on old mid 2 c.flush_one.ensures.alone c.in-Ok.ensures.steady) c.put_flushed.ensures.steady

pub returns-in-Ok-clause-quiet : goal.returns-in-Ok-clause-quiet
returns-in-Ok-clause-quiet g c =
    let old = disks_of g.P.Parts.disks c.args.self.now in
    let mid = fused_disks g.P.Parts.disks c.flush_one.new.parts in
    err_behind c.put_flushed.result old mid (disks_of g.P.Parts.disks c.put_flushed.new.self) (stays_on old mid 2 c.flush_one.ensures.alone c.in-Ok.ensures.steady) c.put_flushed.ensures.quiet

pub returns-in-Err-clause-quiet : goal.returns-in-Err-clause-quiet
returns-in-Err-clause-quiet g c = λ other.
    let old = disks_of g.P.Parts.disks c.args.self.now in
    let now = fused_disks g.P.Parts.disks c.flush_one.new.parts in
    store_quiet c.flush_one.result c.in-Err.fault _ c.in-Err.is (λ w. stays_on old now 2 c.flush_one.ensures.alone (c.flush_one.ensures.wanting w)) (λ place w. stays_on old now 2 c.flush_one.ensures.alone (c.flush_one.ensures.harmed place w)) (sym c.of_store.ensures.stops ∙ other)

pub returns-in-Ok-clause-readable : goal.returns-in-Ok-clause-readable
returns-in-Ok-clause-readable g c = λ has.
    let store = c.args.self.now in
    let goes = goes_one (disks_of g.P.Parts.disks store) (fused_disks g.P.Parts.disks c.flush_one.new.parts) 2 c.flush_one.ensures.alone in
    c.put_flushed.ensures.readable (written_has g.P.Parts.disks store c.flush_one.new.parts c.flush_one.new.self goes.told c.flush_one.ensures.alone c.flush_one.ensures.any_moment c.read_is_left.ensures c.flush_one.ensures.said has)

pub returns-in-Err-clause-readable : goal.returns-in-Err-clause-readable
returns-in-Err-clause-readable g c = λ has.
    let store = c.args.self.now in
    let goes = goes_one (disks_of g.P.Parts.disks store) (fused_disks g.P.Parts.disks c.flush_one.new.parts) 2 c.flush_one.ensures.alone in
    written_has g.P.Parts.disks store c.flush_one.new.parts c.flush_one.new.self goes.told c.flush_one.ensures.alone c.flush_one.ensures.any_moment c.read_is_left-in-Err.ensures c.flush_one.ensures.said has

pub returns-in-Err-clause-never : goal.returns-in-Err-clause-never
returns-in-Err-clause-never g c = λ r place wrong whole has.
    let store = c.args.self.now in
    let is = c.of_store.ensures.damaged r place (same_err _ c.of_store.result (IsDamaged r place) refl wrong) in
    let damaged = c.in-Err.is ∙ ap (λ (f : StoreFault). Err f) is in
    never_oldest store.held.objects.mob.objects (disks_of g.P.Parts.disks store) (is_torn store) store.held.objects.pages.sides place c.flush_one.result damaged c.flush_one.ensures.empty whole has (c.flush_one.ensures.damaged place damaged)

pub returns-in-Ok-clause-never : goal.returns-in-Ok-clause-never
returns-in-Ok-clause-never g c = λ r place wrong whole has. c.put_flushed.ensures.damaged r place wrong

pub returns-in-Err-clause-page : goal.returns-in-Err-clause-page
returns-in-Err-clause-page g c = λ r place wrong.
    damage_told (disks_of g.P.Parts.disks c.args.self.now) (fused_disks g.P.Parts.disks c.flush_one.new.parts) c.args.self.now.held.objects.pages.sides c.flush_one.new.self.objects.pages.sides c.args.self.now.held.objects.mob.objects c.flush_one.result c.in-Err.fault
    c.of_store.result _ r place c.in-Err.is (c.of_store.ensures.damaged r place) refl wrong c.flush_one.ensures.empty c.flush_one.ensures.damaged c.flush_one.ensures.content c.flush_one.ensures.sides

pub returns-in-Ok-clause-map : goal.returns-in-Ok-clause-map
returns-in-Ok-clause-map g c =
    let store = c.args.self.now in
    let mid = record store { parts = c.flush_one.new.parts; held = c.flush_one.new.self } in
    let goes = goes_one (disks_of g.P.Parts.disks store) (fused_disks g.P.Parts.disks c.flush_one.new.parts) 2 c.flush_one.ensures.alone in
    moves_then g.P.Parts.disks [] store mid c.put_flushed.new.self
    (written_has g.P.Parts.disks store c.flush_one.new.parts c.flush_one.new.self goes.told c.flush_one.ensures.alone c.flush_one.ensures.any_moment c.read_is_left.ensures c.flush_one.ensures.said)
    (λ whole. sym (ap is_torn_in c.put_flushed.ensures.phase) ∙ whole) (ap repo_of c.flush_one.ensures.held)
    (written_moves g.P.Parts.disks store c.flush_one.new.parts c.flush_one.new.self goes.told c.flush_one.ensures.alone c.flush_one.ensures.any_moment c.read_is_left.ensures c.flush_one.ensures.said)
    c.put_flushed.ensures.map

pub returns-in-Err-clause-map : goal.returns-in-Err-clause-map
returns-in-Err-clause-map g c =
    let store = c.args.self.now in
    let goes = goes_one (disks_of g.P.Parts.disks store) (fused_disks g.P.Parts.disks c.flush_one.new.parts) 2 c.flush_one.ensures.alone in
    written_moves g.P.Parts.disks store c.flush_one.new.parts c.flush_one.new.self goes.told c.flush_one.ensures.alone c.flush_one.ensures.any_moment c.read_is_left-in-Err.ensures c.flush_one.ensures.said
