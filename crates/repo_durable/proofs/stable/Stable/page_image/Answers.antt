use Rattle.disk_trait.specs.Fused.{fused_disks}
use Rattle.repo_state.specs.Said.{said}
use Rattle.repo_durable.proofs.Opened.{opened_read, repo_of}
use Rattle.repo_durable.proofs.Openings.{stands_where}
use Rattle.repo_durable.proofs.Saying.{log_beside, log_same, said_unread, said_up, taken_says}
use Rattle.repo_durable.proofs.Staying.{kept_up, taken_open}
use Rattle.repo_durable.specs.Kept.{disks_of}
use Rattle.std.proofs.Common.{ap, sym, ◌∙◌}
use Rattle.repo_durable.proofs.Counting.{goes_between, goes_taken, stays_between, stays_on, stays_taken, store_quiet}
use Rattle.repo_durable.specs.Kept.{parts_in}
use Rattle.repo_durable.specs.Kept.{is_torn}
use Rattle.std.proofs.Common.{Err, refl}
use Rattle.repo_durable.proofs.Readable.{back_has, never_damage, out_has, still_has, whole_out}
use Rattle.disk_trait.proofs.Several.{goes_one}
use Rattle.log_codec.specs.declared.state.State.{State}
use Rattle.repo_durable.specs.declared.stable.Phase.TheVariants.{Up}
use Rattle.repo_durable.proofs.Returning.{same_err}
use Rattle.page_store.specs.declared.fault.StoreFault.{StoreFault}
use Rattle.repo_refusals.specs.declared.refusal.Refusal.TheVariants.{Damaged as IsDamaged}
use Rattle.disk_trait.specs.Disks.{WhereTold}
use Rattle.mob_flusher.specs.Images.{ShowsImage}
use Rattle.repo_durable.proofs.Mapping.{moves_back, moves_out, moves_read}
use Rattle.repo_durable.specs.Kept.{held_of}
use Rattle.repo_durable.specs.declared.stable.Stable.{Stable}
use Rattle.std.proofs.Common.{[], subst}
use Rattle.repo_durable.proofs.stable.Stable.page_image.Goals as goal

pub returns-in-Ok-clause-kept : goal.returns-in-Ok-clause-kept
returns-in-Ok-clause-kept g c =
    let taken = c.in-Some.ensures.some in
    let stood = taken_open g.P.Parts.disks c.args.self.now c.take_log.new.self c.in-Some.log taken.1 taken.2 in
    let now = fused_disks g.P.Parts.disks c.page_image.new.parts in
    kept_up g.P.Parts.disks (record c.take_log.new.self { parts = c.page_image.new.parts; held = c.page_image.new.self }) c.set_phase.new.self c.in-Some.log c.set_phase.ensures
    (opened_read (disks_of g.P.Parts.disks c.take_log.new.self) now c.in-Some.log c.take_log.new.self.held c.page_image.new.self stood c.page_image.ensures.alone c.page_image.ensures.content c.page_image.ensures.crash c.page_image.ensures.agrees (ap repo_of c.page_image.ensures.held) c.page_image.ensures.keeps)

pub returns-in-Ok-clause-says : goal.returns-in-Ok-clause-says
returns-in-Ok-clause-says g c = λ is.
    let taken = c.in-Some.ensures.some in
    let mid = c.take_log.new.self in
    let old = disks_of g.P.Parts.disks mid in
    let now = fused_disks g.P.Parts.disks c.page_image.new.parts in
    let says = taken_says g.P.Parts.disks c.args.self.now mid c.in-Some.log taken.0 taken.1 is in
    said_up g.P.Parts.disks (record mid { parts = c.page_image.new.parts; held = c.page_image.new.self }) c.set_phase.new.self c.in-Some.log c.set_phase.ensures
    (log_same now c.in-Some.log (said mid.held) (said c.page_image.new.self)
    (log_beside old now c.in-Some.log (said mid.held) says c.page_image.ensures.alone (λ s holds. stands_where old now c.in-Some.log s holds c.page_image.ensures.alone c.page_image.ensures.content c.page_image.ensures.crash)) c.page_image.ensures.said)

pub returns-in-Err-clause-says : goal.returns-in-Err-clause-says
returns-in-Err-clause-says g c = λ is.
    let taken = c.in-Some.ensures.some in
    let stood = taken_open g.P.Parts.disks c.args.self.now c.take_log.new.self c.in-Some.log taken.1 taken.2 in
    said_unread g.P.Parts.disks c.args.self.now c.take_log.new.self c.page_image.new.parts c.page_image.new.self c.in-Some.log taken.0 taken.1 is stood c.page_image.ensures.alone c.page_image.ensures.crash c.page_image.ensures.content c.page_image.ensures.said

pub returns-in-Ok-clause-steady : goal.returns-in-Ok-clause-steady
returns-in-Ok-clause-steady g c =
    let old = disks_of g.P.Parts.disks c.take_log.new.self in
    let now = fused_disks g.P.Parts.disks c.page_image.new.parts in
    stays_between g.P.Parts.disks c.args.self.now c.take_log.new.self c.set_phase.new.self c.page_image.new.parts c.in-Some.ensures.some.1 (ap parts_in c.set_phase.ensures) (stays_on old now 2 c.page_image.ensures.alone c.in-Ok.ensures.steady)

pub returns-in-Err-clause-quiet : goal.returns-in-Err-clause-quiet
returns-in-Err-clause-quiet g c = λ other.
    let old = disks_of g.P.Parts.disks c.take_log.new.self in
    let now = fused_disks g.P.Parts.disks c.page_image.new.parts in
    stays_taken g.P.Parts.disks c.args.self.now c.take_log.new.self now c.in-Some.ensures.some.1
    (store_quiet c.page_image.result c.in-Err.fault _ c.in-Err.is (λ w. stays_on old now 2 c.page_image.ensures.alone (c.page_image.ensures.wanting w)) (λ place w. stays_on old now 2 c.page_image.ensures.alone (c.page_image.ensures.harmed place w)) (sym c.of_store.ensures.stops ∙ other))

pub returns-in-Ok-clause-readable : goal.returns-in-Ok-clause-readable
returns-in-Ok-clause-readable g c = λ has.
    let taken = c.in-Some.ensures.some in
    let mid = c.take_log.new.self in
    let was = out_has g.P.Parts.disks c.args.self.now mid c.in-Some.log taken.0 taken.1 has in
    let whole = whole_out c.args.self.now mid taken.1 in
    let read = record mid { parts = c.page_image.new.parts; held = c.page_image.new.self } in
    let goes = goes_one (disks_of g.P.Parts.disks mid) (fused_disks g.P.Parts.disks c.page_image.new.parts) 2 c.page_image.ensures.alone in
    back_has g.P.Parts.disks read c.set_phase.new.self (Up c.in-Some.log) c.set_phase.ensures whole
    (still_has g.P.Parts.disks mid read goes.told c.page_image.ensures.content (ap (λ (s : State). s.installed) c.page_image.ensures.said) (λ whole. whole) was)

pub returns-in-Err-clause-readable : goal.returns-in-Err-clause-readable
returns-in-Err-clause-readable g c = λ has.
    let taken = c.in-Some.ensures.some in
    let mid = c.take_log.new.self in
    let was = out_has g.P.Parts.disks c.args.self.now mid c.in-Some.log taken.0 taken.1 has in
    let whole = whole_out c.args.self.now mid taken.1 in
    let read = record mid { parts = c.page_image.new.parts; held = c.page_image.new.self } in
    let goes = goes_one (disks_of g.P.Parts.disks mid) (fused_disks g.P.Parts.disks c.page_image.new.parts) 2 c.page_image.ensures.alone in
    still_has g.P.Parts.disks mid read goes.told c.page_image.ensures.content (ap (λ (s : State). s.installed) c.page_image.ensures.said) (λ whole. whole) was

pub returns-in-Err-clause-never : goal.returns-in-Err-clause-never
returns-in-Err-clause-never g c = λ r place wrong has.
    let taken = c.in-Some.ensures.some in
    let mid = c.take_log.new.self in
    let was = out_has g.P.Parts.disks c.args.self.now mid c.in-Some.log taken.0 taken.1 has in
    let is = c.of_store.ensures.damaged r place (same_err _ c.of_store.result (IsDamaged r place) refl wrong) in
    never_damage (is_torn mid) mid.held.objects.pages.sides (disks_of g.P.Parts.disks mid) c.args.page place (whole_out c.args.self.now mid taken.1) was (c.page_image.ensures.damaged place (c.in-Err.is ∙ ap (λ (f : StoreFault). Err f) is))

pub returns-in-Ok-clause-image : goal.returns-in-Ok-clause-image
returns-in-Ok-clause-image g c =
    subst (λ (s : Stable _). WhereTold (disks_of g.P.Parts.disks s) 2 (λ disk. ShowsImage disk (held_of s).objects c.args.page c.in-Ok.image)) c.in-Some.ensures.some.1 c.in-Ok.ensures.image

pub returns-in-Ok-clause-map : goal.returns-in-Ok-clause-map
returns-in-Ok-clause-map g c =
    let taken = c.in-Some.ensures.some in
    let mid = c.take_log.new.self in
    let read = record mid { parts = c.page_image.new.parts; held = c.page_image.new.self } in
    moves_out g.P.Parts.disks [] c.args.self.now mid c.set_phase.new.self c.in-Some.log taken.0 taken.1
    (moves_back g.P.Parts.disks [] mid read c.set_phase.new.self (Up c.in-Some.log) c.set_phase.ensures (whole_out c.args.self.now mid taken.1)
    (moves_read g.P.Parts.disks mid c.page_image.new.parts c.page_image.new.self c.page_image.ensures.content c.page_image.ensures.said))

pub returns-in-Err-clause-map : goal.returns-in-Err-clause-map
returns-in-Err-clause-map g c =
    let taken = c.in-Some.ensures.some in
    let mid = c.take_log.new.self in
    moves_out g.P.Parts.disks [] c.args.self.now mid (record mid { parts = c.page_image.new.parts; held = c.page_image.new.self }) c.in-Some.log taken.0 taken.1
    (moves_read g.P.Parts.disks mid c.page_image.new.parts c.page_image.new.self c.page_image.ensures.content c.page_image.ensures.said)

pub returns-in-Ok-clause-goes : goal.returns-in-Ok-clause-goes
returns-in-Ok-clause-goes g c =
    let old = disks_of g.P.Parts.disks c.take_log.new.self in
    let now = fused_disks g.P.Parts.disks c.page_image.new.parts in
    goes_between g.P.Parts.disks c.args.self.now c.take_log.new.self c.set_phase.new.self c.page_image.new.parts c.in-Some.ensures.some.1 (ap parts_in c.set_phase.ensures) (goes_one old now 2 c.page_image.ensures.alone)

pub returns-in-Err-clause-goes : goal.returns-in-Err-clause-goes
returns-in-Err-clause-goes g c =
    let old = disks_of g.P.Parts.disks c.take_log.new.self in
    let now = fused_disks g.P.Parts.disks c.page_image.new.parts in
    goes_taken g.P.Parts.disks c.args.self.now c.take_log.new.self now c.in-Some.ensures.some.1 (goes_one old now 2 c.page_image.ensures.alone)
