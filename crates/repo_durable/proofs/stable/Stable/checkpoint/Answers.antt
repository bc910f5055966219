use Rattle.repo_durable.proofs.Saying.{said_anew, said_begun, said_out}
use Rattle.repo_durable.proofs.Staying.{taken_open}
use Rattle.disk_trait.proofs.Several.{goes_none}
use Rattle.repo_durable.proofs.Counting.{goes_between, goes_taken, log_quiet, stays_between, stays_taken}
use Rattle.disk_trait.specs.Fused.{fused_disks}
use Rattle.repo_durable.specs.Kept.{disks_of, parts_in}
use Rattle.std.proofs.Common.{ap, sym, ◌∙◌}
use Rattle.repo_durable.proofs.Readable.{back_has, out_has, still_has, whole_out}
use Rattle.std.proofs.Common.{refl}
use Rattle.repo_durable.specs.declared.stable.Phase.TheVariants.{Up}
use Rattle.repo_durable.proofs.stable.Stable.checkpoint.Goals as goal

pub returns-then-sequence-clause-says : goal.returns-then-sequence-clause-says
returns-then-sequence-clause-says g c = λ is.
    let taken = c.in-Some.ensures.some in
    said_out g.P.Parts.disks c.args.self.now c.take_log.new.self c.in-Some.log taken.0 taken.1 taken.2 is

pub returns-in-Err-clause-says : goal.returns-in-Err-clause-says
returns-in-Err-clause-says g c = λ is.
    let taken = c.in-Some.ensures.some in
    said_out g.P.Parts.disks c.args.self.now c.take_log.new.self c.in-Some.log taken.0 taken.1 taken.2 is

pub returns-in-Err-begun-clause-says : goal.returns-in-Err-begun-clause-says
returns-in-Err-begun-clause-says g c = λ is.
    let taken = c.in-Some.ensures.some in
    let stood = taken_open g.P.Parts.disks c.args.self.now c.take_log.new.self c.in-Some.log taken.1 taken.2 in
    said_begun g.P.Parts.disks c.args.self.now c.take_log.new.self c.checkpoint-begun.new.parts c.in-Some.log c.in-Ok.state taken.0 taken.1 is stood c.in-Ok.ensures.spelled c.checkpoint-begun.ensures.still c.checkpoint-begun.ensures.pages c.checkpoint-begun.ensures.goes c.checkpoint-begun.ensures.any_moment

pub returns-clause-says : goal.returns-clause-says
returns-clause-says g c = λ is.
    let taken = c.in-Some.ensures.some in
    said_anew g.P.Parts.disks c.args.self.now c.take_log.new.self c.set_phase.new.self c.checkpoint-begun.new.parts c.checkpoint-begun.new.self c.in-Ok.state taken.1 taken.2.keeps c.in-Ok.ensures.spelled c.set_phase.ensures c.in_default-begun.ensures.done

pub returns-in-Err-begun-clause-quiet : goal.returns-in-Err-begun-clause-quiet
returns-in-Err-begun-clause-quiet g c = λ other.
    stays_taken g.P.Parts.disks c.args.self.now c.take_log.new.self (fused_disks g.P.Parts.disks c.checkpoint-begun.new.parts) c.in-Some.ensures.some.1
    (log_quiet c.checkpoint-begun.result c.in-Err-begun.fault _ c.in-Err-begun.is c.checkpoint-begun.ensures.wanting (λ place w. absurd (c.checkpoint-begun.ensures.damaged place w)) (sym c.of_log.ensures.stops ∙ other))

pub returns-clause-steady : goal.returns-clause-steady
returns-clause-steady g c = stays_between g.P.Parts.disks c.args.self.now c.take_log.new.self c.set_phase.new.self c.checkpoint-begun.new.parts c.in-Some.ensures.some.1 (ap parts_in c.set_phase.ensures) c.in_default-begun.ensures.steady

pub returns-clause-readable : goal.returns-clause-readable
returns-clause-readable g c = λ has.
    let taken = c.in-Some.ensures.some in
    let mid = c.take_log.new.self in
    let was = out_has g.P.Parts.disks c.args.self.now mid c.in-Some.log taken.0 taken.1 has in
    let whole = whole_out c.args.self.now mid taken.1 in
    let written = record mid { parts = c.checkpoint-begun.new.parts } in
    back_has g.P.Parts.disks written c.set_phase.new.self (Up c.checkpoint-begun.new.self) c.set_phase.ensures whole
    (still_has g.P.Parts.disks mid written c.checkpoint-begun.ensures.goes.told c.checkpoint-begun.ensures.pages refl (λ whole. whole) was)

pub returns-in-Err-begun-clause-readable : goal.returns-in-Err-begun-clause-readable
returns-in-Err-begun-clause-readable g c = λ has.
    let taken = c.in-Some.ensures.some in
    let mid = c.take_log.new.self in
    let was = out_has g.P.Parts.disks c.args.self.now mid c.in-Some.log taken.0 taken.1 has in
    let whole = whole_out c.args.self.now mid taken.1 in
    still_has g.P.Parts.disks mid (record mid { parts = c.checkpoint-begun.new.parts }) c.checkpoint-begun.ensures.goes.told c.checkpoint-begun.ensures.pages refl (λ whole. whole) was

pub returns-then-sequence-clause-readable : goal.returns-then-sequence-clause-readable
returns-then-sequence-clause-readable g c = λ has.
    let taken = c.in-Some.ensures.some in
    out_has g.P.Parts.disks c.args.self.now c.take_log.new.self c.in-Some.log taken.0 taken.1 has

pub returns-in-Err-clause-readable : goal.returns-in-Err-clause-readable
returns-in-Err-clause-readable g c = λ has.
    let taken = c.in-Some.ensures.some in
    out_has g.P.Parts.disks c.args.self.now c.take_log.new.self c.in-Some.log taken.0 taken.1 has

pub returns-clause-goes : goal.returns-clause-goes
returns-clause-goes g c = goes_between g.P.Parts.disks c.args.self.now c.take_log.new.self c.set_phase.new.self c.checkpoint-begun.new.parts c.in-Some.ensures.some.1 (ap parts_in c.set_phase.ensures) c.checkpoint-begun.ensures.goes

pub returns-in-Err-begun-clause-goes : goal.returns-in-Err-begun-clause-goes
returns-in-Err-begun-clause-goes g c = goes_taken g.P.Parts.disks c.args.self.now c.take_log.new.self (fused_disks g.P.Parts.disks c.checkpoint-begun.new.parts) c.in-Some.ensures.some.1 c.checkpoint-begun.ensures.goes

pub returns-then-sequence-clause-goes : goal.returns-then-sequence-clause-goes
returns-then-sequence-clause-goes g c =
    let mid = disks_of g.P.Parts.disks c.take_log.new.self in
    goes_taken g.P.Parts.disks c.args.self.now c.take_log.new.self mid c.in-Some.ensures.some.1 (goes_none mid)

pub returns-in-Err-clause-goes : goal.returns-in-Err-clause-goes
returns-in-Err-clause-goes g c =
    let mid = disks_of g.P.Parts.disks c.take_log.new.self in
    goes_taken g.P.Parts.disks c.args.self.now c.take_log.new.self mid c.in-Some.ensures.some.1 (goes_none mid)
