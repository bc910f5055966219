use Rattle.repo_durable.proofs.Failing.{damage_taken}
use Rattle.repo_durable.proofs.Saying.{phase_of, said_in_phase, said_up, taken_says}
use Rattle.std.proofs.Common.{ap, ◌∙◌}
use Rattle.std.specs.Prelude.{None}
use Rattle.repo_durable.proofs.Counting.{stays_between, stays_taken}
use Rattle.repo_durable.specs.Kept.{disks_of, parts_in}
use Rattle.repo_durable.proofs.Readable.{back_has, out_has, whole_out}
use Rattle.repo_durable.specs.Kept.{is_torn_in}
use Rattle.repo_durable.specs.declared.stable.Phase.TheVariants.{Up}
use Rattle.repo_durable.proofs.Mapping.{moves_back, moves_out}
use Rattle.std.proofs.Common.{[]}
use Rattle.repo_durable.proofs.stable.Stable.flush_page.Goals as goal

pub returns-in-Ok-clause-says : goal.returns-in-Ok-clause-says
returns-in-Ok-clause-says g c = λ is.
    let taken = c.in-Some.ensures.some in
    let mid = c.take_log.new.self in
    let says = taken_says g.P.Parts.disks c.args.self.now mid c.in-Some.log taken.0 taken.1 is in
    said_up g.P.Parts.disks c.flush_into.new.self c.set_phase.new.self c.flush_into.new.log c.set_phase.ensures (c.in-Ok.ensures.log says)

pub returns-in-Err-clause-says : goal.returns-in-Err-clause-says
returns-in-Err-clause-says g c = λ is.
    let taken = c.in-Some.ensures.some in
    let mid = c.take_log.new.self in
    let says = taken_says g.P.Parts.disks c.args.self.now mid c.in-Some.log taken.0 taken.1 is in
    said_in_phase g.P.Parts.disks c.flush_into.new.self None (c.flush_into.ensures.phase ∙ ap phase_of taken.1) (c.in-Err.ensures.images says)

pub returns-in-Err-clause-damaged : goal.returns-in-Err-clause-damaged
returns-in-Err-clause-damaged g c = λ r place is.
    damage_taken g.P.Parts.disks c.args.self.now c.take_log.new.self place c.in-Some.ensures.some.1 (c.flush_into.ensures.damaged r place (c.in-Err.is ∙ is))

pub returns-in-Ok-clause-steady : goal.returns-in-Ok-clause-steady
returns-in-Ok-clause-steady g c = stays_between g.P.Parts.disks c.args.self.now c.take_log.new.self c.set_phase.new.self c.flush_into.new.self.parts c.in-Some.ensures.some.1 (ap parts_in c.set_phase.ensures) c.in-Ok.ensures.steady

pub returns-in-Err-clause-quiet : goal.returns-in-Err-clause-quiet
returns-in-Err-clause-quiet g c = λ other. stays_taken g.P.Parts.disks c.args.self.now c.take_log.new.self (disks_of g.P.Parts.disks c.flush_into.new.self) c.in-Some.ensures.some.1 (c.in-Err.ensures.quiet other)

pub returns-in-Ok-clause-readable : goal.returns-in-Ok-clause-readable
returns-in-Ok-clause-readable g c = λ has.
    let taken = c.in-Some.ensures.some in
    let mid = c.take_log.new.self in
    let was = out_has g.P.Parts.disks c.args.self.now mid c.in-Some.log taken.0 taken.1 has in
    let whole = whole_out c.args.self.now mid taken.1 in
    back_has g.P.Parts.disks c.flush_into.new.self c.set_phase.new.self (Up c.flush_into.new.log) c.set_phase.ensures (ap is_torn_in c.flush_into.ensures.phase ∙ whole) (c.flush_into.ensures.readable was)

pub returns-in-Err-clause-readable : goal.returns-in-Err-clause-readable
returns-in-Err-clause-readable g c = λ has.
    let taken = c.in-Some.ensures.some in
    let mid = c.take_log.new.self in
    let was = out_has g.P.Parts.disks c.args.self.now mid c.in-Some.log taken.0 taken.1 has in
    let whole = whole_out c.args.self.now mid taken.1 in
    c.flush_into.ensures.readable was

pub returns-in-Err-clause-never : goal.returns-in-Err-clause-never
returns-in-Err-clause-never g c = λ r place wrong has.
    let taken = c.in-Some.ensures.some in
    let mid = c.take_log.new.self in
    let was = out_has g.P.Parts.disks c.args.self.now mid c.in-Some.log taken.0 taken.1 has in
    c.flush_into.ensures.never r place (c.in-Err.is ∙ wrong) (whole_out c.args.self.now mid taken.1) was

pub returns-in-Ok-clause-map : goal.returns-in-Ok-clause-map
returns-in-Ok-clause-map g c =
    let taken = c.in-Some.ensures.some in
    let mid = c.take_log.new.self in
    moves_out g.P.Parts.disks [] c.args.self.now mid c.set_phase.new.self c.in-Some.log taken.0 taken.1
    (moves_back g.P.Parts.disks [] mid c.flush_into.new.self c.set_phase.new.self (Up c.flush_into.new.log) c.set_phase.ensures (ap is_torn_in c.flush_into.ensures.phase ∙ whole_out c.args.self.now mid taken.1) c.flush_into.ensures.map)

pub returns-in-Err-clause-map : goal.returns-in-Err-clause-map
returns-in-Err-clause-map g c =
    let taken = c.in-Some.ensures.some in
    moves_out g.P.Parts.disks [] c.args.self.now c.take_log.new.self c.flush_into.new.self c.in-Some.log taken.0 taken.1 c.flush_into.ensures.map
