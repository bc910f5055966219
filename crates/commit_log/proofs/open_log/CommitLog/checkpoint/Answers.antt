use Rattle.disk_trait.specs.Numbers.{number}
use Rattle.std.proofs.Common.{IsErrOf, ap, rules, ℕ, ◌+◌, ◌-◌, ◌∙◌}
use Rattle.log_codec.specs.Checkpoint.{state_format}
use Rattle.log_codec.specs.Format.{value_of}
use Rattle.commit_log.specs.Holds.{beside}
use Rattle.commit_log.proofs.Checkpoints.{holds_at, none_keeps, says_at}
use Rattle.commit_log.proofs.Holding.{is_log, pages_stay, pages_still}
use Rattle.disk_trait.proofs.Several.{no_fault_beside}
use Rattle.log_frame.specs.declared.fault.LogFault.TheVariants.{NoMemory}
use Rattle.commit_log.proofs.open_log.CommitLog.checkpoint.Goals as goal

pub returns-in_err-head-clause-any_moment : goal.returns-in_err-head-clause-any_moment
returns-in_err-head-clause-any_moment g c = λ t holds tells. none_keeps _ _ t c.args.state.now holds tells

pub returns-in_err-self-inside-clause-any_moment : goal.returns-in_err-self-inside-clause-any_moment
returns-in_err-self-inside-clause-any_moment g c = rw (← c.self.view_is) (λ t holds tells.
    let below = rw (← c.self.view_is) at c.requires.sequence in
    says_at (g.P.Parts.disks c.args.parts.now) (g.P.Parts.disks c.format.new.parts) c.self.inside.log t c.args.state.now c.as_slice.result.now (number c.beside-disk.result) (c.sequence-sequence.result + 1) c.beside-disk.ensures (ap (λ (n : ℕ). n + 1) c.sequence-sequence.ensures) below holds (ap (value_of state_format) c.as_slice.ensures ∙ c.in_ok-head.ensures.read) c.requires.whole tells c.format.ensures.any_moment)

pub returns-clause-any_moment : goal.returns-clause-any_moment
returns-clause-any_moment g c = rw (← c.self.view_is) (λ t holds tells.
    let below = rw (← c.self.view_is) at c.requires.sequence in
    says_at (g.P.Parts.disks c.args.parts.now) (g.P.Parts.disks c.format.new.parts) c.self.inside.log t c.args.state.now c.as_slice.result.now (number c.beside-disk.result) (c.sequence-sequence.result + 1) c.beside-disk.ensures (ap (λ (n : ℕ). n + 1) c.sequence-sequence.ensures) below holds (ap (value_of state_format) c.as_slice.ensures ∙ c.in_ok-head.ensures.read) c.requires.whole tells c.format.ensures.any_moment)

pub returns-clause-done : goal.returns-clause-done
returns-clause-done g c =
    let holds = rw (← c.self.view_is) at c.requires.holds in
    let below = rw (← c.self.view_is) at c.requires.sequence in
    holds_at (g.P.Parts.disks c.args.parts.now) (g.P.Parts.disks c.format.new.parts) c.self.inside.log c.in_ok-self-inside.field-0 holds.0 c.args.state.now c.as_slice.result.now (number c.beside-disk.result) (c.sequence-sequence.result + 1) c.beside-disk.ensures (ap (λ (n : ℕ). n + 1) c.sequence-sequence.ensures) below holds.1 (ap (value_of state_format) c.as_slice.ensures ∙ c.in_ok-head.ensures.read) c.requires.whole
    c.format.ensures.alone c.in_ok-self-inside.ensures.settled c.in_ok-self-inside.ensures.disk c.in_ok-self-inside.ensures.agrees c.in_ok-self-inside.ensures.formatted

pub returns-in_err-self-inside-clause-pages : goal.returns-in_err-self-inside-clause-pages
returns-in_err-self-inside-clause-pages g c =
    let holds = rw (← c.self.view_is) at c.requires.holds in
    pages_stay (g.P.Parts.disks c.args.parts.now) (g.P.Parts.disks c.format.new.parts) (beside c.self.inside.log.disk) (number c.beside-disk.result) c.beside-disk.ensures (is_log c.self.inside.log.disk holds.1.within) c.format.ensures.alone

pub returns-clause-pages : goal.returns-clause-pages
returns-clause-pages g c =
    let holds = rw (← c.self.view_is) at c.requires.holds in
    pages_stay (g.P.Parts.disks c.args.parts.now) (g.P.Parts.disks c.format.new.parts) (beside c.self.inside.log.disk) (number c.beside-disk.result) c.beside-disk.ensures (is_log c.self.inside.log.disk holds.1.within) c.format.ensures.alone

pub returns-in_err-self-inside-clause-still : goal.returns-in_err-self-inside-clause-still
returns-in_err-self-inside-clause-still g c =
    let holds = rw (← c.self.view_is) at c.requires.holds in
    pages_still (g.P.Parts.disks c.args.parts.now) (g.P.Parts.disks c.format.new.parts) (beside c.self.inside.log.disk) (number c.beside-disk.result) c.beside-disk.ensures (is_log c.self.inside.log.disk holds.1.within) c.format.ensures.alone

pub returns-clause-still : goal.returns-clause-still
returns-clause-still g c =
    let holds = rw (← c.self.view_is) at c.requires.holds in
    pages_still (g.P.Parts.disks c.args.parts.now) (g.P.Parts.disks c.format.new.parts) (beside c.self.inside.log.disk) (number c.beside-disk.result) c.beside-disk.ensures (is_log c.self.inside.log.disk holds.1.within) c.format.ensures.alone

pub returns-in_err-self-inside-clause-wanting : goal.returns-in_err-self-inside-clause-wanting
returns-in_err-self-inside-clause-wanting g c = λ wrong.
    let none : IsErrOf c.format.result NoMemory = search rules in
    no_fault_beside (g.P.Parts.disks c.args.parts.now) (g.P.Parts.disks c.format.new.parts) (number c.beside-disk.result) c.format.ensures.alone (c.format.ensures.wanting none)

pub returns-clause-steady : goal.returns-clause-steady
returns-clause-steady g c = no_fault_beside (g.P.Parts.disks c.args.parts.now) (g.P.Parts.disks c.format.new.parts) (number c.beside-disk.result) c.format.ensures.alone c.in_ok-self-inside.ensures.steady
