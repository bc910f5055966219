use Rattle.std.proofs.Common.{IsErrOf, ap, arith, refl, rules, ◌∙◌}
use Rattle.log_codec.specs.Checkpoint.{state_format}
use Rattle.log_codec.specs.Format.{value_of}
use Rattle.commit_log.proofs.Checkpoints.{format_holds, format_says, fresh_says}
use Rattle.commit_log.proofs.Holding.{pages_stay, pages_still}
use Rattle.disk_trait.proofs.Several.{no_fault_beside}
use Rattle.log_frame.specs.declared.fault.LogFault.TheVariants.{NoMemory}
use Rattle.commit_log.proofs.open_log.CommitLog.format.Goals as goal

pub returns-in_err-head-clause-any_moment : goal.returns-in_err-head-clause-any_moment
returns-in_err-head-clause-any_moment g c = λ tells. fresh_says (g.P.Parts.disks c.args.parts.now) c.args.state.now c.requires.settled tells c.requires.first c.requires.second

pub returns-in_err-log-clause-any_moment : goal.returns-in_err-log-clause-any_moment
returns-in_err-log-clause-any_moment g c = λ tells.
    format_says (g.P.Parts.disks c.args.parts.now) (g.P.Parts.disks c.format.new.parts) c.args.state.now c.as_slice.result.now (ap (value_of state_format) c.as_slice.ensures ∙ c.in_ok-head.ensures.read) c.requires.whole c.requires.settled tells c.requires.first c.requires.second c.format.ensures.any_moment

pub returns-clause-any_moment : goal.returns-clause-any_moment
returns-clause-any_moment g c = λ tells.
    format_says (g.P.Parts.disks c.args.parts.now) (g.P.Parts.disks c.format.new.parts) c.args.state.now c.as_slice.result.now (ap (value_of state_format) c.as_slice.ensures ∙ c.in_ok-head.ensures.read) c.requires.whole c.requires.settled tells c.requires.first c.requires.second c.format.ensures.any_moment

pub returns-clause-holds : goal.returns-clause-holds
returns-clause-holds g c =
    format_holds (g.P.Parts.disks c.args.parts.now) (g.P.Parts.disks c.format.new.parts) c.in_ok-log.log c.args.state.now c.as_slice.result.now (ap (value_of state_format) c.as_slice.ensures ∙ c.in_ok-head.ensures.read) c.requires.whole c.requires.settled c.requires.second
    c.format.ensures.alone c.in_ok-log.ensures.settled c.in_ok-log.ensures.disk c.in_ok-log.ensures.agrees c.in_ok-log.ensures.formatted

pub returns-in_err-log-clause-pages : goal.returns-in_err-log-clause-pages
returns-in_err-log-clause-pages g c = pages_stay (g.P.Parts.disks c.args.parts.now) (g.P.Parts.disks c.format.new.parts) 0 0 refl (omega arith) c.format.ensures.alone

pub returns-in_err-log-clause-still : goal.returns-in_err-log-clause-still
returns-in_err-log-clause-still g c = pages_still (g.P.Parts.disks c.args.parts.now) (g.P.Parts.disks c.format.new.parts) 0 0 refl (omega arith) c.format.ensures.alone

pub returns-clause-pages : goal.returns-clause-pages
returns-clause-pages g c = pages_stay (g.P.Parts.disks c.args.parts.now) (g.P.Parts.disks c.format.new.parts) 0 0 refl (omega arith) c.format.ensures.alone

pub returns-clause-still : goal.returns-clause-still
returns-clause-still g c = pages_still (g.P.Parts.disks c.args.parts.now) (g.P.Parts.disks c.format.new.parts) 0 0 refl (omega arith) c.format.ensures.alone

pub returns-in_err-log-clause-wanting : goal.returns-in_err-log-clause-wanting
returns-in_err-log-clause-wanting g c = λ wrong.
    let none : IsErrOf c.format.result NoMemory = search rules in
    no_fault_beside (g.P.Parts.disks c.args.parts.now) (g.P.Parts.disks c.format.new.parts) 0 c.format.ensures.alone (c.format.ensures.wanting none)

pub returns-clause-steady : goal.returns-clause-steady
returns-clause-steady g c = no_fault_beside (g.P.Parts.disks c.args.parts.now) (g.P.Parts.disks c.format.new.parts) 0 c.format.ensures.alone c.in_ok-log.ensures.steady
