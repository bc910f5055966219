use Rattle.std.proofs.Common.{◌≡◌, Err, Result, ap, refl, subst, sym, ℕ, ◌∙◌}
use Rattle.commit_log.proofs.Checkpoints.{none_keeps}
use Rattle.commit_log.specs.Holds.{beside}
use Rattle.disk_trait.proofs.Several.{goes_none}
use Rattle.disk_trait.specs.Disks.{Rose}
use Rattle.log_frame.specs.declared.fault.LogFault.{LogFault}
use Rattle.recovery.proofs.Moving.{log_damaged, log_failed, log_memory}
use Rattle.recovery.specs.declared.fault.RecoverFault.TheVariants as recovered
use Rattle.recovery.proofs.migrating.begin_log.Goals as goal

same_err : {T E : Type 0} (r : Result T E) (a b : E) → r ≡ Err a → r ≡ Err b → a ≡ b
same_err r a b is e = cc

pub returns-then-sequence-clause-goes : goal.returns-then-sequence-clause-goes
returns-then-sequence-clause-goes g c = goes_none (g.P.Parts.disks c.args.parts.now)

pub returns-then-sequence-clause-any_moment : goal.returns-then-sequence-clause-any_moment
returns-then-sequence-clause-any_moment g c = λ s holds tells. none_keeps (g.P.Parts.disks c.args.parts.now) c.args.log s c.args.state.now holds tells

pub returns-in-Err-clause-failed : goal.returns-in-Err-clause-failed
returns-in-Err-clause-failed g c = λ d is.
    let e : c.log_fault.result ≡ recovered.Failed d = same_err _ c.log_fault.result (recovered.Failed d) refl is in
    let f = log_failed _ c.in-Err.fault d (sym c.log_fault.ensures ∙ e) in
    let there : beside c.args.log.disk ≡ d = ap beside (sym c.disk-on.ensures.value) ∙ f.0 in
    subst (λ (n : ℕ). Rose ((g.P.Parts.disks c.args.parts.now).faults n) ((g.P.Parts.disks c.checkpoint.new.parts).faults n)) there (c.checkpoint.ensures.failed (c.in-Err.is ∙ ap (λ (x : LogFault). Err x) f.1))

pub returns-in-Err-clause-damaged : goal.returns-in-Err-clause-damaged
returns-in-Err-clause-damaged g c = λ d place is.
    let e : c.log_fault.result ≡ recovered.Damaged d place = same_err _ c.log_fault.result (recovered.Damaged d place) refl is in
    c.checkpoint.ensures.damaged place (c.in-Err.is ∙ ap (λ (f : LogFault). Err f) (log_damaged _ c.in-Err.fault d place (sym c.log_fault.ensures ∙ e)))

pub returns-in-Err-clause-wanting : goal.returns-in-Err-clause-wanting
returns-in-Err-clause-wanting g c = λ is.
    let e : c.log_fault.result ≡ recovered.NoMemory = same_err _ c.log_fault.result recovered.NoMemory refl is in
    c.checkpoint.ensures.wanting (c.in-Err.is ∙ ap (λ (f : LogFault). Err f) (log_memory _ c.in-Err.fault (sym c.log_fault.ensures ∙ e)))
