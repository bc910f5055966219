use Rattle.disk_trait.proofs.Several.{goes_then}
use Rattle.disk_trait.specs.Fused.{fused_disks}
use Rattle.repo_state.specs.Said.{said}
use Rattle.log_codec.specs.declared.state.State.{State}
use Rattle.recovery.specs.Found.{recorded}
use Rattle.recovery.specs.declared.fault.RecoverFault.{RecoverFault}
use Rattle.recovery.specs.declared.recovered.Recovered.{Recovered}
use Rattle.repo_durable.proofs.Failing.{failed_behind, failed_on}
use Rattle.repo_durable.proofs.Returning.{finds_one, finds_then, if_ok_on, more_run, more_then, none_fresh, none_lacks, none_lost, none_older, same_err}
use Rattle.std.proofs.Common.{Err, Ok, Option, ap, arith, inl, inr, refl, subst, sym, ◌∙◌, ◌≡◌}
use Rattle.repo_refusals.specs.declared.refusal.Refusal.TheVariants.{Damaged as IsDamaged, Stopped as IsStopped}
use Rattle.repo_durable.specs.Kept.{disks_of, held_of}
use Rattle.repo_durable.specs.Saying.{FindsOneOf}
use Rattle.repo_durable.proofs.Counting.{err_behind, ok_behind, outage_quiet, recovery_quiet, stays_then}
use Rattle.repo_durable.proofs.Returning.{reads_same}
use Rattle.repo_durable.proofs.stable.Stable.recover.Goals as goal

pub returns-in-Ok-Some-clause-crash : goal.returns-in-Ok-Some-clause-crash
returns-in-Ok-Some-clause-crash g c =
    let old = disks_of g.P.Parts.disks c.args.self.now in
    let mid = fused_disks g.P.Parts.disks c.restart_all.new.parts in
    let read = fused_disks g.P.Parts.disks c.recover-found.new.parts in
    let now = disks_of g.P.Parts.disks c.current.new.self in
    more_then old read now (more_then old mid read (more_run old mid c.restart_all.ensures.any_moment) (more_run mid read c.recover-found.ensures.any_moment)) c.current.ensures.crash

pub returns-in-Ok-Some-clause-found : goal.returns-in-Ok-Some-clause-found
returns-in-Ok-Some-clause-found g c =
    let old = disks_of g.P.Parts.disks c.args.self.now in
    let mid = fused_disks g.P.Parts.disks c.restart_all.new.parts in
    let read = fused_disks g.P.Parts.disks c.recover-found.new.parts in
    let now = disks_of g.P.Parts.disks c.current.new.self in
    let held = held_of c.args.self.now in
    let more = more_then old mid read (more_run old mid c.restart_all.ensures.any_moment) (more_run mid read c.recover-found.ensures.any_moment) in
    let holds = rw c.in-Ok-Some.field-0-is at c.in-Ok-Some.ensures.holds in
    let finds = finds_one old read c.in-Ok-Some.recovered.log held (recorded c.in-Ok-Some.recovered) more holds c.content_is_left.ensures in
    if_ok_on c.current.result (λ r. said r.state ≡ recorded c.in-Ok-Some.recovered) (λ r. FindsOneOf old now held (said r.state)) (λ r same. subst (λ (s : State). FindsOneOf old now held s) (sym same) (finds_then old read now held (recorded c.in-Ok-Some.recovered) c.current.ensures.crash c.current.ensures.content finds)) c.current.ensures.same

pub returns-in-Ok-None-clause-crash : goal.returns-in-Ok-None-clause-crash
returns-in-Ok-None-clause-crash g c =
    let old = disks_of g.P.Parts.disks c.args.self.now in
    let mid = fused_disks g.P.Parts.disks c.restart_all.new.parts in
    let read = fused_disks g.P.Parts.disks c.recover-found.new.parts in
    more_then old mid read (more_run old mid c.restart_all.ensures.any_moment) (more_run mid read c.recover-found.ensures.any_moment)

pub returns-in-Err-found-clause-crash : goal.returns-in-Err-found-clause-crash
returns-in-Err-found-clause-crash g c =
    let old = disks_of g.P.Parts.disks c.args.self.now in
    let mid = fused_disks g.P.Parts.disks c.restart_all.new.parts in
    let read = fused_disks g.P.Parts.disks c.recover-found.new.parts in
    more_then old mid read (more_run old mid c.restart_all.ensures.any_moment) (more_run mid read c.recover-found.ensures.any_moment)

pub returns-in-Ok-None-clause-damaged : goal.returns-in-Ok-None-clause-damaged
returns-in-Ok-None-clause-damaged g c = λ r place wrong pending says tells.
    let old = disks_of g.P.Parts.disks c.args.self.now in
    let mid = fused_disks g.P.Parts.disks c.restart_all.new.parts in
    let read = fused_disks g.P.Parts.disks c.recover-found.new.parts in
    let more = more_then old mid read (more_run old mid c.restart_all.ensures.any_moment) (more_run mid read c.recover-found.ensures.any_moment) in
    none_fresh old mid read (held_of c.args.self.now) pending more c.recover-found.ensures.content c.content_is_left.ensures (λ bytes reads. c.recover-found.ensures.fresh bytes reads (c.in-Ok-None.is ∙ ap (λ (o : Option Recovered). Ok o) c.in-Ok-None.field-0-is)) says tells

pub returns-in-Err-found-clause-damaged : goal.returns-in-Err-found-clause-damaged
returns-in-Err-found-clause-damaged g c = λ r place wrong pending says tells.
    let old = disks_of g.P.Parts.disks c.args.self.now in
    let mid = fused_disks g.P.Parts.disks c.restart_all.new.parts in
    let read = fused_disks g.P.Parts.disks c.recover-found.new.parts in
    let more = more_then old mid read (more_run old mid c.restart_all.ensures.any_moment) (more_run mid read c.recover-found.ensures.any_moment) in
    let at = c.of_recovery.ensures.damaged r place (same_err _ c.of_recovery.result (IsDamaged r place) refl wrong) in
    none_lost old mid read (held_of c.args.self.now) pending more c.recover-found.ensures.content c.content_is_left.ensures
    (λ bytes reads. c.recover-found.ensures.lost bytes at.0 at.1 reads (c.in-Err-found.is ∙ ap (λ (f : RecoverFault). Err f) at.2)) says tells

pub returns-in-Ok-Some-clause-damaged : goal.returns-in-Ok-Some-clause-damaged
returns-in-Ok-Some-clause-damaged g c = λ r place wrong pending says tells.
    let old = disks_of g.P.Parts.disks c.args.self.now in
    let mid = fused_disks g.P.Parts.disks c.restart_all.new.parts in
    let read = fused_disks g.P.Parts.disks c.recover-found.new.parts in
    let more = more_then old mid read (more_run old mid c.restart_all.ensures.any_moment) (more_run mid read c.recover-found.ensures.any_moment) in
    let holds = rw c.in-Ok-Some.field-0-is at c.in-Ok-Some.ensures.holds in
    elim (c.current.ensures.damaged r place wrong) [
      | inl older ↦ none_older old read c.in-Ok-Some.recovered.log (held_of c.args.self.now) (recorded c.in-Ok-Some.recovered) pending more holds c.content_is_left.ensures says tells older
      | inr lacks ↦ none_lacks old read c.in-Ok-Some.recovered.log (held_of c.args.self.now) (recorded c.in-Ok-Some.recovered) pending more holds c.content_is_left.ensures says tells lacks
    ]

pub returns-in-Ok-Some-clause-goes : goal.returns-in-Ok-Some-clause-goes
returns-in-Ok-Some-clause-goes g c =
    let old = disks_of g.P.Parts.disks c.args.self.now in
    let mid = fused_disks g.P.Parts.disks c.restart_all.new.parts in
    let read = fused_disks g.P.Parts.disks c.recover-found.new.parts in
    goes_then old read (disks_of g.P.Parts.disks c.current.new.self) (goes_then old mid read c.restart_all.ensures.any_moment.goes c.recover-found.ensures.any_moment.goes) c.current.ensures.goes

pub returns-in-Ok-None-clause-goes : goal.returns-in-Ok-None-clause-goes
returns-in-Ok-None-clause-goes g c =
    goes_then (disks_of g.P.Parts.disks c.args.self.now) (fused_disks g.P.Parts.disks c.restart_all.new.parts) (fused_disks g.P.Parts.disks c.recover-found.new.parts) c.restart_all.ensures.any_moment.goes c.recover-found.ensures.any_moment.goes

pub returns-in-Err-found-clause-goes : goal.returns-in-Err-found-clause-goes
returns-in-Err-found-clause-goes g c =
    goes_then (disks_of g.P.Parts.disks c.args.self.now) (fused_disks g.P.Parts.disks c.restart_all.new.parts) (fused_disks g.P.Parts.disks c.recover-found.new.parts) c.restart_all.ensures.any_moment.goes c.recover-found.ensures.any_moment.goes

pub returns-in-Ok-Some-clause-stopped : goal.returns-in-Ok-Some-clause-stopped
returns-in-Ok-Some-clause-stopped g c = λ r wrong.
    let old = disks_of g.P.Parts.disks c.args.self.now in
    let mid = fused_disks g.P.Parts.disks c.restart_all.new.parts in
    let read = fused_disks g.P.Parts.disks c.recover-found.new.parts in
    failed_behind old.faults read.faults (disks_of g.P.Parts.disks c.current.new.self).faults (goes_then old mid read c.restart_all.ensures.any_moment.goes c.recover-found.ensures.any_moment.goes).faults (c.current.ensures.stopped r wrong)

pub returns-in-Err-found-clause-stopped : goal.returns-in-Err-found-clause-stopped
returns-in-Err-found-clause-stopped g c = λ r wrong.
    let old = disks_of g.P.Parts.disks c.args.self.now in
    let mid = fused_disks g.P.Parts.disks c.restart_all.new.parts in
    let read = fused_disks g.P.Parts.disks c.recover-found.new.parts in
    let at = c.of_recovery.ensures.stopped r (same_err _ c.of_recovery.result (IsStopped r) refl wrong) in
    let is = c.in-Err-found.is ∙ ap (λ (f : RecoverFault). Err f) at.1 in
    let within = c.recover-found.ensures.disk at.0 is in
    failed_behind old.faults mid.faults read.faults c.restart_all.ensures.any_moment.goes.faults (failed_on mid read at.0 (omega (arith, within)) (c.recover-found.ensures.failed at.0 is))

pub returns-in-Err-clause-quiet : goal.returns-in-Err-clause-quiet
returns-in-Err-clause-quiet g c = λ other. outage_quiet c.restart_all.result c.in-Err.outage _ c.in-Err.is c.restart_all.ensures.wanting (sym c.of_outage.ensures.stops ∙ other)

pub returns-in-Ok-Some-clause-steady : goal.returns-in-Ok-Some-clause-steady
returns-in-Ok-Some-clause-steady g c =
    let old = disks_of g.P.Parts.disks c.args.self.now in
    let mid = fused_disks g.P.Parts.disks c.restart_all.new.parts in
    let read = fused_disks g.P.Parts.disks c.recover-found.new.parts in
    ok_behind c.current.result old read (disks_of g.P.Parts.disks c.current.new.self) (stays_then old mid read c.in_default.ensures.steady c.in-Ok-Some.ensures.steady) c.current.ensures.steady

pub returns-in-Ok-Some-clause-quiet : goal.returns-in-Ok-Some-clause-quiet
returns-in-Ok-Some-clause-quiet g c =
    let old = disks_of g.P.Parts.disks c.args.self.now in
    let mid = fused_disks g.P.Parts.disks c.restart_all.new.parts in
    let read = fused_disks g.P.Parts.disks c.recover-found.new.parts in
    err_behind c.current.result old read (disks_of g.P.Parts.disks c.current.new.self) (stays_then old mid read c.in_default.ensures.steady c.in-Ok-Some.ensures.steady) c.current.ensures.quiet

pub returns-in-Ok-None-clause-quiet : goal.returns-in-Ok-None-clause-quiet
returns-in-Ok-None-clause-quiet g c = λ other.
    let old = disks_of g.P.Parts.disks c.args.self.now in
    let mid = fused_disks g.P.Parts.disks c.restart_all.new.parts in
    let read = fused_disks g.P.Parts.disks c.recover-found.new.parts in
    stays_then old mid read c.in_default.ensures.steady c.in-Ok-None.ensures.steady

pub returns-in-Err-found-clause-quiet : goal.returns-in-Err-found-clause-quiet
returns-in-Err-found-clause-quiet g c = λ other.
    let old = disks_of g.P.Parts.disks c.args.self.now in
    let mid = fused_disks g.P.Parts.disks c.restart_all.new.parts in
    let read = fused_disks g.P.Parts.disks c.recover-found.new.parts in
    stays_then old mid read c.in_default.ensures.steady
    (recovery_quiet c.recover-found.result c.in-Err-found.fault _ c.in-Err-found.is c.recover-found.ensures.wanting c.recover-found.ensures.harmed (sym c.of_recovery.ensures.stops ∙ other))

pub returns-in-Ok-Some-clause-left : goal.returns-in-Ok-Some-clause-left
returns-in-Ok-Some-clause-left g c = λ bytes reads.
    let old = disks_of g.P.Parts.disks c.args.self.now in
    let mid = fused_disks g.P.Parts.disks c.restart_all.new.parts in
    let read = fused_disks g.P.Parts.disks c.recover-found.new.parts in
    let more = more_then old mid read (more_run old mid c.restart_all.ensures.any_moment) (more_run mid read c.recover-found.ensures.any_moment) in
    more.images bytes (c.content_is_left.ensures bytes (reads_same read (disks_of g.P.Parts.disks c.current.new.self) bytes c.current.ensures.content reads))

pub returns-in-Ok-None-clause-left : goal.returns-in-Ok-None-clause-left
returns-in-Ok-None-clause-left g c = λ bytes reads.
    let old = disks_of g.P.Parts.disks c.args.self.now in
    let mid = fused_disks g.P.Parts.disks c.restart_all.new.parts in
    let read = fused_disks g.P.Parts.disks c.recover-found.new.parts in
    let more = more_then old mid read (more_run old mid c.restart_all.ensures.any_moment) (more_run mid read c.recover-found.ensures.any_moment) in
    more.images bytes (c.content_is_left.ensures bytes reads)

pub returns-in-Err-found-clause-left : goal.returns-in-Err-found-clause-left
returns-in-Err-found-clause-left g c = λ bytes reads.
    let old = disks_of g.P.Parts.disks c.args.self.now in
    let mid = fused_disks g.P.Parts.disks c.restart_all.new.parts in
    let read = fused_disks g.P.Parts.disks c.recover-found.new.parts in
    let more = more_then old mid read (more_run old mid c.restart_all.ensures.any_moment) (more_run mid read c.recover-found.ensures.any_moment) in
    more.images bytes (c.content_is_left.ensures bytes reads)

pub returns-in-Err-clause-left : goal.returns-in-Err-clause-left
returns-in-Err-clause-left g c = λ bytes reads.
    let old = disks_of g.P.Parts.disks c.args.self.now in
    let mid = fused_disks g.P.Parts.disks c.restart_all.new.parts in
    (more_run old mid c.restart_all.ensures.any_moment).images bytes (c.read_is_left.ensures bytes reads)
