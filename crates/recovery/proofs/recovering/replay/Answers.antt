use Rattle.log_codec.specs.Format.{value_of}
use Rattle.log_codec.specs.Grammar.{body_format}
use Rattle.std.proofs.Common.{◌≡◌, IsErrOf, List, Some, map, ℕ, rules, subst, ◌∙◌}
use Rattle.repo_state.specs.Said.{said}
use Rattle.recovery.specs.Damage.{CantHold, IsNoBody, NoBody, NoCheckpoint, NoSequence}
use Rattle.recovery.specs.declared.fault.RecoverFault.TheVariants.{Damaged}
use Rattle.commit_log.specs.Recovered.{in_format}
use Rattle.recovery.proofs.Aside.{recorded_is, reopened_is}
use Rattle.recovery.proofs.Reopened.{reopens_is}
use Rattle.recovery.proofs.Replayed.{state_is}
use Rattle.commit_log.specs.Opening.{log_of}
use Rattle.recovery.proofs.recovering.replay.Goals as goal

pub returns-clause-state : goal.returns-clause-state
returns-clause-state c =
    state_is (log_of (c.args.log.now, c.args.head.now, c.args.records.now)) c.in_ok-state.state (in_format c.in_ok-state.state.format (said c.in_ok-held.held)) c.in_ok-bodies.bodies c.in_ok-disk.ensures.small c.in_ok-state.ensures.state
    (subst (λ (rs : List (List ℕ)). map (value_of body_format) rs ≡ map Some c.in_ok-bodies.bodies) c.as_slice.ensures c.in_ok-bodies.ensures.bodies)
    (recorded_is c.in_ok-state.state (said c.in_ok-held.held) c.in_ok-bodies.bodies c.in_ok-held.ensures.said)

pub returns-clause-reopens : goal.returns-clause-reopens
returns-clause-reopens c =
    reopens_is (log_of (c.args.log.now, c.args.head.now, c.args.records.now)) c.in_ok-state.state c.in_ok-bodies.bodies c.hold_on.new.reopens c.in_ok-state.ensures.state
    (subst (λ (rs : List (List ℕ)). map (value_of body_format) rs ≡ map Some c.in_ok-bodies.bodies) c.as_slice.ensures c.in_ok-bodies.ensures.bodies)
    (c.in_ok-held.ensures.reopens ∙ reopened_is c.in_ok-state.state (map Some c.in_ok-bodies.bodies))

pub returns-in_err-disk-clause-damaged : goal.returns-in_err-disk-clause-damaged
returns-in_err-disk-clause-damaged c = λ d place is.
    let wrong : IsErrOf c.disk_of.result (Damaged d place) = search rules in
    let f = c.disk_of.ensures.damaged d place wrong in
    (f.0, NoSequence f.2 f.1)

pub returns-in_err-state-clause-damaged : goal.returns-in_err-state-clause-damaged
returns-in_err-state-clause-damaged c = λ d place is.
    let wrong : IsErrOf c.read_head.result (Damaged d place) = search rules in
    let f = c.read_head.ensures.damaged d place wrong in
    (f.0 ∙ c.in_ok-disk.ensures.disk, NoCheckpoint f.2 f.1)

pub returns-in_err-bodies-clause-damaged : goal.returns-in_err-bodies-clause-damaged
returns-in_err-bodies-clause-damaged c = λ d place is.
    let wrong : IsErrOf c.read_bodies.result (Damaged d place) = search rules in
    let f = c.read_bodies.ensures.damaged d place wrong in
    (f.0 ∙ c.in_ok-disk.ensures.disk, NoBody (subst (λ (n : ℕ). IsNoBody n c.args.records.now place) c.first_gate-first.ensures (subst (λ (rs : List (List ℕ)). IsNoBody c.first_gate-first.result rs place) c.as_slice.ensures f.1)))

pub returns-in_err-held-clause-damaged : goal.returns-in_err-held-clause-damaged
returns-in_err-held-clause-damaged c = λ d place is.
    let wrong : IsErrOf c.hold_on.result (Damaged d place) = search rules in
    let f = c.hold_on.ensures.damaged d place wrong in
    let records = subst (λ (rs : List (List ℕ)). map (value_of body_format) rs ≡ map Some c.in_ok-bodies.bodies) c.as_slice.ensures c.in_ok-bodies.ensures.bodies in
    (f.0 ∙ c.in_ok-disk.ensures.disk, CantHold (record { state = c.in_ok-state.state; head = c.in_ok-state.ensures.state; bodies = c.in_ok-bodies.bodies; records = records; unfit = f.2 }) f.1)
