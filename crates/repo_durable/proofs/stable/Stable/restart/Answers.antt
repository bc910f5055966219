use Rattle.disk_trait.proofs.Several.{goes_none}
use Rattle.disk_trait.specs.AllDisks.{GoesOn}
use Rattle.disk_trait.specs.Disks.{Disks}
use Rattle.disk_trait.specs.Fused.{fused_disks}
use Rattle.disk_trait.specs.declared.fused.Fused.{Fused}
use Rattle.repo_state.specs.Said.{said}
use Rattle.repo_durable.proofs.Failing.{before_down, not_torn, stays_torn}
use Rattle.repo_durable.specs.Failing.{HasFailed, is_stopped}
use Rattle.repo_durable.proofs.Returning.{fails_said, on_err_any, on_err_two, on_ok_any, restart_finds, restart_never, restart_stays, tells_armed, tells_down}
use Rattle.repo_durable.proofs.Saying.{phase_of, said_armed}
use Rattle.repo_durable.proofs.Lowered.{none_torn, pending_of}
use Rattle.repo_durable.specs.Agreeing.{IsTaken}
use Rattle.repo_durable.specs.Kept.{disks_of, held_of}
use Rattle.repo_durable.specs.declared.stable.Stable.{Stable}
use Rattle.repo_durable.specs.Taking.{TakesFrom}
use Rattle.log_entries.specs.declared.entry.Entry.{Entry}
use Rattle.repo_state.specs.declared.held.Held.{Held}
use Rattle.std.proofs.Common.{IfErr, IfOk, IsErrOf, Option, ap, arith, false, refl, rules, subst, sym, ◌∙◌, ◌≡◌}
use Rattle.repo_refusals.specs.declared.refusal.Refusal.TheVariants.{Damaged as IsDamaged, Stopped as IsStopped}
use Rattle.repo_durable.proofs.Counting.{err_through, if_err_any, stays_none}
use Rattle.disk_trait.specs.AllDisks.{NoFault}
use Rattle.repo_durable.proofs.Lowered.{none_up}
use Rattle.repo_durable.proofs.Readable.{armed_has, restarted_has, stayed_has, torn_never}
use Rattle.repo_durable.proofs.Mapping.{if_ok_three, restart_moves, stay_moves}
use Rattle.repo_durable.proofs.Readable.{never_torn}
use Rattle.repo_durable.specs.Agreeing.{held_behind, numbers_of}
use Rattle.repo_durable.specs.Kept.{is_torn}
use Rattle.repo_durable.specs.Mapping.{MovesMap, taken_writes}
use Rattle.repo_durable.specs.Pages.{HasPages}
use Rattle.std.proofs.Common.{[]}
use Rattle.repo_durable.proofs.stable.Stable.restart.Goals as goal

pub returns-in_err-recovered-clause-stays_said : goal.returns-in_err-recovered-clause-stays_said
returns-in_err-recovered-clause-stays_said g c = λ is.
    let is_down = c.take_down.ensures.says (said_armed g.P.Parts.disks c.args.self.now c.disarm.new.self 0 c.disarm.ensures is) in
    on_err_any c.from_residual.result _ (fails_said g.P.Parts.disks c.take_down.new.self c.recover.new.self c.args.self.now.phase is_down (ap phase_of c.take_down.ensures.new) c.recover.ensures.crash c.recover.ensures.left c.recover.ensures.phase c.recover.ensures.held)

pub returns-in-Down-clause-says : goal.returns-in-Down-clause-says
returns-in-Down-clause-says g c = λ is.
    let is_down = c.take_down.ensures.says (said_armed g.P.Parts.disks c.args.self.now c.disarm.new.self 0 c.disarm.ensures is) in
    let down = sym c.recover.ensures.phase ∙ (sym c.replace.ensures.value ∙ c.in-Down.is) in
    c.take_over.ensures.says (restart_finds g.P.Parts.disks c.take_down.new.self c.recover.new.self c.in-Down.pending (said c.in_ok-recovered.recovered.state) is_down down c.recover.ensures.held c.in_ok-recovered.ensures.found)

pub returns-in-Down-clause-stays_said : goal.returns-in-Down-clause-stays_said
returns-in-Down-clause-stays_said g c = λ is.
    let is_down = c.take_down.ensures.says (said_armed g.P.Parts.disks c.args.self.now c.disarm.new.self 0 c.disarm.ensures is) in
    let down = sym c.recover.ensures.phase ∙ (sym c.replace.ensures.value ∙ c.in-Down.is) in
    on_err_two c.take_over.result _ _ _ c.take_over.ensures.rests c.take_over.ensures.stays
    (λ held phase. restart_stays g.P.Parts.disks c.take_down.new.self c.recover.new.self c.take_over.new.self c.in-Down.pending is_down down c.recover.ensures.crash c.recover.ensures.left c.recover.ensures.held c.take_over.ensures.parts held phase)

pub returns-in_err-recovered-clause-damaged : goal.returns-in_err-recovered-clause-damaged
returns-in_err-recovered-clause-damaged g c = λ r place is said_old tells.
    let wrong : IsErrOf c.recover.result (IsDamaged r place) = search rules in
    let is_down = c.take_down.ensures.says (said_armed g.P.Parts.disks c.args.self.now c.disarm.new.self 0 c.disarm.ensures said_old) in
    let told = tells_down g.P.Parts.disks _ c.take_down.new.self c.take_down.ensures.new (tells_armed g.P.Parts.disks c.args.self.now c.disarm.new.self 0 c.disarm.ensures tells) in
    restart_never g.P.Parts.disks c.take_down.new.self c.args.self.now.phase is_down (ap phase_of c.take_down.ensures.new) (sym c.is_torn.ensures ∙ c.if-is_torn.false)
    (λ pending says. c.recover.ensures.damaged r place wrong pending says told)

pub returns-in-Down-clause-damaged : goal.returns-in-Down-clause-damaged
returns-in-Down-clause-damaged g c = λ r place is said_old tells.
    let is_down = c.take_down.ensures.says (said_armed g.P.Parts.disks c.args.self.now c.disarm.new.self 0 c.disarm.ensures said_old) in
    let told = tells_down g.P.Parts.disks _ c.take_down.new.self c.take_down.ensures.new (tells_armed g.P.Parts.disks c.args.self.now c.disarm.new.self 0 c.disarm.ensures tells) in
    let down = sym c.recover.ensures.phase ∙ (sym c.replace.ensures.value ∙ c.in-Down.is) in
    let tells = c.recover.ensures.crash.goes_on told in
    let pages = tells 2 (omega arith) in
    c.take_over.ensures.damaged r place is pages.0 (restart_finds g.P.Parts.disks c.take_down.new.self c.recover.new.self c.in-Down.pending (said c.in_ok-recovered.recovered.state) is_down down c.recover.ensures.held c.in_ok-recovered.ensures.found tells pages.0 pages.1)

pub returns-in-Down-clause-pending : goal.returns-in-Down-clause-pending
returns-in-Down-clause-pending g c =
    let down = sym (ap phase_of c.take_down.ensures.new) ∙ (sym c.recover.ensures.phase ∙ (sym c.replace.ensures.value ∙ c.in-Down.is)) in
    subst (λ (o : Option Entry). IfOk c.take_over.result (TakesFrom o)) (sym (pending_of c.args.self.now.phase c.in-Down.pending down)) c.take_over.ensures.pending

pub returns-in-Down-clause-agrees : goal.returns-in-Down-clause-agrees
returns-in-Down-clause-agrees g c =
    subst (λ (h : Held). IfOk c.take_over.result (λ taken. IsTaken (disks_of g.P.Parts.disks c.take_over.new.self) h taken (held_of c.take_over.new.self).objects)) (c.recover.ensures.held ∙ ap held_of c.take_down.ensures.new) c.take_over.ensures.agrees

pub returns-in-Down-clause-whole : goal.returns-in-Down-clause-whole
returns-in-Down-clause-whole g c =
    let down = sym (ap phase_of c.take_down.ensures.new) ∙ (sym c.recover.ensures.phase ∙ (sym c.replace.ensures.value ∙ c.in-Down.is)) in
    on_ok_any c.take_over.result _ (none_torn c.args.self.now.phase c.in-Down.pending down)

pub returns-in_err-recovered-clause-goes : goal.returns-in_err-recovered-clause-goes
returns-in_err-recovered-clause-goes g c =
    before_down g.P.Parts.disks c.args.self.now c.take_down.new.self c.disarm.new.self (λ (d : Disks). GoesOn d (disks_of g.P.Parts.disks c.recover.new.self)) c.disarm.ensures c.take_down.ensures.new c.recover.ensures.goes

pub returns-in-Down-clause-goes : goal.returns-in-Down-clause-goes
returns-in-Down-clause-goes g c =
    subst (λ (p : Fused _). GoesOn (disks_of g.P.Parts.disks c.args.self.now) (fused_disks g.P.Parts.disks p)) (sym c.take_over.ensures.parts)
    (before_down g.P.Parts.disks c.args.self.now c.take_down.new.self c.disarm.new.self (λ (d : Disks). GoesOn d (disks_of g.P.Parts.disks c.recover.new.self)) c.disarm.ensures c.take_down.ensures.new c.recover.ensures.goes)

pub returns-in_err-recovered-clause-stopped : goal.returns-in_err-recovered-clause-stopped
returns-in_err-recovered-clause-stopped g c = λ r wrong.
    let is : IsErrOf c.recover.result (IsStopped r) = search rules in
    before_down g.P.Parts.disks c.args.self.now c.take_down.new.self c.disarm.new.self (λ (d : Disks). HasFailed d.faults (disks_of g.P.Parts.disks c.recover.new.self).faults) c.disarm.ensures c.take_down.ensures.new (c.recover.ensures.stopped r is)

pub returns-in-Down-clause-stopped : goal.returns-in-Down-clause-stopped
returns-in-Down-clause-stopped g c = λ r wrong. absurd (c.take_over.ensures.stopped r wrong)

pub returns-in_err-recovered-clause-torn : goal.returns-in_err-recovered-clause-torn
returns-in_err-recovered-clause-torn g c = λ torn. absurd (not_torn c.args.self.now c.take_down.new.self c.disarm.new.self c.take_down.ensures.new (sym c.is_torn.ensures ∙ c.if-is_torn.false) torn)

pub returns-in-Down-clause-torn : goal.returns-in-Down-clause-torn
returns-in-Down-clause-torn g c = λ torn. absurd (not_torn c.args.self.now c.take_down.new.self c.disarm.new.self c.take_down.ensures.new (sym c.is_torn.ensures ∙ c.if-is_torn.false) torn)

pub returns-then-is_torn-clause-goes : goal.returns-then-is_torn-clause-goes
returns-then-is_torn-clause-goes g c =
    before_down g.P.Parts.disks c.args.self.now c.take_down.new.self c.disarm.new.self (λ (d : Disks). GoesOn d (disks_of g.P.Parts.disks c.take_down.new.self)) c.disarm.ensures c.take_down.ensures.new (goes_none (disks_of g.P.Parts.disks c.take_down.new.self))

pub returns-then-is_torn-clause-torn : goal.returns-then-is_torn-clause-torn
returns-then-is_torn-clause-torn g c = λ torn. (refl, stays_torn c.args.self.now c.take_down.new.self c.disarm.new.self c.disarm.ensures c.take_down.ensures.new torn)

pub returns-in-Up-clause-goes : goal.returns-in-Up-clause-goes
returns-in-Up-clause-goes g c =
    before_down g.P.Parts.disks c.args.self.now c.take_down.new.self c.disarm.new.self (λ (d : Disks). GoesOn d (disks_of g.P.Parts.disks c.recover.new.self)) c.disarm.ensures c.take_down.ensures.new c.recover.ensures.goes

pub returns-in-Up-clause-torn : goal.returns-in-Up-clause-torn
returns-in-Up-clause-torn g c = λ torn. absurd (not_torn c.args.self.now c.take_down.new.self c.disarm.new.self c.take_down.ensures.new (sym c.is_torn.ensures ∙ c.if-is_torn.false) torn)

pub returns-in-Torn-clause-goes : goal.returns-in-Torn-clause-goes
returns-in-Torn-clause-goes g c =
    subst (λ (s : Stable _). GoesOn (disks_of g.P.Parts.disks c.args.self.now) (disks_of g.P.Parts.disks s)) (sym c.set_phase.ensures)
    (before_down g.P.Parts.disks c.args.self.now c.take_down.new.self c.disarm.new.self (λ (d : Disks). GoesOn d (disks_of g.P.Parts.disks c.recover.new.self)) c.disarm.ensures c.take_down.ensures.new c.recover.ensures.goes)

pub returns-in-Torn-clause-torn : goal.returns-in-Torn-clause-torn
returns-in-Torn-clause-torn g c = λ torn. absurd (not_torn c.args.self.now c.take_down.new.self c.disarm.new.self c.take_down.ensures.new (sym c.is_torn.ensures ∙ c.if-is_torn.false) torn)

pub returns-in_err-recovered-clause-quiet : goal.returns-in_err-recovered-clause-quiet
returns-in_err-recovered-clause-quiet g c =
    let new = disks_of g.P.Parts.disks c.recover.new.self in
    before_down g.P.Parts.disks c.args.self.now c.take_down.new.self c.disarm.new.self (λ (d : Disks). IfErr c.from_residual.result (λ r. is_stopped r ≡ false → NoFault d new)) c.disarm.ensures c.take_down.ensures.new
    (err_through c.recover.result c.from_residual.result _ (λ r wrong. search rules) c.recover.ensures.quiet)

pub returns-in-Down-clause-steady : goal.returns-in-Down-clause-steady
returns-in-Down-clause-steady g c =
    on_ok_any c.take_over.result _ (subst (λ (p : Fused _). NoFault (disks_of g.P.Parts.disks c.args.self.now) (fused_disks g.P.Parts.disks p)) (sym c.take_over.ensures.parts)
    (before_down g.P.Parts.disks c.args.self.now c.take_down.new.self c.disarm.new.self (λ (d : Disks). NoFault d (disks_of g.P.Parts.disks c.recover.new.self)) c.disarm.ensures c.take_down.ensures.new (c.in_ok-recovered.ensures.steady)))

pub returns-in-Down-clause-quiet : goal.returns-in-Down-clause-quiet
returns-in-Down-clause-quiet g c =
    if_err_any c.take_over.result _ (subst (λ (p : Fused _). NoFault (disks_of g.P.Parts.disks c.args.self.now) (fused_disks g.P.Parts.disks p)) (sym c.take_over.ensures.parts)
    (before_down g.P.Parts.disks c.args.self.now c.take_down.new.self c.disarm.new.self (λ (d : Disks). NoFault d (disks_of g.P.Parts.disks c.recover.new.self)) c.disarm.ensures c.take_down.ensures.new (c.in_ok-recovered.ensures.steady)))

pub returns-then-is_torn-clause-quiet : goal.returns-then-is_torn-clause-quiet
returns-then-is_torn-clause-quiet g c = λ other.
    before_down g.P.Parts.disks c.args.self.now c.take_down.new.self c.disarm.new.self (λ (d : Disks). NoFault d (disks_of g.P.Parts.disks c.take_down.new.self)) c.disarm.ensures c.take_down.ensures.new (stays_none (disks_of g.P.Parts.disks c.take_down.new.self))

pub returns-in-Up-clause-quiet : goal.returns-in-Up-clause-quiet
returns-in-Up-clause-quiet g c = λ other.
    before_down g.P.Parts.disks c.args.self.now c.take_down.new.self c.disarm.new.self (λ (d : Disks). NoFault d (disks_of g.P.Parts.disks c.recover.new.self)) c.disarm.ensures c.take_down.ensures.new (c.in_ok-recovered.ensures.steady)

pub returns-in-Torn-clause-quiet : goal.returns-in-Torn-clause-quiet
returns-in-Torn-clause-quiet g c = λ other.
    subst (λ (s : Stable _). NoFault (disks_of g.P.Parts.disks c.args.self.now) (disks_of g.P.Parts.disks s)) (sym c.set_phase.ensures)
    (before_down g.P.Parts.disks c.args.self.now c.take_down.new.self c.disarm.new.self (λ (d : Disks). NoFault d (disks_of g.P.Parts.disks c.recover.new.self)) c.disarm.ensures c.take_down.ensures.new (c.in_ok-recovered.ensures.steady))

pub returns-in_err-recovered-clause-readable : goal.returns-in_err-recovered-clause-readable
returns-in_err-recovered-clause-readable g c = λ is has.
    let is_down = c.take_down.ensures.says (said_armed g.P.Parts.disks c.args.self.now c.disarm.new.self 0 c.disarm.ensures is) in
    let was = c.take_down.ensures.readable (armed_has g.P.Parts.disks c.args.self.now c.disarm.new.self 0 c.disarm.ensures has) in
    stayed_has g.P.Parts.disks c.take_down.new.self c.recover.new.self c.args.self.now.phase is_down (ap phase_of c.take_down.ensures.new) (sym c.is_torn.ensures ∙ c.if-is_torn.false) c.recover.ensures.left c.recover.ensures.goes c.recover.ensures.held c.recover.ensures.phase was

pub returns-in-Down-clause-readable : goal.returns-in-Down-clause-readable
returns-in-Down-clause-readable g c = λ is has.
    let is_down = c.take_down.ensures.says (said_armed g.P.Parts.disks c.args.self.now c.disarm.new.self 0 c.disarm.ensures is) in
    let was = c.take_down.ensures.readable (armed_has g.P.Parts.disks c.args.self.now c.disarm.new.self 0 c.disarm.ensures has) in
    let down = sym c.recover.ensures.phase ∙ (sym c.replace.ensures.value ∙ c.in-Down.is) in
    let told = restarted_has g.P.Parts.disks c.take_down.new.self c.recover.new.self c.in-Down.pending c.in_ok-recovered.recovered.state c.in_ok-recovered.recovered.log is_down down c.recover.ensures.left c.read_is_left.ensures c.in_ok-recovered.ensures.stands c.recover.ensures.goes c.recover.ensures.held was in
    c.take_over.ensures.readable told.0 told.1

pub returns-in-Torn-clause-readable : goal.returns-in-Torn-clause-readable
returns-in-Torn-clause-readable g c = λ is has. absurd (torn_never c.take_down.new.self c.in-Torn.entry (sym c.is_torn.ensures ∙ c.if-is_torn.false) (sym c.recover.ensures.phase ∙ (sym c.replace.ensures.value ∙ c.in-Torn.is)))

pub returns-in-Up-clause-readable : goal.returns-in-Up-clause-readable
returns-in-Up-clause-readable g c = λ is has. absurd (none_up c.args.self.now.phase c.in-Up.log (sym (ap phase_of c.take_down.ensures.new) ∙ (sym c.recover.ensures.phase ∙ (sym c.replace.ensures.value ∙ c.in-Up.is))))

pub returns-then-is_torn-clause-readable : goal.returns-then-is_torn-clause-readable
returns-then-is_torn-clause-readable g c = λ is has. c.take_down.ensures.readable (armed_has g.P.Parts.disks c.args.self.now c.disarm.new.self 0 c.disarm.ensures has)

pub returns-in-Up-clause-stays_said : goal.returns-in-Up-clause-stays_said
returns-in-Up-clause-stays_said g c = λ is. absurd (none_up c.args.self.now.phase c.in-Up.log (sym (ap phase_of c.take_down.ensures.new) ∙ (sym c.recover.ensures.phase ∙ (sym c.replace.ensures.value ∙ c.in-Up.is))))

pub returns-in-Down-clause-map : goal.returns-in-Down-clause-map
returns-in-Down-clause-map g c = λ is.
    let disks = g.P.Parts.disks in
    let store = c.args.self.now in
    let lowered_store = c.take_down.new.self in
    let new = c.take_over.new.self in
    let is_down = c.take_down.ensures.says (said_armed disks store c.disarm.new.self 0 c.disarm.ensures is) in
    let down = sym c.recover.ensures.phase ∙ (sym c.replace.ensures.value ∙ c.in-Down.is) in
    if_ok_three c.take_over.result _ _ _ _ c.take_over.ensures.pending c.take_over.ensures.numbers c.take_over.ensures.objects
    (λ t from numbers objects.
    subst (λ (h : Held). MovesMap (HasPages disks store) (is_torn new) (taken_writes h t) ((disks_of disks store).content 2) h ((disks_of disks new).content 2) (held_of new)) (ap held_of c.take_down.ensures.new)
    (before_down disks store lowered_store c.disarm.new.self (λ (d : Disks). MovesMap (HasPages disks store) (is_torn new) (taken_writes (held_of lowered_store) t) (d.content 2) (held_of lowered_store) ((disks_of disks new).content 2) (held_of new)) c.disarm.ensures c.take_down.ensures.new
    (restart_moves disks lowered_store c.recover.new.self new (HasPages disks store) c.in-Down.pending c.in_ok-recovered.recovered.state t
    (λ has. c.take_down.ensures.readable (armed_has disks store c.disarm.new.self 0 c.disarm.ensures has)) c.take_down.ensures.kept is_down down c.recover.ensures.left c.recover.ensures.goes c.in_ok-recovered.ensures.found from
    (subst (λ (h : Held). numbers_of c.in_ok-recovered.recovered.state ≡ numbers_of (held_behind h t)) c.recover.ensures.held numbers) c.take_over.ensures.parts objects)))

pub returns-in-Down-clause-map_stays : goal.returns-in-Down-clause-map_stays
returns-in-Down-clause-map_stays g c = λ is.
    let disks = g.P.Parts.disks in
    let store = c.args.self.now in
    let lowered_store = c.take_down.new.self in
    let new = c.take_over.new.self in
    let is_down = c.take_down.ensures.says (said_armed disks store c.disarm.new.self 0 c.disarm.ensures is) in
    on_err_two c.take_over.result _ _ _ c.take_over.ensures.rests c.take_over.ensures.stays
    (λ held phase.
    subst (λ (h : Held). MovesMap (HasPages disks store) (is_torn new) [] ((disks_of disks store).content 2) h ((disks_of disks new).content 2) (held_of new)) (ap held_of c.take_down.ensures.new)
    (before_down disks store lowered_store c.disarm.new.self (λ (d : Disks). MovesMap (HasPages disks store) (is_torn new) [] (d.content 2) (held_of lowered_store) ((disks_of disks new).content 2) (held_of new)) c.disarm.ensures c.take_down.ensures.new
    (stay_moves disks lowered_store c.recover.new.self new (HasPages disks store) store.phase
    (λ has. c.take_down.ensures.readable (armed_has disks store c.disarm.new.self 0 c.disarm.ensures has)) is_down (ap phase_of c.take_down.ensures.new) (sym c.is_torn.ensures ∙ c.if-is_torn.false) c.recover.ensures.left c.recover.ensures.goes c.take_over.ensures.parts (held ∙ c.recover.ensures.held))))

pub returns-in_err-recovered-clause-map_stays : goal.returns-in_err-recovered-clause-map_stays
returns-in_err-recovered-clause-map_stays g c = λ is.
    let disks = g.P.Parts.disks in
    let store = c.args.self.now in
    let lowered_store = c.take_down.new.self in
    let new = c.recover.new.self in
    let is_down = c.take_down.ensures.says (said_armed disks store c.disarm.new.self 0 c.disarm.ensures is) in
    on_err_any c.from_residual.result _
    (subst (λ (h : Held). MovesMap (HasPages disks store) (is_torn new) [] ((disks_of disks store).content 2) h ((disks_of disks new).content 2) (held_of new)) (ap held_of c.take_down.ensures.new)
    (before_down disks store lowered_store c.disarm.new.self (λ (d : Disks). MovesMap (HasPages disks store) (is_torn new) [] (d.content 2) (held_of lowered_store) ((disks_of disks new).content 2) (held_of new)) c.disarm.ensures c.take_down.ensures.new
    (stay_moves disks lowered_store new new (HasPages disks store) store.phase
    (λ has. c.take_down.ensures.readable (armed_has disks store c.disarm.new.self 0 c.disarm.ensures has)) is_down (ap phase_of c.take_down.ensures.new) (sym c.is_torn.ensures ∙ c.if-is_torn.false) c.recover.ensures.left c.recover.ensures.goes refl c.recover.ensures.held)))

pub returns-then-is_torn-clause-map_stays : goal.returns-then-is_torn-clause-map_stays
returns-then-is_torn-clause-map_stays g c = λ is.
    let disks = g.P.Parts.disks in
    let store = c.args.self.now in
    let new = c.take_down.new.self in
    record { moves = λ told whole disk image was now'. absurd (never_torn (sym (sym c.is_torn.ensures ∙ c.if-is_torn.true) ∙ whole)) }

pub returns-in-Up-clause-map_stays : goal.returns-in-Up-clause-map_stays
returns-in-Up-clause-map_stays g c = λ is. absurd (none_up c.args.self.now.phase c.in-Up.log (sym (ap phase_of c.take_down.ensures.new) ∙ (sym c.recover.ensures.phase ∙ (sym c.replace.ensures.value ∙ c.in-Up.is))))

pub returns-in-Torn-clause-map_stays : goal.returns-in-Torn-clause-map_stays
returns-in-Torn-clause-map_stays g c = λ is. absurd (torn_never c.take_down.new.self c.in-Torn.entry (sym c.is_torn.ensures ∙ c.if-is_torn.false) (sym c.recover.ensures.phase ∙ (sym c.replace.ensures.value ∙ c.in-Torn.is)))
