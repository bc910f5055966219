use Rattle.repo_core.proofs.Failing.{failed_between, stopped_memory}
use Rattle.repo_core.proofs.Entered.{goes_down, on_err3}
use Rattle.repo_core.proofs.Taking.{down_with_it, on_ok4, pending_falls, taken_from, takes_after, tells_shown}
use Rattle.repo_core.specs.Restarting.{Takes, TakesNone}
use Rattle.repo_core.specs.Shown.{Shown, shown}
use Rattle.repo_durable.specs.Kept.{disks_of, pending}
use Rattle.std.proofs.Common.{IsErrOf, OnOk, ap, refl, rules, subst}
use Rattle.std.specs.Prelude.{OnErr}
use Rattle.repo_refusals.specs.declared.refusal.Refusal.TheVariants.{Damaged as IsDamaged, Stopped as IsStopped}
use Rattle.repo_core.proofs.Failing.{counts_between, err_shown}
use Rattle.repo_durable.proofs.Counting.{err_through, if_err_any, stays_then}
use Rattle.repo_durable.proofs.Returning.{on_ok_any}
use Rattle.repo_core.proofs.Readable.{shown_has}
use Rattle.repo_core.proofs.Objects.{moves_again, objects_torn, whole_answered, whole_up}
use Rattle.repo_core.proofs.Taking.{none_taken, takes_held}
use Rattle.repo_durable.proofs.Returning.{on_err_any}
use Rattle.repo_durable.specs.Kept.{held_of}
use Rattle.repo_durable.specs.Mapping.{StoreMoves, taken_writes}
use Rattle.repo_durable.specs.declared.recovering.Taken.{Taken}
use Rattle.repo_volatile.proofs.Lasting.{lasts_itself}
use Rattle.repo_core.proofs.repo.Repo.take_over.Goals as goal

pub returns-in-Pending-clause-takes : goal.returns-in-Pending-clause-takes
returns-in-Pending-clause-takes g c =
    let i = c.self.inside in
    let s = c.restart.new.self in
    let n = c.take_pending.new.stable in
    let x : Shown = shown g.P.Parts.disks i.stable i.memory i.trace i.opened_in in
    let y : Shown = shown g.P.Parts.disks s i.memory i.trace i.opened_in in
    let z : Shown = shown g.P.Parts.disks n c.take_pending.new.memory c.take_pending.new.trace i.opened_in in
    subst (λ (s : Shown). OnOk c.take_pending.result (Takes s z)) c.self.view_is
    (on_ok4 c.take_pending.result _ _ _ _ _ c.take_pending.ensures.held c.take_pending.ensures.limit c.take_pending.ensures.trace c.take_pending.ensures.requested
    (λ h l t r. takes_after x y z i.stable.phase c.in_ok-restart.field-0 c.in-Pending.entry refl refl refl c.in_ok-restart.ensures.whole c.in_ok-restart.ensures.pending c.in-Pending.is c.in_ok-restart.ensures.held c.restart.ensures.limit refl refl h l t r c.take_pending.ensures.sessions
    (moves_again g.P.Parts.disks i.stable s n c.in-Pending.entry (c.restart.ensures.readable c.self.invariant.1) c.in_ok-restart.ensures.up c.in_ok-restart.ensures.held c.take_pending.ensures.pages h
    (subst (λ (t : Taken). StoreMoves g.P.Parts.disks (taken_writes (held_of i.stable) t) i.stable s) c.in-Pending.is (c.in_ok-restart.ensures.map c.self.invariant.1)))))

pub returns-in-Pending-clause-none : goal.returns-in-Pending-clause-none
returns-in-Pending-clause-none g c =
    let i = c.self.inside in
    let s = c.restart.new.self in
    let n = c.take_pending.new.stable in
    let e = c.in-Pending.entry in
    let x : Shown = shown g.P.Parts.disks i.stable i.memory i.trace i.opened_in in
    let y : Shown = shown g.P.Parts.disks s i.memory i.trace i.opened_in in
    let z : Shown = shown g.P.Parts.disks n c.take_pending.new.memory c.take_pending.new.trace i.opened_in in
    let there = taken_from (pending i.stable) c.in_ok-restart.field-0 e c.in-Pending.is c.in_ok-restart.ensures.pending in
    subst (λ (s : Shown). OnErr c.take_pending.result (TakesNone s z)) c.self.view_is
    (on_err3 c.take_pending.result _ _ _ _ c.take_pending.ensures.left c.take_pending.ensures.refused c.take_pending.ensures.torn
    (λ falls trace torn. pending_falls x y z e c.in_ok-restart.ensures.whole (down_with_it i.stable.phase e there c.in_ok-restart.ensures.whole) there (record { objects = c.in_ok-restart.ensures.held; limit = c.restart.ensures.limit }) refl refl
    (goes_down s n y z e c.in_ok-restart.ensures.up refl refl refl refl falls c.take_pending.ensures.lasts) trace
    (objects_torn x z torn)))

pub returns-in_err-restart-clause-damaged : goal.returns-in_err-restart-clause-damaged
returns-in_err-restart-clause-damaged g c = λ n place is told.
    let i = c.self.inside in
    let wrong : IsErrOf c.restart.result (IsDamaged n place) = search rules in
    let tells = tells_shown g.P.Parts.disks i.stable i.memory i.trace i.opened_in c.args.self.now c.self.view_is told in
    c.restart.ensures.damaged n place wrong c.self.invariant.1 tells

pub returns-in_err-restart-clause-stopped : goal.returns-in_err-restart-clause-stopped
returns-in_err-restart-clause-stopped g c = λ n is.
    let i = c.self.inside in
    let wrong : IsErrOf c.restart.result (IsStopped n) = search rules in
    failed_between (disks_of g.P.Parts.disks i.stable) (disks_of g.P.Parts.disks c.restart.new.self) c.args.self.now (shown g.P.Parts.disks c.restart.new.self i.memory i.trace i.opened_in)
    (ap (λ (s : Shown). s.faults) c.self.view_is) refl (c.restart.ensures.stopped n wrong)

pub returns-in-Pending-clause-stopped : goal.returns-in-Pending-clause-stopped
returns-in-Pending-clause-stopped g c = λ n is. stopped_memory c.take_pending.result n _ c.take_pending.ensures.refusal is

pub returns-in_err-restart-clause-quiet : goal.returns-in_err-restart-clause-quiet
returns-in_err-restart-clause-quiet g c =
    let i = c.self.inside in
    err_shown c.from_residual.result (disks_of g.P.Parts.disks i.stable) (disks_of g.P.Parts.disks c.restart.new.self) c.args.self.now (shown g.P.Parts.disks c.restart.new.self i.memory i.trace i.opened_in) (ap (λ (s : Shown). s.faults) c.self.view_is) refl (err_through c.restart.result c.from_residual.result _ (λ r wrong. search rules) c.restart.ensures.quiet)

pub returns-in-Held-clause-steady : goal.returns-in-Held-clause-steady
returns-in-Held-clause-steady g c =
    let i = c.self.inside in
    counts_between (disks_of g.P.Parts.disks i.stable) (disks_of g.P.Parts.disks c.restart.new.self) c.args.self.now (shown g.P.Parts.disks c.restart.new.self i.memory i.trace i.opened_in) (ap (λ (s : Shown). s.faults) c.self.view_is) refl (c.in_ok-restart.ensures.steady)

pub returns-in-Pending-clause-steady : goal.returns-in-Pending-clause-steady
returns-in-Pending-clause-steady g c =
    let i = c.self.inside in
    on_ok_any c.take_pending.result _ (counts_between (disks_of g.P.Parts.disks i.stable) (disks_of g.P.Parts.disks c.take_pending.new.stable) c.args.self.now (shown g.P.Parts.disks c.take_pending.new.stable c.take_pending.new.memory c.take_pending.new.trace i.opened_in) (ap (λ (s : Shown). s.faults) c.self.view_is) refl (stays_then (disks_of g.P.Parts.disks i.stable) (disks_of g.P.Parts.disks c.restart.new.self) (disks_of g.P.Parts.disks c.take_pending.new.stable) c.in_ok-restart.ensures.steady c.take_pending.ensures.faults))

pub returns-in-Pending-clause-quiet : goal.returns-in-Pending-clause-quiet
returns-in-Pending-clause-quiet g c =
    let i = c.self.inside in
    if_err_any c.take_pending.result _ (counts_between (disks_of g.P.Parts.disks i.stable) (disks_of g.P.Parts.disks c.take_pending.new.stable) c.args.self.now (shown g.P.Parts.disks c.take_pending.new.stable c.take_pending.new.memory c.take_pending.new.trace i.opened_in) (ap (λ (s : Shown). s.faults) c.self.view_is) refl (stays_then (disks_of g.P.Parts.disks i.stable) (disks_of g.P.Parts.disks c.restart.new.self) (disks_of g.P.Parts.disks c.take_pending.new.stable) c.in_ok-restart.ensures.steady c.take_pending.ensures.faults))

pub returns-in_err-restart-clause-readable : goal.returns-in_err-restart-clause-readable
returns-in_err-restart-clause-readable g c = λ has.
    let i = c.self.inside in
    c.restart.ensures.readable c.self.invariant.1 (shown_has g.P.Parts.disks i.stable i.memory i.trace i.opened_in c.args.self.now c.self.view_is has)

pub returns-in-Held-clause-readable : goal.returns-in-Held-clause-readable
returns-in-Held-clause-readable g c = λ has.
    let i = c.self.inside in
    c.restart.ensures.readable c.self.invariant.1 (shown_has g.P.Parts.disks i.stable i.memory i.trace i.opened_in c.args.self.now c.self.view_is has)

pub returns-in-Pending-clause-readable : goal.returns-in-Pending-clause-readable
returns-in-Pending-clause-readable g c = λ has.
    let i = c.self.inside in
    c.take_pending.ensures.readable (c.restart.ensures.readable c.self.invariant.1 (shown_has g.P.Parts.disks i.stable i.memory i.trace i.opened_in c.args.self.now c.self.view_is has))

pub returns-in-Held-clause-takes : goal.returns-in-Held-clause-takes
returns-in-Held-clause-takes g c =
    let i = c.self.inside in
    let s = c.restart.new.self in
    let x : Shown = shown g.P.Parts.disks i.stable i.memory i.trace i.opened_in in
    let y : Shown = shown g.P.Parts.disks s i.memory i.trace i.opened_in in
    subst (λ (z : Shown). Takes z y) c.self.view_is
    (takes_held x y c.in_ok-restart.ensures.whole c.in_ok-restart.ensures.held c.restart.ensures.limit refl refl
    (subst (λ (t : Taken). StoreMoves g.P.Parts.disks (taken_writes (held_of i.stable) t) i.stable s) c.in-Held.is (c.in_ok-restart.ensures.map c.self.invariant.1)))

pub returns-in_err-restart-clause-none : goal.returns-in_err-restart-clause-none
returns-in_err-restart-clause-none g c =
    let i = c.self.inside in
    let s = c.restart.new.self in
    let x : Shown = shown g.P.Parts.disks i.stable i.memory i.trace i.opened_in in
    let y : Shown = shown g.P.Parts.disks s i.memory i.trace i.opened_in in
    subst (λ (z : Shown). OnErr c.from_residual.result (TakesNone z y)) c.self.view_is
    (on_err_any c.from_residual.result _
    (none_taken x y i.stable.phase s.phase c.in_err-restart.ensures.stays refl refl refl refl refl c.in_err-restart.ensures.rests (lasts_itself i.memory) refl (c.in_err-restart.ensures.map_stays c.self.invariant.1)))

pub returns-in-Held-clause-whole : goal.returns-in-Held-clause-whole
returns-in-Held-clause-whole g c = whole_up c.restart.new.self c.in_ok-restart.ensures.up

pub returns-in-Pending-clause-whole : goal.returns-in-Pending-clause-whole
returns-in-Pending-clause-whole g c = whole_answered c.take_pending.result c.take_pending.new.stable c.take_pending.ensures.stands
