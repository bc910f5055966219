use Rattle.std.proofs.Common.{None, ap, subst, sym, true, ◌∙◌, ◌≡◌}
use Rattle.repo_state.specs.Keeps.{Keeps}
use Rattle.repo_core.proofs.Falls.{keeps_up}
use Rattle.repo_core.proofs.Stamps.{prepared_stamp}
use Rattle.repo_core.proofs.Written.{can_decide}
use Rattle.repo_core.specs.Behind.{has_prepared}
use Rattle.repo_core.specs.Shown.{Shown}
use Rattle.repo_durable.specs.Kept.{is_up}
use Rattle.repo_durable.proofs.Counting.{err_through}
use Rattle.std.proofs.Common.{rules}
use Rattle.repo_core.proofs.Failing.{err_before, fewer_shown}
use Rattle.repo_core.proofs.Objects.{objects_then, objects_written}
use Rattle.repo_durable.proofs.Returning.{on_err_any}
use Rattle.std.proofs.Common.{[]}
use Rattle.commit_log.specs.Values.{writes_if}
use Rattle.log_entries.specs.declared.entry.Entry.TheVariants.{Decided}
use Rattle.repo_core.proofs.Objects.{objects_itself}
use Rattle.repo_core.specs.Objects.{ObjectsTake}
use Rattle.std.proofs.Common.{Bool, cond}
use Rattle.two_phase.specs.Contents.{open_at}
use Rattle.repo_core.proofs.repo.Repo.decide.Goals as goal

pub write-requires-clause-can : goal.write-requires-clause-can
write-requires-clause-can g c =
    let up : is_up c.self.inside.stable ≡ true = ap (λ (s : Shown). s.is_up) c.self.view_is ∙ c.in_ok-check_up.ensures.up in
    let keeps : Keeps c.args.self.now.held = subst Keeps (ap (λ (s : Shown). s.held) c.self.view_is) (keeps_up g.P.Parts.disks c.self.inside.stable c.self.invariant.0 up) in
    let prepared : has_prepared c.args.self.now.held c.args.session c.args.tx ≡ true = sym c.has_prepared.ensures ∙ c.if-not-has_prepared.false in
    can_decide c.make_room_for.new.self.held c.make_room_for.new.self.memory c.args.tx c.args.commit (prepared_stamp c.args.self.now.held c.args.session c.args.tx keeps prepared)

pub returns-in_err-make_room_for-clause-damaged : goal.returns-in_err-make_room_for-clause-damaged
returns-in_err-make_room_for-clause-damaged g c = λ n place is. (c.in_err-make_room_for.ensures.left None).fault c.in_err-make_room_for.ensures.fault.0

pub returns-in_err-write-clause-quiet : goal.returns-in_err-write-clause-quiet
returns-in_err-write-clause-quiet g c = err_before c.from_residual-in_err-write.result c.args.self.now.faults c.make_room_for.new.self.faults c.write.new.self.faults c.in_ok-make_room_for.ensures.steady (err_through c.write.result c.from_residual-in_err-write.result _ (λ r wrong. search rules) c.write.ensures.quiet)

pub returns-clause-steady : goal.returns-clause-steady
returns-clause-steady g c = c.in_ok-write.ensures.steady ∙ c.in_ok-make_room_for.ensures.steady

pub returns-in_err-make_room_for-clause-quiet : goal.returns-in_err-make_room_for-clause-quiet
returns-in_err-make_room_for-clause-quiet g c = err_through c.make_room_for.result c.from_residual-in_err-make_room_for.result _ (λ r wrong. search rules) c.make_room_for.ensures.quiet

pub returns-in_err-write-clause-counts : goal.returns-in_err-write-clause-counts
returns-in_err-write-clause-counts g c = fewer_shown c.args.self.now c.make_room_for.new.self c.write.new.self c.make_room_for.ensures.faults c.write.ensures.counts

pub returns-clause-counts : goal.returns-clause-counts
returns-clause-counts g c = fewer_shown c.args.self.now c.make_room_for.new.self c.write.new.self c.make_room_for.ensures.faults c.write.ensures.counts

pub returns-in_err-make_room_for-clause-rested : goal.returns-in_err-make_room_for-clause-rested
returns-in_err-make_room_for-clause-rested g c = on_err_any c.from_residual-in_err-make_room_for.result _ c.make_room_for.ensures.objects

pub returns-in_err-write-clause-rested : goal.returns-in_err-write-clause-rested
returns-in_err-write-clause-rested g c =
    on_err_any c.from_residual-in_err-write.result _
    (objects_then [] c.args.self.now c.make_room_for.new.self c.write.new.self c.make_room_for.ensures.readable c.in_ok-make_room_for.ensures.whole c.make_room_for.ensures.made.held c.make_room_for.ensures.objects c.in_err-write.ensures.rested)

pub returns-clause-objects : goal.returns-clause-objects
returns-clause-objects g c =
    objects_written c.args.self.now c.make_room_for.new.self c.write.new.self (Decided c.args.tx c.args.commit) _ c.make_room_for.ensures.readable c.in_ok-make_room_for.ensures.whole c.make_room_for.ensures.made c.make_room_for.ensures.objects (sym (ap (λ (b : Bool). cond b (writes_if c.args.commit (open_at c.args.self.now.held.table c.args.tx)) []) (sym c.has_prepared.ensures ∙ c.if-not-has_prepared.false))) c.in_ok-write.ensures.objects

pub returns-then-not-has_prepared-clause-objects : goal.returns-then-not-has_prepared-clause-objects
returns-then-not-has_prepared-clause-objects g c =
    let x = c.args.self.now in
    subst (λ (b : Bool). ObjectsTake (cond b (writes_if c.args.commit (open_at x.held.table c.args.tx)) []) x x) (sym (sym c.has_prepared.ensures ∙ c.if-not-has_prepared.true)) (objects_itself x)
