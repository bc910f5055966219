use Rattle.std.proofs.Common.{None}
use Rattle.repo_durable.proofs.Counting.{err_through}
use Rattle.std.proofs.Common.{rules, ◌∙◌}
use Rattle.repo_core.proofs.Failing.{err_before, fewer_shown}
use Rattle.repo_core.proofs.Objects.{objects_then, objects_written}
use Rattle.repo_durable.proofs.Returning.{on_err_any}
use Rattle.std.proofs.Common.{[]}
use Rattle.commit_log.specs.Values.{writes_if}
use Rattle.log_entries.specs.declared.entry.Entry.TheVariants.{Finished}
use Rattle.repo_core.proofs.Objects.{none_open, objects_itself}
use Rattle.repo_core.specs.Objects.{ObjectsTake}
use Rattle.std.proofs.Common.{Bool, List, ap, subst, sym}
use Rattle.std.specs.Option.{is_some}
use Rattle.thor_value.specs.declared.names.Oref.{Oref}
use Rattle.thor_value.specs.declared.names.Ts.{Ts}
use Rattle.thor_value.specs.declared.values.Obj.{Obj}
use Rattle.two_phase.specs.Contents.{open_at}
use Rattle.repo_core.proofs.repo.Repo.finish.Goals as goal

pub returns-in_err-make_room_for-clause-damaged : goal.returns-in_err-make_room_for-clause-damaged
returns-in_err-make_room_for-clause-damaged g c = λ n place is. (c.in_err-make_room_for.ensures.left None).fault c.in_err-make_room_for.ensures.fault.0

pub returns-in_err-place-clause-quiet : goal.returns-in_err-place-clause-quiet
returns-in_err-place-clause-quiet g c = err_before c.from_residual-in_err-place.result c.args.self.now.faults c.make_room_for.new.self.faults c.write.new.self.faults c.in_ok-make_room_for.ensures.steady (err_through c.write.result c.from_residual-in_err-place.result _ (λ r wrong. search rules) c.write.ensures.quiet)

pub returns-clause-steady : goal.returns-clause-steady
returns-clause-steady g c = c.in_ok-place.ensures.steady ∙ c.in_ok-make_room_for.ensures.steady

pub returns-in_err-make_room_for-clause-quiet : goal.returns-in_err-make_room_for-clause-quiet
returns-in_err-make_room_for-clause-quiet g c = err_through c.make_room_for.result c.from_residual-in_err-make_room_for.result _ (λ r wrong. search rules) c.make_room_for.ensures.quiet

pub returns-in_err-place-clause-counts : goal.returns-in_err-place-clause-counts
returns-in_err-place-clause-counts g c = fewer_shown c.args.self.now c.make_room_for.new.self c.write.new.self c.make_room_for.ensures.faults c.write.ensures.counts

pub returns-clause-counts : goal.returns-clause-counts
returns-clause-counts g c = fewer_shown c.args.self.now c.make_room_for.new.self c.write.new.self c.make_room_for.ensures.faults c.write.ensures.counts

pub returns-in_err-make_room_for-clause-rested : goal.returns-in_err-make_room_for-clause-rested
returns-in_err-make_room_for-clause-rested g c = on_err_any c.from_residual-in_err-make_room_for.result _ c.make_room_for.ensures.objects

pub returns-in_err-place-clause-rested : goal.returns-in_err-place-clause-rested
returns-in_err-place-clause-rested g c =
    on_err_any c.from_residual-in_err-place.result _
    (objects_then [] c.args.self.now c.make_room_for.new.self c.write.new.self c.make_room_for.ensures.readable c.in_ok-make_room_for.ensures.whole c.make_room_for.ensures.made.held c.make_room_for.ensures.objects c.in_err-place.ensures.rested)

pub returns-clause-objects : goal.returns-clause-objects
returns-clause-objects g c =
    objects_written c.args.self.now c.make_room_for.new.self c.write.new.self (Finished c.tx-tx.result c.commit-commit.result) _ c.make_room_for.ensures.readable c.in_ok-make_room_for.ensures.whole c.make_room_for.ensures.made c.make_room_for.ensures.objects (ap (λ (t : Ts). writes_if c.commit-commit.result (open_at c.args.self.now.held.table t)) c.tx-tx.ensures ∙ ap (λ (b : Bool). writes_if b (open_at c.args.self.now.held.table c.args.verdict.now.tx)) c.commit-commit.ensures) c.in_ok-place.ensures.objects

pub returns-then-not-is_open-clause-objects : goal.returns-then-not-is_open-clause-objects
returns-then-not-is_open-clause-objects g c =
    let x = c.args.self.now in
    subst (λ (ws : List (Oref × Obj)). ObjectsTake ws x x) (sym (none_open (open_at x.held.table c.args.verdict.now.tx) c.args.verdict.now.commit (sym (c.is_open.ensures.open ∙ ap (λ (t : Ts). is_some (open_at x.held.table t)) c.tx-tx.ensures) ∙ c.if-not-is_open.true))) (objects_itself x)
