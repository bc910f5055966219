use Rattle.std.proofs.Common.{None, Some, sym, ◌∙◌, ◌≡◌}
use Rattle.repo_core.proofs.Causes.{why_marked}
use Rattle.repo_core.proofs.Judged.{refused_by}
use Rattle.repo_core.proofs.Refused.{why_refused}
use Rattle.repo_core.specs.Calls.{judged}
use Rattle.repo_durable.proofs.Counting.{err_through}
use Rattle.std.proofs.Common.{rules}
use Rattle.repo_core.proofs.Failing.{err_before, fewer_shown, ok_before}
use Rattle.log_entries.specs.declared.entry.Entry.TheVariants.{Prepared}
use Rattle.repo_state.specs.Entering.{entered}
use Rattle.repo_core.proofs.Moves.{moved_then}
use Rattle.repo_core.proofs.Told.{on_ok}
use Rattle.repo_core.specs.Behind.{HasMoved}
use Rattle.std.proofs.Common.{OnOk, subst}
use Rattle.repo_trace.specs.Recorded.{Recorded, with_entry}
use Rattle.repo_core.proofs.Objects.{either_way, objects_then}
use Rattle.std.proofs.Common.{[]}
use Rattle.repo_core.proofs.repo.Repo.prepare.Goals as goal

pub returns-in-Err-clause-why : goal.returns-in-Err-clause-why
returns-in-Err-clause-why g c =
    why_refused (λ r. judged c.args.self.now.held c.args.self.now.memory c.args.session c.args.request ≡ Some r) c.args.self.now.is_up c.in-Err.refusal c.refuse.result c.in_ok-check_up.ensures.up c.refuse.ensures.same
    (refused_by (judged c.args.self.now.held c.args.self.now.memory c.args.session c.args.request) c.in-Err.refusal (sym c.judge.ensures.answer ∙ c.in-Err.is))

pub returns-in-Err-clause-only : goal.returns-in-Err-clause-only
returns-in-Err-clause-only g c =
    let stands = judged c.args.self.now.held c.args.self.now.memory c.args.session c.args.request in
    why_marked c.args.self.now (λ r. stands ≡ Some r) (stands ≡ None) c.refuse.result c.in-Err.refusal c.in_ok-check_up.ensures.up c.refuse.ensures.same c.refuse.ensures.other (refused_by stands c.in-Err.refusal (sym c.judge.ensures.answer ∙ c.in-Err.is))

pub returns-in_err-make_room-in-Ok-clause-damaged : goal.returns-in_err-make_room-in-Ok-clause-damaged
returns-in_err-make_room-in-Ok-clause-damaged g c = λ n place is. (c.in_err-make_room-in-Ok.ensures.left None).fault c.in_err-make_room-in-Ok.ensures.fault.0

pub returns-in_ok-make_room-in-Ok-clause-steady : goal.returns-in_ok-make_room-in-Ok-clause-steady
returns-in_ok-make_room-in-Ok-clause-steady g c = ok_before c.write.result c.args.self.now.faults c.make_room.new.self.faults c.write.new.self.faults c.in_ok-make_room-in-Ok.ensures.steady c.write.ensures.steady

pub returns-in_ok-make_room-in-Ok-clause-quiet : goal.returns-in_ok-make_room-in-Ok-clause-quiet
returns-in_ok-make_room-in-Ok-clause-quiet g c = err_before c.write.result c.args.self.now.faults c.make_room.new.self.faults c.write.new.self.faults c.in_ok-make_room-in-Ok.ensures.steady c.write.ensures.quiet

pub returns-in_err-make_room-in-Ok-clause-quiet : goal.returns-in_err-make_room-in-Ok-clause-quiet
returns-in_err-make_room-in-Ok-clause-quiet g c = err_through c.make_room.result c.from_residual-in_err-make_room-in-Ok.result _ (λ r wrong. search rules) c.make_room.ensures.quiet

pub returns-in_ok-make_room-in-Ok-clause-held : goal.returns-in_ok-make_room-in-Ok-clause-held
returns-in_ok-make_room-in-Ok-clause-held g c =
    let made = c.make_room.ensures.made in
    on_ok c.write.result (c.write.new.self.held ≡ entered c.make_room.new.self.held (Prepared c.args.request)) (HasMoved c.args.self.now.held (Prepared c.args.request) c.write.new.self.held)
    (moved_then c.args.self.now.held c.make_room.new.self.held c.write.new.self.held (Prepared c.args.request) made.held made.flushed) c.write.ensures.held

pub returns-in_ok-make_room-in-Ok-clause-trace : goal.returns-in_ok-make_room-in-Ok-clause-trace
returns-in_ok-make_room-in-Ok-clause-trace g c =
    subst (λ (t : Recorded). OnOk c.write.result (c.write.new.self.trace ≡ with_entry t (Prepared c.args.request))) c.make_room.ensures.made.trace c.write.ensures.trace

pub returns-in_ok-make_room-in-Ok-clause-counts : goal.returns-in_ok-make_room-in-Ok-clause-counts
returns-in_ok-make_room-in-Ok-clause-counts g c = fewer_shown c.args.self.now c.make_room.new.self c.write.new.self c.make_room.ensures.faults c.write.ensures.counts

pub returns-in_ok-make_room-in-Ok-clause-objects : goal.returns-in_ok-make_room-in-Ok-clause-objects
returns-in_ok-make_room-in-Ok-clause-objects g c =
    let then = objects_then [] c.args.self.now c.make_room.new.self c.write.new.self c.make_room.ensures.readable c.in_ok-make_room-in-Ok.ensures.whole c.make_room.ensures.made.held c.make_room.ensures.objects in
    either_way c.write.result _ _ _ c.write.ensures.objects c.write.ensures.rested then then
