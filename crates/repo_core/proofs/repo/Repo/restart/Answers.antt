use Rattle.repo_core.proofs.Failing.{err_before, failed_same, failed_shown, fewer_same, fewer_shown, ok_before}
use Rattle.repo_core.specs.Shown.{Shown}
use Rattle.std.proofs.Common.{◌∙◌}
use Rattle.repo_durable.proofs.Counting.{err_through}
use Rattle.std.proofs.Common.{rules}
use Rattle.repo_core.proofs.Entered.{on_err2}
use Rattle.repo_core.proofs.Objects.{objects_begun, on_ok3, taken_repo}
use Rattle.repo_core.specs.Objects.{writes_in}
use Rattle.repo_core.proofs.Taking.{comes_up_so, fails_so}
use Rattle.repo_durable.proofs.Returning.{on_err_any}
use Rattle.std.proofs.Common.{inl}
use Rattle.repo_core.proofs.repo.Repo.restart.Goals as goal

pub returns-clause-stopped : goal.returns-clause-stopped
returns-clause-stopped g c = λ n is.
    let y : Shown = c.take_over.new.self in
    let z : Shown = c.drop_decisions.new.self in
    let w : Shown = c.write_life.new.self in
    failed_shown c.args.self.now y w c.take_over.ensures.faults (failed_same y z w c.drop_decisions.ensures.faults (c.write_life.ensures.stopped n is))

pub returns-clause-steady : goal.returns-clause-steady
returns-clause-steady g c = ok_before c.write_life.result c.args.self.now.faults c.drop_decisions.new.self.faults c.write_life.new.self.faults (c.drop_decisions.ensures.faults ∙ c.in_ok-take_over.ensures.steady) c.write_life.ensures.steady

pub returns-clause-quiet : goal.returns-clause-quiet
returns-clause-quiet g c = err_before c.write_life.result c.args.self.now.faults c.drop_decisions.new.self.faults c.write_life.new.self.faults (c.drop_decisions.ensures.faults ∙ c.in_ok-take_over.ensures.steady) c.write_life.ensures.quiet

pub returns-in_err-take_over-clause-quiet : goal.returns-in_err-take_over-clause-quiet
returns-in_err-take_over-clause-quiet g c = err_through c.take_over.result c.from_residual.result _ (λ r wrong. search rules) c.take_over.ensures.quiet

pub returns-clause-counts : goal.returns-clause-counts
returns-clause-counts g c =
    let y : Shown = c.take_over.new.self in
    let z : Shown = c.drop_decisions.new.self in
    let w : Shown = c.write_life.new.self in
    fewer_shown c.args.self.now y w c.take_over.ensures.faults (fewer_shown y z w (fewer_same y z c.drop_decisions.ensures.faults) c.write_life.ensures.counts)

pub returns-clause-comes_up : goal.returns-clause-comes_up
returns-clause-comes_up g c =
    let x : Shown = c.args.self.now in
    let y : Shown = c.take_over.new.self in
    let z : Shown = c.drop_decisions.new.self in
    let w : Shown = c.write_life.new.self in
    let takes = c.in_ok-take_over.ensures.takes in
    on_ok3 c.write_life.result _ _ _ _ c.write_life.ensures.held c.write_life.ensures.begins c.write_life.ensures.trace
    (λ held begins trace. comes_up_so x y z w takes c.take_over.ensures.opened c.drop_decisions.ensures.held c.drop_decisions.ensures.memory c.drop_decisions.ensures.trace held begins trace (objects_begun (writes_in x.held c.in_ok-take_over.ensures.takes.taken) x y z w c.take_over.ensures.readable c.drop_decisions.ensures.readable c.in_ok-take_over.ensures.whole c.drop_decisions.ensures.torn (taken_repo x y c.in_ok-take_over.ensures.takes) c.in_ok-take_over.ensures.takes.objects c.drop_decisions.ensures.pages c.drop_decisions.ensures.held.held c.write_life.ensures.objects))

pub returns-clause-stays_down : goal.returns-clause-stays_down
returns-clause-stays_down g c =
    let x : Shown = c.args.self.now in
    let y : Shown = c.take_over.new.self in
    let z : Shown = c.drop_decisions.new.self in
    let w : Shown = c.write_life.new.self in
    on_err2 c.write_life.result _ _ _ c.write_life.ensures.left c.write_life.ensures.refused
    (λ left trace. fails_so x y z w c.in_ok-take_over.ensures.takes c.take_over.ensures.opened c.drop_decisions.ensures.held c.drop_decisions.ensures.memory c.drop_decisions.ensures.trace left trace (objects_begun (writes_in x.held c.in_ok-take_over.ensures.takes.taken) x y z w c.take_over.ensures.readable c.drop_decisions.ensures.readable c.in_ok-take_over.ensures.whole c.drop_decisions.ensures.torn (taken_repo x y c.in_ok-take_over.ensures.takes) c.in_ok-take_over.ensures.takes.objects c.drop_decisions.ensures.pages c.drop_decisions.ensures.held.held c.write_life.ensures.objects))

pub returns-in_err-take_over-clause-stays_down : goal.returns-in_err-take_over-clause-stays_down
returns-in_err-take_over-clause-stays_down g c = on_err_any c.from_residual.result _ (inl c.in_err-take_over.ensures.none)
