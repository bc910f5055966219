use Rattle.repo_core.proofs.Failing.{err_before, err_shown, failed_between, failed_same, fewer_between, fewer_same, fewer_shown, ok_before, ok_shown}
use Rattle.repo_core.specs.Shown.{Shown, shown}
use Rattle.repo_durable.specs.Kept.{disks_of}
use Rattle.std.proofs.Common.{ap, refl, ◌∙◌}
use Rattle.repo_core.proofs.Readable.{shown_has}
use Rattle.repo_core.proofs.repo.Repo.checkpoint.Goals as goal

pub returns-clause-stopped : goal.returns-clause-stopped
returns-clause-stopped g c = λ n is.
    let i = c.self.inside in
    let y : Shown = c.drop_decisions.new.self in
    let z : Shown = shown g.P.Parts.disks c.checkpoint.new.self i.memory i.trace i.opened_in in
    failed_same c.args.self.now y z c.drop_decisions.ensures.faults
    (failed_between (disks_of g.P.Parts.disks i.stable) (disks_of g.P.Parts.disks c.checkpoint.new.self) y z (ap (λ (s : Shown). s.faults) c.self.view_is) refl (c.checkpoint.ensures.stopped n is))

pub returns-clause-steady : goal.returns-clause-steady
returns-clause-steady g c =
    let i = c.self.inside in
    ok_before c.checkpoint.result c.args.self.now.faults c.drop_decisions.new.self.faults (shown g.P.Parts.disks c.checkpoint.new.self i.memory i.trace i.opened_in).faults c.drop_decisions.ensures.faults
    (ok_shown c.checkpoint.result (disks_of g.P.Parts.disks i.stable) (disks_of g.P.Parts.disks c.checkpoint.new.self) c.drop_decisions.new.self (shown g.P.Parts.disks c.checkpoint.new.self i.memory i.trace i.opened_in) (ap (λ (s : Shown). s.faults) c.self.view_is) refl c.checkpoint.ensures.steady)

pub returns-clause-quiet : goal.returns-clause-quiet
returns-clause-quiet g c =
    let i = c.self.inside in
    err_before c.checkpoint.result c.args.self.now.faults c.drop_decisions.new.self.faults (shown g.P.Parts.disks c.checkpoint.new.self i.memory i.trace i.opened_in).faults c.drop_decisions.ensures.faults
    (err_shown c.checkpoint.result (disks_of g.P.Parts.disks i.stable) (disks_of g.P.Parts.disks c.checkpoint.new.self) c.drop_decisions.new.self (shown g.P.Parts.disks c.checkpoint.new.self i.memory i.trace i.opened_in) (ap (λ (s : Shown). s.faults) c.self.view_is) refl c.checkpoint.ensures.quiet)

pub returns-clause-readable : goal.returns-clause-readable
returns-clause-readable g c = λ has.
    let i = c.self.inside in
    c.checkpoint.ensures.readable (shown_has g.P.Parts.disks i.stable i.memory i.trace i.opened_in c.drop_decisions.new.self c.self.view_is (c.drop_decisions.ensures.readable has))

pub returns-clause-counts : goal.returns-clause-counts
returns-clause-counts g c =
    let i = c.self.inside in
    let y : Shown = c.drop_decisions.new.self in
    let z : Shown = shown g.P.Parts.disks c.checkpoint.new.self i.memory i.trace i.opened_in in
    fewer_shown c.args.self.now y z (fewer_same c.args.self.now y c.drop_decisions.ensures.faults)
    (fewer_between (disks_of g.P.Parts.disks i.stable) (disks_of g.P.Parts.disks c.checkpoint.new.self) y z (ap (λ (s : Shown). s.faults) c.self.view_is) refl c.checkpoint.ensures.goes.faults)
