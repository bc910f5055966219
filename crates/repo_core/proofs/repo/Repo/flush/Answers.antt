use Rattle.repo_core.proofs.Damage.{oldest_shown}
use Rattle.repo_core.proofs.Failing.{err_shown, failed_between, fewer_between, ok_shown}
use Rattle.repo_core.specs.Shown.{Shown, shown}
use Rattle.repo_durable.specs.Kept.{disks_of}
use Rattle.std.proofs.Common.{ap, refl}
use Rattle.repo_core.proofs.Readable.{shown_has}
use Rattle.repo_core.proofs.Objects.{objects_shown}
use Rattle.std.proofs.Common.{[]}
use Rattle.repo_core.proofs.repo.Repo.flush.Goals as goal

pub returns-clause-stopped : goal.returns-clause-stopped
returns-clause-stopped g c = λ n is.
    let i = c.self.inside in
    failed_between (disks_of g.P.Parts.disks i.stable) (disks_of g.P.Parts.disks c.flush_page.new.self) c.args.self.now (shown g.P.Parts.disks c.flush_page.new.self i.memory i.trace i.opened_in)
    (ap (λ (s : Shown). s.faults) c.self.view_is) refl (c.flush_page.ensures.stopped n is)

pub returns-clause-damaged : goal.returns-clause-damaged
returns-clause-damaged g c = λ n place is.
    let i = c.self.inside in
    oldest_shown g.P.Parts.disks i.stable i.memory i.trace i.opened_in c.args.self.now place c.self.view_is (c.flush_page.ensures.damaged n place is)

pub returns-clause-steady : goal.returns-clause-steady
returns-clause-steady g c =
    let i = c.self.inside in
    ok_shown c.flush_page.result (disks_of g.P.Parts.disks i.stable) (disks_of g.P.Parts.disks c.flush_page.new.self) c.args.self.now (shown g.P.Parts.disks c.flush_page.new.self i.memory i.trace i.opened_in) (ap (λ (s : Shown). s.faults) c.self.view_is) refl c.flush_page.ensures.steady

pub returns-clause-quiet : goal.returns-clause-quiet
returns-clause-quiet g c =
    let i = c.self.inside in
    err_shown c.flush_page.result (disks_of g.P.Parts.disks i.stable) (disks_of g.P.Parts.disks c.flush_page.new.self) c.args.self.now (shown g.P.Parts.disks c.flush_page.new.self i.memory i.trace i.opened_in) (ap (λ (s : Shown). s.faults) c.self.view_is) refl c.flush_page.ensures.quiet

pub returns-clause-readable : goal.returns-clause-readable
returns-clause-readable g c = λ has.
    let i = c.self.inside in
    c.flush_page.ensures.readable (shown_has g.P.Parts.disks i.stable i.memory i.trace i.opened_in c.args.self.now c.self.view_is has)

pub returns-clause-never : goal.returns-clause-never
returns-clause-never g c = λ n place is has.
    let i = c.self.inside in
    c.flush_page.ensures.never n place is (shown_has g.P.Parts.disks i.stable i.memory i.trace i.opened_in c.args.self.now c.self.view_is has)

pub returns-clause-counts : goal.returns-clause-counts
returns-clause-counts g c =
    let i = c.self.inside in
    fewer_between (disks_of g.P.Parts.disks i.stable) (disks_of g.P.Parts.disks c.flush_page.new.self) c.args.self.now (shown g.P.Parts.disks c.flush_page.new.self i.memory i.trace i.opened_in) (ap (λ (s : Shown). s.faults) c.self.view_is) refl c.flush_page.ensures.goes.faults

pub returns-clause-objects : goal.returns-clause-objects
returns-clause-objects g c =
    let i = c.self.inside in
    objects_shown g.P.Parts.disks [] i.stable i.memory i.trace i.opened_in c.args.self.now (shown g.P.Parts.disks c.flush_page.new.self i.memory i.trace i.opened_in) c.self.view_is c.flush_page.ensures.map
