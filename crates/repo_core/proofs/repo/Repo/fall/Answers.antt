use Rattle.repo_core.proofs.Readable.{shown_has}
use Rattle.repo_core.proofs.repo.Repo.fall.Goals as goal

pub returns-clause-readable : goal.returns-clause-readable
returns-clause-readable g c = λ has.
    let i = c.self.inside in
    c.take_down.ensures.readable (shown_has g.P.Parts.disks i.stable i.memory i.trace i.opened_in c.args.self.now c.self.view_is has)
