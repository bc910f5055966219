use Rattle.repo_core.proofs.Readable.{shown_has}
use Rattle.repo_durable.specs.Pages.{HasPages}
use Rattle.repo_durable.specs.declared.stable.Stable.{Stable}
use Rattle.std.proofs.Common.{rules, subst, ◌≡◌}
use Rattle.repo_core.proofs.repo.Repo.mark.Goals as goal

pub returns-clause-readable : goal.returns-clause-readable
returns-clause-readable g c = λ has.
    let i = c.self.inside in
    let same : i.stable ≡ c.match-happened.self-inside.stable = search rules in
    c.take_down.ensures.readable (subst (λ (s : Stable _). HasPages g.P.Parts.disks s) same (shown_has g.P.Parts.disks i.stable i.memory i.trace i.opened_in c.args.self.now c.self.view_is has))
