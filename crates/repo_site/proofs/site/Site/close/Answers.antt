use Rattle.repo_site.proofs.Standing.{left}
use Rattle.repo_site.specs.Sited.{IsLeftOf, Sited}
use Rattle.std.proofs.Common.{false, subst, ◌≡◌}
use Rattle.repo_site.proofs.site.Site.close.Goals as goal

pub returns-clause-left : goal.returns-clause-left
returns-clause-left g c =
    let i = c.self.inside in
    let disks = g.P.Parts.disks c.close.result.0 in
    let trace = c.close.result.1 in
    subst (λ (s : Sited). s.shown.is_torn ≡ false → IsLeftOf g.O.Opening.run s.number disks trace) c.self.view_is
    (left g.O.Opening.run i.number i.repos i.repo disks trace c.self.invariant c.close.ensures.history c.close.ensures.marks c.close.ensures.says c.close.ensures.none)
