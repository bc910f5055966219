use Rattle.repo_format.proofs.Roots.{puts_page}
use Rattle.repo_format.proofs.pages.put_page.Goals as goal

pub returns-clause-agrees : goal.returns-clause-agrees
returns-clause-agrees g c = λ disk told. c.settle.ensures.agrees disk (c.in_ok-side.ensures.agrees disk told)

pub returns-clause-put : goal.returns-clause-put
returns-clause-put g c =
    puts_page (g.P.Parts.disks c.args.parts.now) (g.P.Parts.disks c.install.new.parts) c.args.store.now.sides c.install.new.self.sides c.settle.new.self.sides c.args.page c.in_ok-side.side c.in_ok-roots.roots _
    c.in_ok-roots.ensures.number c.in_ok-roots.ensures.page c.install.ensures.sides c.settle.ensures.sides c.in_ok-side.ensures.written c.in_ok-side.ensures.kept
