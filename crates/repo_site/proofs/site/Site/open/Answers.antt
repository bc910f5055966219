use Rattle.repo_core.specs.Shown.{Shown, faults_of}
use Rattle.repo_durable.specs.Failing.{NoneFell}
use Rattle.std.proofs.Common.{subst, sym}
use Rattle.repo_site.proofs.site.Site.open.Goals as goal

pub returns-in-Ok-clause-fell : goal.returns-in-Ok-clause-fell
returns-in-Ok-clause-fell g c = subst (λ (x : Shown). NoneFell (g.P.Parts.disks c.args.parts).faults (faults_of x)) (sym c.new.ensures.shown) c.in-Ok.ensures.fell
