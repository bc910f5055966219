use Rattle.disk_trait.proofs.Several.{goes_none}
use Rattle.disk_trait.specs.AllDisks.{GoesOn}
use Rattle.repo_opening.specs.Same.{Same}
use Rattle.std.proofs.Common.{subst, sym}
use Rattle.store_opening.proofs.Freshness.{seated_fresh}
use Rattle.store_opening.proofs.found.placed.Goals as goal

pub returns-in-None-clause-seated : goal.returns-in-None-clause-seated
returns-in-None-clause-seated g c = λ given same. seated_fresh g.P.Parts.disks given c.args.part c.new-in-None.result c.args.found c.in-None.is c.new-in-None.ensures same c.requires.fresh

pub returns-in-Some-clause-seated : goal.returns-in-Some-clause-seated
returns-in-Some-clause-seated g c = λ given same. subst (λ p. Same (g.P.Parts.disks given) (g.P.Parts.disks p)) (sym c.new.ensures.parts) same

pub returns-in-None-clause-goes : goal.returns-in-None-clause-goes
returns-in-None-clause-goes g c = subst (λ p. GoesOn (g.P.Parts.disks c.args.part) (g.P.Parts.disks p)) (sym c.new-in-None.ensures) (goes_none (g.P.Parts.disks c.args.part))

pub returns-in-Some-clause-goes : goal.returns-in-Some-clause-goes
returns-in-Some-clause-goes g c = subst (λ p. GoesOn (g.P.Parts.disks c.args.part) (g.P.Parts.disks p)) (sym c.new.ensures.parts) (goes_none (g.P.Parts.disks c.args.part))
