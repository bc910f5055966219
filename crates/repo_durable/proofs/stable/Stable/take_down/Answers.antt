use Rattle.repo_durable.proofs.Opened.{open_of}
use Rattle.repo_durable.proofs.Saying.{said_out}
use Rattle.repo_durable.specs.Kept.{disks_of}
use Rattle.repo_durable.proofs.stable.Stable.take_down.Goals as goal

pub returns-in-Up-clause-says : goal.returns-in-Up-clause-says
returns-in-Up-clause-says g c = λ is. said_out g.P.Parts.disks c.args.self.now c.set_phase.new.self c.in-Up.log c.in-Up.is c.set_phase.ensures (open_of (disks_of g.P.Parts.disks c.args.self.now) c.args.self.now.held c.args.self.now.phase c.in-Up.log c.requires.kept.stands c.in-Up.is) is
