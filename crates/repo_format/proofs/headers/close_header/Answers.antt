use Rattle.disk_trait.specs.Numbers.{number}
use Rattle.std.proofs.Common.{arith}
use Rattle.repo_format.proofs.Closed.{on_ok, settled_closed}
use Rattle.repo_format.proofs.headers.close_header.Goals as goal

pub returns-then-branch-clause-settled : goal.returns-then-branch-clause-settled
returns-then-branch-clause-settled g c =
    on_ok c.close.result c.close.ensures.settled (λ synced. settled_closed (g.P.Parts.disks c.args.parts.now) (g.P.Parts.disks c.is_open.new.parts) (g.P.Parts.disks c.close.new.parts) (number c.args.disk) (omega (arith, c.requires.log)) c.requires.settled c.is_open.ensures.alone c.is_open.ensures.content c.is_open.ensures.crash c.close.ensures.alone synced)
