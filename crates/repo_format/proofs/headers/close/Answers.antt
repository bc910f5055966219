use Rattle.disk_trait.specs.Numbers.{number}
use Rattle.log_frame.proofs.Formats.{shut_reads}
use Rattle.repo_format.proofs.Closed.{is_shut_none, on_ok}
use Rattle.repo_format.proofs.headers.close.Goals as goal

pub returns-clause-closed : goal.returns-clause-closed
returns-clause-closed g c =
    let closed = shut_reads (g.P.Parts.disks c.args.parts.now) (g.P.Parts.disks c.write_at.new.self) (g.P.Parts.disks c.sync.new.self) (number c.args.disk) c.write_at.ensures.call.alone c.in_ok-write_at.ensures.content c.sync.ensures.content in
    on_ok c.sync.result c.sync.ensures.settled (λ settled bytes told. is_shut_none bytes (closed bytes told))
