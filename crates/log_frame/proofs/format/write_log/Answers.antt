use Rattle.disk_trait.specs.Numbers.{number}
use Rattle.log_frame.specs.Log.{new_log}
use Rattle.log_frame.proofs.LogAppends.{told_on}
use Rattle.log_frame.proofs.FormatRuns.{both_leave, on_ok}
use Rattle.log_frame.proofs.format.write_log.Goals as goal

pub returns-clause-any_moment : goal.returns-clause-any_moment
returns-clause-any_moment g c = λ sequence head is small fits bytes told.
    let mid = told_on _ _ bytes c.close_header.ensures.alone.told told in
    both_leave (g.P.Parts.disks c.args.parts.now) (g.P.Parts.disks c.close_header.new.parts) (g.P.Parts.disks c.open_header.new.parts) (number c.args.disk) (new_log sequence head) bytes
    (c.close_header.ensures.any_moment bytes told) (c.open_header.ensures.any_moment sequence head is small fits mid.0 mid.1)

pub returns-clause-formatted : goal.returns-clause-formatted
returns-clause-formatted g c =
    on_ok c.open_header.result _ _ c.open_header.ensures.formatted (λ formatted sequence head is small fits bytes told.
    let mid = told_on _ _ bytes c.close_header.ensures.alone.told told in
    formatted sequence head is small fits mid.0 mid.1)
