use Rattle.std.proofs.Common.{Some, ◌≡◌}
use Rattle.repo_core.proofs.Stamps.{request_fits}
use Rattle.two_phase.specs.Contents.{open_at}
use Rattle.repo_core.proofs.room.fits_open.Goals as goal

pub fits-requires : goal.fits-requires
fits-requires c =
    let is : open_at c.args.held.now.table c.args.tx ≡ Some c.in-Some.request.now = cc (c.in-Some.ensures, c.table.ensures) in
    (request_fits c.args.held.now c.args.tx c.in-Some.request.now c.requires is).writes
