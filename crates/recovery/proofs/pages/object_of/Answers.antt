use Rattle.mob_flusher.proofs.Fits.{read_is}
use Rattle.recovery.proofs.pages.object_of.Goals as goal

pub returns-in-Ok : goal.returns-in-Ok
returns-in-Ok c = read_is c.args.bytes.now c.in-Ok.object c.in-Ok.field-0-1 c.requires c.in-Ok.ensures.only
