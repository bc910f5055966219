use Rattle.std.proofs.Common.{sym}
use Rattle.mob_flusher.proofs.Fits.{slot_spells}
use Rattle.mob_flusher.proofs.image.object_in.Goals as goal

pub object_of-requires : goal.object_of-requires
object_of-requires c = slot_spells c.args.page.now.objects.pairs c.args.slot c.in-Some.bytes.now c.requires.objects (sym c.in-Some.ensures)
