use Rattle.std.proofs.Common.{sym}
use Rattle.mob_buffer.proofs.Sizes.{found_fits}
use Rattle.mob_buffer.proofs.tally.size_held.Goals as goal

pub spelled_size-requires : goal.spelled_size-requires
spelled_size-requires c = found_fits c.requires.0 c.args.objects.now.entries c.args.oref c.in-Some.object.now c.requires.1 (sym c.in-Some.ensures)
