use Rattle.std.proofs.Common.{sym}
use Rattle.mob_buffer.proofs.Sizes.{found_fits}
use Rattle.mob_buffer.proofs.objects.take_object.Goals as goal

pub spelled_size-requires : goal.spelled_size-requires
spelled_size-requires c = found_fits c.requires.0 c.args.objects.now.entries c.args.oref c.in-Some.object c.requires.1 (sym c.in-Some.ensures.value)
