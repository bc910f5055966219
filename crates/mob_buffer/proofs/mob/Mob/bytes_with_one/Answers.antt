use Rattle.std.proofs.Common.{arith}
use Rattle.mob_buffer.proofs.Sizes.{bytes_put, size_within}
use Rattle.mob_buffer.proofs.mob.Mob.bytes_with_one.Goals as goal

pub overflow_sub-result : goal.overflow_sub-result
overflow_sub-result c = omega (arith, size_within c.self.inside.objects.entries c.args.oref, c.size_held-before.ensures, c.self.invariant.counted, c.from.ensures, c.from-2.ensures)

pub returns : goal.returns
returns c =
    let put = bytes_put c.self.inside.objects.entries c.args.oref c.args.object.now in
    let most = size_within c.self.inside.objects.entries c.args.oref in
    rw (← c.self.view_is) (omega (arith, put, most, c.size_held-before.ensures, c.self.invariant.counted, c.from.ensures, c.from-2.ensures, c.from-3.ensures, c.spelled_size.ensures.value))
