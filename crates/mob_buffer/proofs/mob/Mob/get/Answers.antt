use Rattle.std.proofs.Common.{sym}
use Rattle.mob_buffer.proofs.Sizes.{found_fits}
use Rattle.mob_buffer.proofs.mob.Mob.get.Goals as goal

pub returns-in-Some-clause-object : goal.returns-in-Some-clause-object
returns-in-Some-clause-object c = found_fits c.self.inside.repo c.self.inside.objects.entries c.args.oref c.in-Some.object.now c.self.invariant.one_repo (sym c.in-Some.ensures)
