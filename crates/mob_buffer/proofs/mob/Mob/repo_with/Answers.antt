use Rattle.std.proofs.Common.{sym}
use Rattle.mob_buffer.proofs.Writes.{repo_behind, repo_of_first}
use Rattle.mob_buffer.proofs.mob.Mob.repo_with.Goals as goal

pub returns-in-Some : goal.returns-in-Some
returns-in-Some c = repo_of_first c.args.self.now.objects c.args.writes.now c.in-Some.write.now c.requires.0 c.requires.1 c.requires.2 (sym c.in-Some.ensures.value)

pub returns-in-None : goal.returns-in-None
returns-in-None c = rw (← c.self.view_is) (repo_behind c.self.inside.repo c.self.inside.objects.entries c.args.writes.now c.requires.0 (rw (← c.self.view_is) at c.requires.1) c.requires.2 c.self.invariant.one_repo (sym c.in-None.ensures.value))
