use Rattle.page_store.proofs.Sides.{keeps_none}
use Rattle.mob_flusher.proofs.Maps.{none_first}
use Rattle.mob_flusher.proofs.store.ObjectStore.flush_one.Goals as goal

pub returns-in_default-clause-any_moment : goal.returns-in_default-clause-any_moment
returns-in_default-clause-any_moment g c = λ disk told. keeps_none (g.P.Parts.disks c.args.parts.now) c.args.self.now.pages.sides disk c.requires.settled told

pub returns-in_default-clause-nothing : goal.returns-in_default-clause-nothing
returns-in_default-clause-nothing g c = λ is. rw (← c.self.view_is) (none_first c.self.inside.mob.objects c.in_default.ensures.value)
