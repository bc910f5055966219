use Rattle.mob_flusher.proofs.ImagesKept.{show_held}
use Rattle.mob_flusher.proofs.store.ObjectStore.get.Goals as goal

pub invariant_of-self : goal.invariant_of-self
invariant_of-self g c = show_held c.self.inside.pages c.stored.new.pages c.self.inside.mob c.self.inside.images c.forget_unheld.new.images c.args.oref.page c.self.invariant c.forget_unheld.ensures.kept c.forget_unheld.ensures.gone c.stored.ensures.held
