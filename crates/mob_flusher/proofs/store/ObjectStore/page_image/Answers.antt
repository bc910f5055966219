use Rattle.std.proofs.Common.{◌∙◌}
use Rattle.mob_flusher.proofs.ImagesKept.{show_fewer, show_held, still_held}
use Rattle.mob_flusher.proofs.store.ObjectStore.page_image.Goals as goal

pub invariant_of-self : goal.invariant_of-self
invariant_of-self g c = rw c.in_err-hold.ensures.err (show_fewer (record { pages = c.self.inside.pages; mob = c.self.inside.mob }) c.self.inside.images c.forget_unheld.new.images c.forget_unheld.ensures.kept c.self.invariant)

pub held_image-requires : goal.held_image-requires
held_image-requires g c = show_held c.self.inside.pages c.hold.new.self c.self.inside.mob c.self.inside.images c.forget_unheld.new.images c.args.page c.self.invariant c.forget_unheld.ensures.kept c.forget_unheld.ensures.gone
    (still_held c.self.inside.pages c.hold.new.self c.args.page c.in_ok-hold.ensures.there c.in_ok-hold.ensures.held c.in_ok-hold.ensures.again)

pub invariant_of-self-2 : goal.invariant_of-self-2
invariant_of-self-2 g c = c.held_image.ensures.show

pub invariant_of-self-in_err-image : goal.invariant_of-self-in_err-image
invariant_of-self-in_err-image g c = c.held_image.ensures.show

pub returns-clause-image : goal.returns-clause-image
returns-clause-image g c =
    let h = c.in_ok-image.ensures.image in
    rw (← c.self.view_is) (λ disk told. record {
      base = h.base;
      shows = c.in_ok-hold.ensures.page h.base h.held disk told;
      repo = h.repo;
      one_repo = h.one_repo;
      is_image = h.is_image;
    })

pub returns-clause-number : goal.returns-clause-number
returns-clause-number g c = let h = c.in_ok-image.ensures.image in h.is_image.number ∙ h.number
