use Rattle.std.proofs.Common.{refl}
use Rattle.client_cache.proofs.held_pages.HeldPages.first_of.Goals as goal

pub returns : goal.returns
returns c = c.loop-page.invariant.2 (rw (c.in-None.ensures.steps.0) refl)
