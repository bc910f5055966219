use Rattle.std.proofs.Common.{◌≤◌, ◌-◌, length, ap, ◌∙◌}
use native.Mathlib.Omega.{arith}
use Rattle.client_cache.proofs.PageOrder.{put-added}
use Rattle.client_cache.proofs.held_pages.HeldPages.hold.Goals as goal

pub returns-clause-ok : goal.returns-clause-ok
returns-clause-ok c =
    let room : length c.self.inside.pages.entries ≤ c.self.inside.pages.cap - 1 = omega (arith, c.self.invariant, c.len-count.ensures.len, c.len-count.ensures.fits) in
    rw (← c.self.view_is) (ap (λ l. l.entries) c.in_ok-put.ensures.entries ∙ put-added c.args.page c.args.slots c.self.inside.pages.cap c.self.inside.pages.entries (rw (← c.self.view_is) at c.requires) room)
