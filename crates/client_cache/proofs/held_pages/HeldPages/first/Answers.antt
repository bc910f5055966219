use Rattle.std.proofs.Common.{arith}
use Rattle.client_cache.proofs.PageLookups.{first_forward, first_found}
use Rattle.client_cache.proofs.held_pages.HeldPages.first.Goals as goal

pub returns-then-name-page-2-clause-found : goal.returns-then-name-page-2-clause-found
returns-then-name-page-2-clause-found c =
    rw (← c.self.view_is) (first_found c.args.page c.in-Some.name.now c.in-Some.slots.now c.self.inside.pages.entries c.in-Some.ensures (omega (arith, c.if-name-page.true)) (omega (arith, c.if-name-page-2.true)))

pub returns-then-name-page-2-clause-order : goal.returns-then-name-page-2-clause-order
returns-then-name-page-2-clause-order c =
    rw (← c.self.view_is) (first_forward c.args.page c.in-Some.name.now c.in-Some.slots.now c.self.inside.pages.entries c.in-Some.ensures (omega (arith, c.if-name-page.true)) (omega (arith, c.if-name-page-2.true)))
