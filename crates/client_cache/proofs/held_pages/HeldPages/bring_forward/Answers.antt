use Rattle.std.proofs.Common.{ap}
use Rattle.client_cache.proofs.PageLookups.{found-promoted}
use Rattle.client_cache.proofs.PageOrder.{order-promoted}
use Rattle.client_cache.proofs.held_pages.HeldPages.bring_forward.Goals as goal

pub returns-clause-same : goal.returns-clause-same
returns-clause-same c = λ p. rw (← c.self.view_is, ap (λ l. l.entries) c.promote.ensures.entries) (found-promoted c.args.page p c.self.inside.pages.entries)

pub returns-clause-order : goal.returns-clause-order
returns-clause-order c = rw (← c.self.view_is, ap (λ l. l.entries) c.promote.ensures.entries) (order-promoted c.args.page c.self.inside.pages.entries)
