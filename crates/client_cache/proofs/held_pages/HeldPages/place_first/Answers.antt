use Rattle.std.proofs.lemmas.Result.{on_ok_weaker}
use Rattle.client_cache.proofs.PageOrder.{order_added}
use Rattle.client_cache.proofs.held_pages.HeldPages.place_first.Goals as goal

pub returns-clause-order : goal.returns-clause-order
returns-clause-order c = on_ok_weaker c.hold.result (λ new. rw new (order_added c.args.page c.in_ok-slots.slots c.args.self.now c.requires)) c.hold.ensures.ok
