use Rattle.client_cache.specs.Pages.{page_of}
use Rattle.client_cache.proofs.PageOrder.{order_added}
use Rattle.client_cache.proofs.cache.Cache.write_on_made.Goals as goal

pub returns-clause-pages : goal.returns-clause-pages
returns-clause-pages c = rw (← c.self.view_is, c.in_ok-hold.ensures.ok, c.of-page.ensures) (order_added (page_of c.args.oref) c.in_ok-slots.slots c.self.inside.pages (rw (← c.self.view_is) at c.requires.apart))
