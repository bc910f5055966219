use Rattle.std.proofs.Common.{sym, ◌∙◌}
use Rattle.std.specs.Map.{lookup}
use Rattle.client_cache.specs.Pages.{page_of, same_page}
use Rattle.client_cache.proofs.Changing.{not_there}
use Rattle.client_cache.proofs.held_pages.HeldPages.place.Goals as goal

pub returns-then-not-holds-clause-kept : goal.returns-then-not-holds-clause-kept
returns-then-not-holds-clause-kept c = rw (← not_there (lookup (same_page c.args.page) c.args.self.now) c.if-not-holds.ensures) c.place_first.ensures.kept

pub change-requires : goal.change-requires
change-requires c = rw (c.bring_forward.ensures.same c.args.page) (sym c.if-not-holds.ensures)

pub returns-clause-kept : goal.returns-clause-kept
returns-clause-kept c = λ x. rw (← c.bring_forward.ensures.same (page_of x), ← c.bring_forward.ensures.same c.args.page) (c.change.ensures.kept x)

pub returns-clause-written : goal.returns-clause-written
returns-clause-written c = λ x. rw (← c.bring_forward.ensures.same (page_of x)) (c.change.ensures.written x)

pub returns-clause-order : goal.returns-clause-order
returns-clause-order c = c.change.ensures.order ∙ rw (sym c.if-not-holds.ensures) at c.bring_forward.ensures.order
