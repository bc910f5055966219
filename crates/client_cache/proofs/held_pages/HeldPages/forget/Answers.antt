use Rattle.std.proofs.Common.{None, sym}
use Rattle.std.proofs.lemmas.Map.{keys-set_value}
use Rattle.client_cache.specs.Pages.{page_of, same_page}
use Rattle.client_cache.specs.Slots.{kept_in, written_in}
use Rattle.client_cache.proofs.OneSlot.{one-told, same-told}
use Rattle.client_cache.proofs.held_pages.HeldPages.forget.Goals as goal

pub returns-clause-kept : goal.returns-clause-kept
returns-clause-kept c = rw (c.of.ensures, ← c.self.view_is) (one-told kept_in c.self.inside.pages.entries c.args.oref c.in-Some.slots.now c.forget.new.self None (sym (rw c.of.ensures at c.in-Some.ensures.value)) c.forget.ensures.kept)

pub returns-clause-written : goal.returns-clause-written
returns-clause-written c = rw (c.of.ensures, ← c.self.view_is) (same-told written_in c.self.inside.pages.entries (page_of c.args.oref) c.in-Some.slots.now c.forget.new.self (sym (rw c.of.ensures at c.in-Some.ensures.value)) c.forget.ensures.written)

pub returns-clause-order : goal.returns-clause-order
returns-clause-order c = rw (← c.self.view_is) (keys-set_value (same_page c.of.result) c.self.inside.pages.entries c.forget.new.self)
