use Rattle.std.proofs.Common.{◌≡◌, Some, None, sym}
use Rattle.std.proofs.lemmas.Map.{keys-set_value}
use Rattle.std.specs.Map.{lookup}
use Rattle.client_cache.specs.Pages.{page_of, same_page}
use Rattle.client_cache.specs.Slots.{kept_in, seen_in, written_in}
use Rattle.client_cache.proofs.OneSlot.{one-told}
use Rattle.client_cache.proofs.held_pages.HeldPages.settle.Goals as goal

pub returns-clause-kept : goal.returns-clause-kept
returns-clause-kept c =
    let found : lookup (same_page (page_of c.args.oref)) c.self.inside.pages.entries ≡ Some c.in-Some.slots.now = sym (rw c.of.ensures at c.in-Some.ensures.value) in
    rw (c.of.ensures, ← c.self.view_is, found) (one-told kept_in c.self.inside.pages.entries c.args.oref c.in-Some.slots.now c.settle.new.self (seen_in c.in-Some.slots.now c.args.oref.slot) found c.settle.ensures.kept)

pub returns-clause-written : goal.returns-clause-written
returns-clause-written c = rw (c.of.ensures, ← c.self.view_is) (one-told written_in c.self.inside.pages.entries c.args.oref c.in-Some.slots.now c.settle.new.self None (sym (rw c.of.ensures at c.in-Some.ensures.value)) c.settle.ensures.written)

pub returns-clause-order : goal.returns-clause-order
returns-clause-order c = rw (← c.self.view_is) (keys-set_value (same_page c.of.result) c.self.inside.pages.entries c.settle.new.self)
