use Rattle.std.proofs.Common.{◌≡◌, Some, option_map, sym}
use Rattle.std.proofs.lemmas.Map.{keys-set_value}
use Rattle.std.specs.Map.{lookup}
use Rattle.client_cache.specs.Pages.{page_of, same_page}
use Rattle.client_cache.specs.Slots.{dated, kept_in, written_in}
use Rattle.client_cache.proofs.OneSlot.{one-told, same-told}
use Rattle.client_cache.proofs.held_pages.HeldPages.date_anew.Goals as goal

pub returns-clause-copy : goal.returns-clause-copy
returns-clause-copy c =
    let found : lookup (same_page (page_of c.args.oref)) c.self.inside.pages.entries ≡ Some c.in-Some.slots.now = sym (rw c.of.ensures at c.in-Some.ensures.value) in
    rw (← c.self.view_is, found) c.date.ensures.copy

pub returns-clause-kept : goal.returns-clause-kept
returns-clause-kept c = rw (c.of.ensures, ← c.self.view_is) (same-told kept_in c.self.inside.pages.entries (page_of c.args.oref) c.in-Some.slots.now c.date.new.self (sym (rw c.of.ensures at c.in-Some.ensures.value)) c.date.ensures.kept)

pub returns-clause-written : goal.returns-clause-written
returns-clause-written c =
    let found : lookup (same_page (page_of c.args.oref)) c.self.inside.pages.entries ≡ Some c.in-Some.slots.now = sym (rw c.of.ensures at c.in-Some.ensures.value) in
    rw (c.of.ensures, ← c.self.view_is, found) (one-told written_in c.self.inside.pages.entries c.args.oref c.in-Some.slots.now c.date.new.self (option_map (dated c.args.ver) (written_in c.in-Some.slots.now c.args.oref.slot)) found c.date.ensures.written)

pub returns-clause-order : goal.returns-clause-order
returns-clause-order c = rw (← c.self.view_is) (keys-set_value (same_page c.of.result) c.self.inside.pages.entries c.date.new.self)
