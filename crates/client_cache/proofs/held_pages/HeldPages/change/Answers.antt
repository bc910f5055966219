use Rattle.std.proofs.Common.{◌≡◌, Some, sym}
use Rattle.std.specs.Map.{lookup}
use Rattle.std.proofs.lemmas.Map.{keys-set_value}
use Rattle.client_cache.specs.Pages.{same_page}
use Rattle.client_cache.specs.Slots.{kept_in, written_in}
use Rattle.client_cache.proofs.OneSlot.{page-told, same-told}
use Rattle.client_cache.proofs.held_pages.HeldPages.change.Goals as goal

pub returns-clause-kept : goal.returns-clause-kept
returns-clause-kept c = λ x.
    let found : lookup (same_page c.args.page) c.self.inside.pages.entries ≡ Some c.in-Some.slots.now = sym c.in-Some.ensures.value in
    rw (← c.self.view_is, found, ← c.change.ensures.kept x.slot) (page-told kept_in c.self.inside.pages.entries c.args.page c.in-Some.slots.now c.change.new.self found x)

pub returns-clause-written : goal.returns-clause-written
returns-clause-written c = rw (← c.self.view_is) (same-told written_in c.self.inside.pages.entries c.args.page c.in-Some.slots.now c.change.new.self (sym c.in-Some.ensures.value) c.change.ensures.written)

pub returns-clause-order : goal.returns-clause-order
returns-clause-order c = rw (← c.self.view_is) (keys-set_value (same_page c.args.page) c.self.inside.pages.entries c.change.new.self)
