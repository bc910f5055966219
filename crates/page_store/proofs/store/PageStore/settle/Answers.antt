use Rattle.std.proofs.Common.{◌≡◌, ◌∙◌, ap, Some, ℕ}
use Rattle.page_format.specs.Pages.{Contents}
use Rattle.page_store.specs.Store.{refreshed}
use Rattle.page_store.proofs.Stores.{staged_found, keeps_settled, agrees_after, refreshed_is, same_page}
use Rattle.page_store.proofs.store.PageStore.settle.Goals as goal

pub invariant_of-self-2 : goal.invariant_of-self-2
invariant_of-self-2 c =
    let last = rw (← c.self.view_is) at c.requires.last in
    let is = staged_found c.self.inside.staged c.in-Some.found last.0 c.in-Some.field-0-1 c.args.side c.args.page c.in-Some.ensures.value last.1 last.2 in
    keeps_settled c.self.inside.sides c.put_within.new.self c.self.inside.staged c.take.new.self c.self.inside.held c.refresh.new.held c.args.page c.args.side c.self.inside.room c.put_within.new.room c.in-Some.found c.self.invariant is.1 is.0 c.put_within.ensures c.in-Some.ensures.after c.refresh.ensures

pub returns-clause-held : goal.returns-clause-held
returns-clause-held c = λ found staged.
    let here = rw (← c.self.view_is) at staged in
    let same = same_page c.self.inside.staged c.in-Some.found found c.in-Some.field-0-1 c.args.side c.in-Some.ensures.value here in
    rw (← c.self.view_is) ((refreshed_is c.self.inside.held c.refresh.new.held c.args.page (Some c.in-Some.found) c.self.invariant.cap_is c.refresh.ensures).0 ∙ ap (λ (p : Contents). refreshed c.self.inside.held.entries c.args.page (Some p)) same)

pub returns-clause-agrees : goal.returns-clause-agrees
returns-clause-agrees c = λ disk agrees.
    let last = rw (← c.self.view_is) at c.requires.last in
    let is = staged_found c.self.inside.staged c.in-Some.found last.0 c.in-Some.field-0-1 c.args.side c.args.page c.in-Some.ensures.value last.1 last.2 in
    agrees_after c.self.inside.sides c.put_within.new.self c.self.inside.staged c.take.new.self c.self.inside.held c.refresh.new.held c.args.page c.args.side c.in-Some.found disk c.self.invariant.cap_is is.1 is.0 c.put_within.ensures c.in-Some.ensures.after c.refresh.ensures (rw (← c.self.view_is) at agrees)
