use Rattle.std.proofs.Common.{ap, sym, ◌∙◌, Option, None}
use Rattle.std.specs.Option.{unwrap_or}
use Rattle.page_format.specs.Pages.{Contents}
use Rattle.page_store.proofs.store.PageStore.held.Goals as goal

pub returns-in-Some-Some-clause-objects : goal.returns-in-Some-Some-clause-objects
returns-in-Some-Some-clause-objects c = (c.self.invariant.pages.held c.args.page c.in-Some-Some.found (sym (ap (λ (o : Option (Option Contents)). unwrap_or o None) c.in-Some-Some.ensures) ∙ c.in-Some-Some.field-0-is)).0

pub returns-in-Some-Some-clause-number : goal.returns-in-Some-Some-clause-number
returns-in-Some-Some-clause-number c = (c.self.invariant.pages.held c.args.page c.in-Some-Some.found (sym (ap (λ (o : Option (Option Contents)). unwrap_or o None) c.in-Some-Some.ensures) ∙ c.in-Some-Some.field-0-is)).1
