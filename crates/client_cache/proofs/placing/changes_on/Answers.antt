use Rattle.client_cache.proofs.Named.{all_named}
use Rattle.client_cache.proofs.placing.changes_on.Goals as goal

pub returns-then-not-have_names-clause-none : goal.returns-then-not-have_names-clause-none
returns-then-not-have_names-clause-none c = λ none objects b.
    let has = c.have_names.ensures.1 (all_named c.args.page.now objects b) in
    let hasnt = c.if-not-have_names.true in
    cc
