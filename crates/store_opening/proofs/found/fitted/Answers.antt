use Rattle.repo_opening.specs.declared.unopened.Unopened.TheVariants.{Damaged, Failed}
use Rattle.std.proofs.Common.{Err, ap, rules, ◌∙◌, ◌≡◌}
use Rattle.store_opening.specs.declared.misfit.Misfit.{Misfit}
use Rattle.store_opening.proofs.found.fitted.Goals as goal

pub returns-in-Err-clause-damaged : goal.returns-in-Err-clause-damaged
returns-in-Err-clause-damaged g c = λ r d place is.
    let told : c.told.result ≡ Damaged r d place = search rules in
    let named = c.told.ensures.damaged r d place told in
    (named.0, c.in-Err.is ∙ ap (λ (f : Misfit). Err f) named.1)

pub returns-in-Err-clause-failed : goal.returns-in-Err-clause-failed
returns-in-Err-clause-failed g c = λ r is.
    let told : c.told.result ≡ Failed r = search rules in
    c.told.ensures.failed r told
