use Rattle.repo_opening.specs.declared.unopened.Unopened.TheVariants.{Damaged}
use Rattle.repo_opening.specs.declared.unopened.Unopened.{Unopened}
use Rattle.std.proofs.Common.{Err, IsErrOf, ap, inr, ◌∙◌}
use Rattle.repo_opening.proofs.repository.unheld.Goals as goal

pub returns-in-Err-clause-damaged : goal.returns-in-Err-clause-damaged
returns-in-Err-clause-damaged g c = λ images r d p reads is.
    let wrong : IsErrOf c.check_pages.result (Damaged r d p) = c.in-Err.is ∙ ap (λ (f : Unopened). Err f) is in
    let told = c.check_pages.ensures.damaged images r d p reads wrong in
    (told.0, inr (told.1, told.2))
