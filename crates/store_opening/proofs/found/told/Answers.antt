use Rattle.std.proofs.Common.{ap, sym, ℕ, ◌∙◌}
use Rattle.store_opening.specs.declared.misfit.Misfit.TheVariants.{Of}
use Rattle.store_opening.proofs.found.told.Goals as goal

pub returns-in-Of-clause-damaged : goal.returns-in-Of-clause-damaged
returns-in-Of-clause-damaged c = λ r d place is.
    let named = c.misfit_at.ensures.damaged r d place is in
    (named.0, c.in-Of.is ∙ ap (λ (n : ℕ). Of n) (sym named.1))
