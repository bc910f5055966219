use Rattle.law_cache_coherence.proofs.Committing.{fits_learnt, fits_told}
use Rattle.law_cache_coherence.proofs.growth.outcomes_are_told.Goals as goal

pub returns : goal.returns
returns c = record {
  others = fits_told;
  own = λ client b T committed later kept t o h there open' mine only done more idle settled pages. fits_learnt client b T committed later kept t o h there open' mine only done more idle settled pages;
}
