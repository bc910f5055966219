use Rattle.law_lazy_history.proofs.Histories.{all-lead}
use Rattle.law_lazy_history.proofs.laws.changes_are_legal.Goals as goal

pub returns : goal.returns
returns c = record {
  legal = λ s N cs keeps l sorted fits h rise. record { rising = rise; each = (all-lead s keeps N cs l sorted fits h).0.legal };
  behind = λ s N cs keeps l sorted fits h. (all-lead s keeps N cs l sorted fits h).0.behind;
  fits = λ s N cs keeps l sorted fits h. (all-lead s keeps N cs l sorted fits h).1;
}
