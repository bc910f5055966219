use Rattle.law_lazy_history.proofs.Histories.{all-lead-first}
use Rattle.law_lazy_history.proofs.laws.changes_without_upgrades_are_legal.Goals as goal

pub returns : goal.returns
returns c = record {
  legal = λ s N cs first sorted h rise. record { rising = rise; each = (all-lead-first s N cs first sorted h).legal };
  behind = λ s N cs first sorted h. (all-lead-first s N cs first sorted h).behind;
}
