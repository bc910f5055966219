use Rattle.law_type_soundness.proofs.FitRun.{values_fit, blocks_fit, values_strict, blocks_strict}
use Rattle.law_type_soundness.proofs.fitting.checked_code_keeps_states_fitting.Goals as goal

pub returns : goal.returns
returns c = record {
  values = λ s objects n m e place v o rules fit ok is. values_fit s objects n m rules fit e place v o ok is;
  blocks = λ s objects n m block flow o rules fit ok is. blocks_fit s objects n m rules fit block flow o ok is;
  values_strictly = λ s objects n m e place rules fit ok. values_strict s objects n m rules fit e place ok;
  blocks_strictly = λ s objects n m block rules fit ok. blocks_strict s objects n m rules fit block ok;
}
