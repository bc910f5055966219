use Rattle.law_type_soundness.proofs.StrictTells.{values_told, transactions_told}
use Rattle.law_type_soundness.proofs.fitting.strict_meaning_tells_what_runs_do.Goals as goal

pub returns : goal.returns
returns c = record { values = values_told; transactions = transactions_told }
