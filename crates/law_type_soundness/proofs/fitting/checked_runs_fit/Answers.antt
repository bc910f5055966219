use Rattle.law_type_soundness.proofs.FitRun.{run_answered, run_fits, run_had, run_strictly}
use Rattle.law_type_soundness.proofs.fitting.checked_runs_fit.Goals as goal

pub returns : goal.returns
returns c = record { store = run_fits; answered = run_answered; objects = run_had; strictly = run_strictly }
