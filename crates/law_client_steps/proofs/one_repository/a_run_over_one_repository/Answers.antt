use Rattle.law_client_steps.proofs.OnePage.{brings}
use Rattle.law_client_steps.proofs.OneRun.{run, run_singly, run_stopped, starts}
use Rattle.law_client_steps.proofs.one_repository.a_run_over_one_repository.Goals as goal

pub returns : goal.returns
returns c = record { begins = starts; leads = run; singly = run_singly; stops = run_stopped; page = brings }
