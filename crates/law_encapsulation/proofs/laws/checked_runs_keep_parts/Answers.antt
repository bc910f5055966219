use Rattle.law_encapsulation.proofs.Runs.{run_keeps}
use Rattle.law_encapsulation.proofs.laws.checked_runs_keep_parts.Goals as goal

pub returns : goal.returns
returns c = λ schema repos tx store names r sound ok fit fresh is. run_keeps schema repos tx store names r sound ok fit fresh is
