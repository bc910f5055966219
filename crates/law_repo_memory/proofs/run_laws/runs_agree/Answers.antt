use Rattle.law_repo_memory.proofs.Running.{does, runs}
use Rattle.law_repo_memory.proofs.run_laws.runs_agree.Goals as goal

pub returns : goal.returns
returns c = record {
  event = does;
  agreement = runs;
  sound = λ b x y es a s. (runs b x y es a s).held.owed.sound;
}
