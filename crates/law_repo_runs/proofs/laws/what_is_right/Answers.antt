use Rattle.law_repo_runs.proofs.laws.what_is_right.Goals as goal

pub returns : goal.returns
returns c = record {
  sound = λ b x p k. k.recorded.sound;
  exact = λ b x p k. k.recorded.exact;
  memory = λ b x k. k.stands.0;
  sessions = λ b x k. k.stands.1;
}
