use Rattle.law_reported_history.proofs.Runs.{are-sound, lives-follow}
use Rattle.law_reported_history.proofs.laws.traces_of_a_run_are_sound.Goals as goal

pub returns : goal.returns
returns g c = record {
  sound = λ given traces h based. are-sound g.P.Parts.disks given traces h based;
  lives = λ given traces h based r. lives-follow g.P.Parts.disks given traces h based r;
}
