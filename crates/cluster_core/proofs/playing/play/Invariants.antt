use Rattle.cluster_core.specs.Seated.{run_found}
use Rattle.cluster_core.proofs.playing.play.Given as goal

-- the run is what was found
abbrev pub ghosts-played : goal.ghosts-played
ghosts-played g a = record { run = run_found a.found a.plan.start }
