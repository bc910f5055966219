use Rattle.cluster_threads.proofs.Begun.{unbased}
use Rattle.thor_top.proofs.running.play_on_threads.Goals as goal

pub open-requires : goal.open-requires
open-requires g c = unbased c.args.found.places.items c.args.found.mob c.args.run.start
