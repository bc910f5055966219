use Rattle.cluster_core.proofs.Begun.{unbased}
use Rattle.simulation_setup.proofs.opening.open_store.Goals as goal

pub open-requires : goal.open-requires
open-requires c = unbased c.args.found.places.items c.args.found.mob c.args.plan.start
