use Rattle.thor_value.proofs.Rising.{absent, found}
use Rattle.thor_value.proofs.searching.place_of.Goals as goal

pub returns-clause-found : goal.returns-clause-found
returns-clause-found c = found c.args.names.now c.args.oref c.binary_search.result c.requires c.binary_search.ensures.bound c.binary_search.ensures.position

pub returns-clause-absent : goal.returns-clause-absent
returns-clause-absent c = absent c.args.names.now c.args.oref c.binary_search.result c.requires c.binary_search.ensures.bound c.binary_search.ensures.position
