use Rattle.std.proofs.Common.{◌∙◌}
use Rattle.validation_queue.proofs.Searching.{searched_names}
use Rattle.validation_queue.proofs.name_set.is_one_of.Goals as goal

pub returns : goal.returns
returns c = let e = c.binary_search.ensures in c.is_ok.ensures.value ∙ searched_names c.args.oref c.args.names.now c.binary_search.result c.requires e.bound e.position
