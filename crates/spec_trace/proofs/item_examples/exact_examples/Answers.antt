use Rattle.spec_trace.proofs.ExactTraces.{exact_creating, exact_forgetting, exact_refusing, exact_since}
use Rattle.spec_trace.proofs.item_examples.exact_examples.Goals as goal

pub returns : goal.returns
returns c = record { written_since = exact_since; creating = exact_creating; forgetting = exact_forgetting; refusing = exact_refusing }
