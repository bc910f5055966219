use Rattle.spec_trace.proofs.Exactness.{exact-beginning, exact-end, exact-owed}
use Rattle.spec_trace.proofs.item_laws.exact_traces_grow.Goals as goal

pub returns : goal.returns
returns c = record { beginning = exact-beginning; owed = exact-owed; grown = exact-end }
