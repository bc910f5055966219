use Rattle.spec_trace.proofs.Drawn.{drawn-once}
use Rattle.spec_trace.proofs.item_laws.stamps_are_drawn_once.Goals as goal

pub returns : goal.returns
returns c = drawn-once
