use Rattle.spec_trace.proofs.item_examples.inexact_examples.Goals as goal
use Rattle.spec_history.specs.Examples.{z}
use Rattle.std.proofs.Common.{arith, false, refl, true, ◌<◌, ◌≡◌}

pub returns-clause-granted : goal.returns-clause-granted
returns-clause-granted c = λ h. let below : 1 < 1 = h.granted z refl in omega arith

pub returns-clause-paged : goal.returns-clause-paged
returns-clause-paged c = λ h. let there : false ≡ true = h.paged z refl in cc
