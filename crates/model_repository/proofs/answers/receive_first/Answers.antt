use Rattle.model_repository.proofs.ByReading.{takes}
use Rattle.model_repository.proofs.answers.receive_first.Goals as goal

pub returns : goal.returns
returns c = takes _ _ _ _ _ _ _ c.in_ok-message.ensures c.taken.ensures.answer c.taken.ensures.trace
