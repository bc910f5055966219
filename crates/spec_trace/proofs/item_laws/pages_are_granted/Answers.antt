use Rattle.spec_trace.proofs.Paged.{pages}
use Rattle.spec_trace.proofs.item_laws.pages_are_granted.Goals as goal

pub returns : goal.returns
returns c = λ b T base sd kept. pages b base T kept sd
