use Rattle.model_reading.proofs.Parts.{tells_of}
use Rattle.model_reading.proofs.reading.Reading.of.Goals as goal

pub returns : goal.returns
returns c = tells_of _ _ _ c.in_ok-read.read c.in_ok-read.ensures
