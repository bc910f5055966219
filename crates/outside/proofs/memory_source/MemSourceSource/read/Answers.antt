use Rattle.std.proofs.Common.{ap, Some}
use Rattle.outside.proofs.Pieces.{rest_in_two}
use Rattle.outside.proofs.memory_source.MemSourceSource.read.Goals as goal

pub returns-clause-took : goal.returns-clause-took
returns-clause-took c = rw (← c.self.view_is, c.copy_piece-count.ensures.copied, c.split_at.ensures.back, c.as_slice.ensures) (ap Some (rest_in_two c.self.inside.at c.copy_piece-count.result c.self.inside.bytes))
