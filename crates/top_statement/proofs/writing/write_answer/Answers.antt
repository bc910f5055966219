use Rattle.top_statement.proofs.WrittenLaws.{nothing_of, rose_of}
use Rattle.top_statement.proofs.writing.write_answer.Goals as goal

pub returns-clause-sink_fault : goal.returns-clause-sink_fault
returns-clause-sink_fault g c = rose_of _ _ _ _ _ _ c.write-status.ensures.wrote

pub returns-clause-nothing : goal.returns-clause-nothing
returns-clause-nothing g c = nothing_of _ _ _ _ _ _ c.write-status.ensures.wrote
