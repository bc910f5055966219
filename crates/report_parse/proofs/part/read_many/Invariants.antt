use Rattle.std.proofs.Common.{◌≡◌, ◌-◌, length}
use Rattle.report_parse.specs.Reading.{many}
use Rattle.report_parse.proofs.Loop.{with_front}
use Rattle.report_parse.proofs.part.read_many.Given as goal

-- the parts so far, and those that are still read, are all
abbrev pub invariant-loop : goal.invariant-loop
invariant-loop g l = with_front g.T.Part.reading l.parts.items (many g.T.Part.reading (length l.bytes - l.counter) l.rest) ≡ many g.T.Part.reading (length l.bytes) l.bytes
