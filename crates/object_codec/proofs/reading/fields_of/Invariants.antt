use Rattle.std.proofs.Common.{◌≡◌, ◌-◌}
use Rattle.object_codec.specs.Reading.{fields_at}
use Rattle.object_codec.proofs.Loop.{with_front}
use Rattle.object_codec.proofs.reading.fields_of.Given as goal

-- the fields so far, and those that are still read, are all
abbrev pub invariant-loop : goal.invariant-loop
invariant-loop l = with_front l.fields.items (fields_at (l.count - l.counter) l.rest) ≡ fields_at l.count l.bytes
