use Rattle.std.proofs.Common.{◌≡◌, ◌-◌}
use Rattle.log_codec.specs.Format.{several}
use Rattle.log_codec.proofs.Loops.{with_front}
use Rattle.log_codec.proofs.lists.read_several.Given as goal

-- the values so far, and those that are still read, are all
abbrev pub invariant-loop : goal.invariant-loop
invariant-loop g l = with_front g.T.Spelled.format.reading l.values.items (several g.T.Spelled.format.reading (l.count - l.counter) l.rest) ≡ several g.T.Spelled.format.reading l.count l.bytes
