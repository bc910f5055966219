use Rattle.std.proofs.Common.{◌≡◌, ◌++◌}
use Rattle.std.specs.Vec.Iter.{into_iter_items}
use Rattle.script_parse.specs.Reads.{Each}
use Rattle.script_parse.specs.Script.{AreItems}
use Rattle.script_parse.proofs.reading.read_clients.Given as goal

-- the clients so far were read, and those to come are the rest
abbrev pub invariant-loop-client : goal.invariant-loop-client
invariant-loop-client l = (l.yielded ++ into_iter_items l.client-iterator ≡ l.fn.clients) × Each AreItems l.yielded l.read
