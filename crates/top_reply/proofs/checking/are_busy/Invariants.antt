use Rattle.std.proofs.Common.{◌≡◌, drop}
use Rattle.std.specs.List.{list_any}
use Rattle.top_reply.specs.Reports.{is_busy}
use Rattle.top_reply.proofs.checking.are_busy.Given as goal

-- a client to come has items exactly where one of all has
abbrev pub invariant-loop-client : goal.invariant-loop-client
invariant-loop-client l = list_any is_busy (drop l.client-index l.clients) ≡ list_any is_busy l.clients
