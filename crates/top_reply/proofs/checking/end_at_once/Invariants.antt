use Rattle.std.proofs.Common.{◌≡◌, drop}
use Rattle.std.specs.List.{list_all}
use Rattle.top_reply.specs.Reports.{ends_at_once}
use Rattle.top_reply.proofs.checking.end_at_once.Given as goal

-- the items to come ended at once exactly where all did
abbrev pub invariant-loop-ended : goal.invariant-loop-ended
invariant-loop-ended l = list_all (ends_at_once l.fn.running) (drop l.ended-index l.ends) ≡ list_all (ends_at_once l.fn.running) l.ends
