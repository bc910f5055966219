use Rattle.std.proofs.Common.{◌≡◌, drop}
use Rattle.std.specs.List.{list_all}
use Rattle.top_reply.specs.Reports.{is_finished}
use Rattle.top_reply.proofs.checking.are_finished.Given as goal

-- the items to come are finished exactly where all are
abbrev pub invariant-loop-ended : goal.invariant-loop-ended
invariant-loop-ended l = list_all is_finished (drop l.ended-index l.ends) ≡ list_all is_finished l.ends
