use Rattle.std.proofs.Common.{◌≡◌, take}
use Rattle.report_summary.specs.Summary.{count_of}
use Rattle.report_summary.proofs.counting.count_of.Given as goal

-- the items so far are counted
abbrev pub invariant-loop-ended : goal.invariant-loop-ended
invariant-loop-ended l = l.count ≡ count_of l.end (take l.ended-index l.ends)
