use Rattle.std.proofs.Common.{◌≡◌}
use Rattle.report_summary.specs.Summary.{sum_of}
use Rattle.report_summary.proofs.accounts.sum_of.Given as goal

-- the accounts so far are added up
abbrev pub invariant-loop-i : goal.invariant-loop-i
invariant-loop-i l = l.sum ≡ sum_of l.classes l.store l.i
