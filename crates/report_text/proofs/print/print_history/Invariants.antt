use Rattle.std.proofs.Common.{◌≡◌, ◌++◌, take, All}
use Rattle.std.specs.List.{flat_map}
use Rattle.std.specs.String.{string_bytes}
use Rattle.report_text.specs.Report.{history_line}
use Rattle.report_text.specs.Shown.{FitsLine}
use Rattle.report_text.proofs.print.print_history.Given as goal

-- the lines of the entries so far, which have numbers of 64 bits
abbrev pub invariant-loop-entry : goal.invariant-loop-entry
invariant-loop-entry l = (string_bytes l.out ≡ string_bytes l.fn.out ++ flat_map history_line (take l.entry-index l.history))
    × All FitsLine (take l.entry-index l.history)
