use Rattle.std.proofs.Common.{◌≡◌, ◌++◌, take, All}
use Rattle.std.specs.List.{flat_map}
use Rattle.std.specs.String.{string_bytes}
use Rattle.report_text.specs.Report.{item_line}
use Rattle.report_text.specs.Shown.{FitsItem}
use Rattle.report_text.proofs.print.print_items.Given as goal

-- the lines of the items so far, which have numbers of 64 bits
abbrev pub invariant-loop-ended : goal.invariant-loop-ended
invariant-loop-ended l = (string_bytes l.out ≡ string_bytes l.fn.out ++ flat_map item_line (take l.ended-index l.ends))
    × All FitsItem (take l.ended-index l.ends)
