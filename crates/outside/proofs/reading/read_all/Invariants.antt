use Rattle.std.proofs.Common.{◌≤◌, ◌-◌, length}
use Rattle.outside.specs.Streams.{Took}
use Rattle.outside.proofs.reading.read_all.Given as goal

-- the text is what was taken so far
abbrev pub invariant-loop-text : goal.invariant-loop-text
invariant-loop-text g l =
    let left = g.S.Source.left in
    let faults = g.S.Source.faults in
    record {
      took : Took (left l.fn.source) l.text (left l.source);
      within : length l.text ≤ l.limit;
      never_falls : faults l.fn.source ≤ faults l.source;
    }

abbrev pub decreases-loop-text : goal.decreases-loop-text
decreases-loop-text g l = l.limit - length l.text
