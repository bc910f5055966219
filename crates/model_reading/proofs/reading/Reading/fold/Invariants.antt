use Rattle.std.proofs.Common.{drop, ◌≡◌}
use Rattle.std.specs.List.{fold}
use Rattle.model_reading.specs.Items.{trace_of}
use Rattle.model_reading.specs.Opening.{base_of}
use Rattle.model_reading.specs.Reading.{reading, step}
use Rattle.model_reading.proofs.reading.Reading.fold.Given as goal

-- what is left leads to the whole
abbrev pub invariant-loop-item : goal.invariant-loop-item
invariant-loop-item l = fold (step (base_of l.fn.opening) l.fn.number) l.read (trace_of (drop l.item-index l.fn.items)) ≡ reading (base_of l.fn.opening) l.fn.number (trace_of l.fn.items)
