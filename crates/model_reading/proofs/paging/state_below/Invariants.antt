use Rattle.std.proofs.Common.{drop, ◌≡◌}
use Rattle.std.specs.List.{fold}
use Rattle.model_reading.specs.Items.{trace_of}
use Rattle.model_reading.specs.Opening.{base_of}
use Rattle.model_reading.specs.Paging.{put_below, state_below}
use Rattle.model_reading.proofs.paging.state_below.Given as goal

-- what is left leads to the whole
abbrev pub invariant-loop-item : goal.invariant-loop-item
invariant-loop-item l = fold (put_below (base_of l.fn.opening) l.fn.place) l.state (trace_of (drop l.item-index l.fn.items)) ≡ state_below (base_of l.fn.opening) l.fn.place (trace_of l.fn.items)
