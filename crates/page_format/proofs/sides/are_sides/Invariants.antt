use Rattle.std.proofs.Common.{drop}
use Rattle.page_format.proofs.Places.{SidesLeft}
use Rattle.page_format.proofs.sides.are_sides.Given as goal

abbrev pub invariant-loop-pair : goal.invariant-loop-pair
invariant-loop-pair l = SidesLeft l.pairs (drop l.pair-index l.pairs) l.low
