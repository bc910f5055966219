use Rattle.std.proofs.Common.{◌≡◌, map}
use Rattle.serial_model.specs.Whole.{bare_pair}
use Rattle.serial_model.proofs.viewing.bare_pairs.Given as goal

-- the objects so far
abbrev pub invariant-loop-oref : goal.invariant-loop-oref
invariant-loop-oref l = l.bare ≡ map bare_pair l.yielded
