use Rattle.std.proofs.Common.{◌≡◌, ◌==◌, ◌&&◌, drop}
use Rattle.page_format.specs.Walking.{all_zero}
use Rattle.page_format.proofs.walk.all_zero.Given as goal

-- those seen and those left
abbrev pub invariant-loop-byte : goal.invariant-loop-byte
invariant-loop-byte l = ((l.bits == 0) && all_zero (drop l.byte-index l.bytes)) ≡ all_zero l.bytes
