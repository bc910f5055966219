use Rattle.std.proofs.Common.{◌≡◌, [], ◌∷◌}
use Rattle.disk_trait.specs.Record.{torn}
use Rattle.disk_trait.proofs.crash.tear.Given as goal

abbrev pub invariant-loop-place : goal.invariant-loop-place
invariant-loop-place l = l.bytes ≡ torn l.pick ((l.first, l.place) ∷ []) l.fn.bytes
