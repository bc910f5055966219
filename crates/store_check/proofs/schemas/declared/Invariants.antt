use Rattle.std.proofs.Common.{take, ◌≡◌}
use Rattle.store_check.specs.Spelled.{declared_roots}
use Rattle.store_check.proofs.schemas.declared.Given as goal

-- those so far are declared
abbrev pub invariant-loop-root : goal.invariant-loop-root
invariant-loop-root l = l.declared ≡ declared_roots l.classes (take l.root-index l.roots)
