use Rattle.store_check.specs.Naming.{noted_names}
use Rattle.store_check.proofs.naming.namings_of.Given as goal
use Rattle.std.proofs.Common.{◌≡◌, take}

-- the notes of the objects so far
abbrev pub invariant-loop-oref : goal.invariant-loop-oref
invariant-loop-oref l = l.namings ≡ noted_names l.schemas l.objects (take l.oref-index l.names)
