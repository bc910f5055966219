use Rattle.store_check.specs.Naming.{noted_fields}
use Rattle.store_check.proofs.naming.note_fields.Given as goal
use Rattle.std.proofs.Common.{◌≡◌}

-- the notes of the fields so far
abbrev pub invariant-loop-field : goal.invariant-loop-field
invariant-loop-field l = l.namings ≡ noted_fields l.schemas l.fn.namings l.oref l.obj l.field
