use Rattle.store_check.specs.Tests.{fields_fit}
use Rattle.store_check.proofs.kinds.fields_fit.Given as goal
use Rattle.std.proofs.Common.{◌≡◌}

-- whether the fields so far fit
abbrev pub invariant-loop-field : goal.invariant-loop-field
invariant-loop-field l = l.fit ≡ fields_fit l.schemas l.objects l.obj l.field
