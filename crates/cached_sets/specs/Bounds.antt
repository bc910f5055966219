-- Where a walk over a map goes on. No public clause cites this module.
use Rattle.std.specs.Prelude.{None, Option, Some}
use Rattle.std.specs.declared.ops.Bound.TheVariants.{Excluded, Unbounded}
use Rattle.std.specs.declared.ops.Bound.{Bound}
use Rattle.thor_value.specs.declared.names.Oref.{Oref}

abbrev pub bound_behind : Option Oref → Bound Oref
bound_behind None = Unbounded
bound_behind (Some last) = Excluded last
