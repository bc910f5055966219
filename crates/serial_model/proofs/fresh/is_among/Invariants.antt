use Rattle.std.proofs.Common.{◌≡◌, drop}
use Rattle.std.specs.List.{list_any}
use Rattle.thor_value.specs.Names.{same_oref}
use Rattle.serial_model.proofs.fresh.is_among.Given as goal

-- the name is among those to come exactly where it is among all
abbrev pub invariant-loop-name : goal.invariant-loop-name
invariant-loop-name l = list_any (same_oref l.oref) (drop l.name-index l.names) ≡ list_any (same_oref l.oref) l.names
