use Rattle.std.proofs.Common.{◌≡◌, Some, map, take}
use Rattle.std.specs.List.{AllByRecursion}
use Rattle.log_codec.specs.Format.{value_of}
use Rattle.log_codec.specs.Grammar.{BodyFits, body_format}
use Rattle.recovery.specs.Damage.{gate_behind, told_place}
use Rattle.recovery.proofs.bodies.read_bodies.Given as goal

-- the records so far are read, and here is the gate of the next one
abbrev pub invariant-loop-spelled : goal.invariant-loop-spelled
invariant-loop-spelled l =
    (map (value_of body_format) (take l.spelled-index l.records) ≡ map Some l.bodies)
    × AllByRecursion BodyFits l.bodies
    × (l.place ≡ told_place (gate_behind l.first (take l.spelled-index l.records)))
