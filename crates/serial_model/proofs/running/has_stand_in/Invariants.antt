use Rattle.std.proofs.Common.{◌≡◌, ◌==◌, drop}
use Rattle.std.specs.List.{list_any}
use Rattle.thor_value.specs.declared.names.Oref.{Oref}
use Rattle.serial_model.proofs.running.has_stand_in.Given as goal

-- a stand-in name is among those to come exactly where it is among all
abbrev pub invariant-loop-name : goal.invariant-loop-name
invariant-loop-name l = list_any (λ (x : Oref). x.repo == 255) (drop l.name-index l.name-items) ≡ list_any (λ (x : Oref). x.repo == 255) l.names
