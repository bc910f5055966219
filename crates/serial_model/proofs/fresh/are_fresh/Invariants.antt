use Rattle.std.proofs.Common.{◌≡◌, List, drop}
use Rattle.class_defs.specs.declared.store.Root.{Root}
use Rattle.serial_model.specs.History.{are_fresh}
use Rattle.serial_model.specs.Whole.{plain}
use Rattle.serial_model.proofs.fresh.are_fresh.Given as goal

-- those to come are fresh exactly where all are
abbrev pub invariant-loop-place : goal.invariant-loop-place
invariant-loop-place l = (roots : List Root) → are_fresh (plain roots l.view) (drop l.place l.names) ≡ are_fresh (plain roots l.view) l.names
