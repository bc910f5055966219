use Rattle.spec_history.proofs.history_examples.created_name_examples.Goals as goal
use Rattle.spec_history.specs.Examples.{at, box, created_twice, creating_z, home, z}
use Rattle.spec_history.specs.History.{Committed, Known}
use Rattle.spec_history.specs.Sound.{each_creates_new}
use Rattle.std.proofs.Common.{refl, ◌≡◌}
use Rattle.std.specs.Prelude.{None, Option, Some}
use Rattle.thor_value.specs.declared.values.Obj.{Obj}

-- how the second one stands
abbrev second : Known
second = record { place = 2; request = creating_z 2; fate = Committed 2 }

there : ◌≡◌ {A = Option Obj} (Some (box 7)) None → ⊥
there e = cc

pub returns-clause-second : goal.returns-clause-second
returns-clause-second c = λ (h : each_creates_new home created_twice). there ((h (at 2) second refl).unused refl z refl refl)
