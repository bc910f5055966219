-- How many small steps are left: each step of a run pays for at most six.
use Rattle.std.specs.Prelude.{ℕ, ◌+◌, ◌-◌, ◌*◌, List, [], ◌∷◌}
use Rattle.lang_small_steps.specs.Resume.{Left}
use Rattle.lang_small_steps.specs.declared.frames.Doing.{Doing}
use Rattle.lang_small_steps.specs.declared.frames.Doing.TheVariants as doing
use Rattle.lang_small_steps.specs.declared.frames.Frame.{Frame}
use Rattle.lang_small_steps.specs.declared.frames.Frame.TheVariants as frame
use Rattle.class_defs.specs.declared.machine.Machine.{Machine}

abbrev pub size : Frame → ℕ
size (frame.Callee n t name es) = 5
size (frame.Arguments n t r name done es) = 5
size (frame.Branch n b) = 3
size (frame.Branches n b c) = 3
size (frame.Test n t c b) = 4
size f = 1

abbrev pub sizes : List Frame → ℕ
sizes [] = 0
sizes (f ∷ fs) = size f + sizes fs

abbrev pub size_of : Doing → ℕ
size_of (doing.Evaluate n e) = 0
size_of (doing.Execute n s) = 0
size_of (doing.Create c at) = 2
size_of (doing.Enter n c x name vs) = 5
size_of (doing.Give g) = 1

unfoldable pub due : Machine → Left → ℕ
due m l = 6 * (100000 - m.steps) + (size_of l.doing + sizes l.stack)

-- something is left to do
abbrev pub IsOpen : Doing → List Frame → Type 0
IsOpen (doing.Give g) [] = ⊥
IsOpen (doing.Give g) (f ∷ fs) = Unit {0}
IsOpen (doing.Evaluate n e) fs = Unit {0}
IsOpen (doing.Execute n s) fs = Unit {0}
IsOpen (doing.Create c at) fs = Unit {0}
IsOpen (doing.Enter n c x name vs) fs = Unit {0}
