use Rattle.std.proofs.Common.{◌≡◌, map, take}
use Rattle.serial_model.proofs.lines_aside.SequenceSameAside.same_aside.Given as goal

-- those before the place are equal, lines aside
abbrev pub invariant-loop-place : goal.invariant-loop-place
invariant-loop-place g l = map g.T.SameAside.on_line_1 (take l.place l.some) ≡ map g.T.SameAside.on_line_1 (take l.place l.others)
