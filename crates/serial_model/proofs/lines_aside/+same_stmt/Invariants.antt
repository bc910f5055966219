use Rattle.std.proofs.Common.{◌≡◌, map, take}
use Rattle.class_defs.specs.LinesAside.{stmt_on_line_1}
use Rattle.serial_model.proofs.lines_aside.+same_stmt.Given as goal

-- those before the place are equal, lines aside
abbrev pub invariant-same_block-loop-place : goal.invariant-same_block-loop-place
invariant-same_block-loop-place l = map stmt_on_line_1 (take l.place l.some) ≡ map stmt_on_line_1 (take l.place l.others)
