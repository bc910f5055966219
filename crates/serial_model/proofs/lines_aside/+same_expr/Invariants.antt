use Rattle.std.proofs.Common.{◌≡◌, map, take}
use Rattle.class_defs.specs.LinesAside.{expr_on_line_1}
use Rattle.serial_model.proofs.lines_aside.+same_expr.Given as goal

-- those before the place are equal, lines aside
abbrev pub invariant-same_exprs-loop-place : goal.invariant-same_exprs-loop-place
invariant-same_exprs-loop-place l = map expr_on_line_1 (take l.place l.some) ≡ map expr_on_line_1 (take l.place l.others)
