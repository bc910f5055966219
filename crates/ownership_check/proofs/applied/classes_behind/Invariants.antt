use Rattle.std.proofs.Common.{◌≡◌, take}
use Rattle.class_defs.specs.Applied.{classes_behind}
use Rattle.ownership_check.proofs.applied.classes_behind.Given as goal

-- those so far
abbrev pub invariant-loop-class : goal.invariant-loop-class
invariant-loop-class l = l.behind ≡ classes_behind l.upgrade (take l.class-index l.classes)
