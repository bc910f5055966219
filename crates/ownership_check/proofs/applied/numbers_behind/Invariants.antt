use Rattle.std.proofs.Common.{◌≡◌, ◌++◌, drop}
use Rattle.class_defs.specs.Applied.{numbers_behind}
use Rattle.ownership_check.proofs.applied.numbers_behind.Given as goal

-- those so far, and those of the classes to come
abbrev pub invariant-loop-class : goal.invariant-loop-class
invariant-loop-class l =
    l.numbers ++ numbers_behind l.upgrade l.number (drop l.class-index l.classes) l.rest ≡ numbers_behind l.upgrade l.number l.classes l.upgraded
