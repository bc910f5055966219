use Rattle.std.proofs.Common.{◌≡◌, max, drop}
use Rattle.class_defs.specs.Applied.{highest}
use Rattle.ownership_check.proofs.applied.highest.Given as goal

-- the greatest so far and those to come have the greatest of all
abbrev pub invariant-loop-number : goal.invariant-loop-number
invariant-loop-number l = max l.found (highest (drop l.number-index l.numbers)) ≡ highest l.numbers
