use Rattle.std.proofs.Common.{◌≡◌, take, drop}
use Rattle.class_defs.specs.Rules.{least_with, stand_once}
use Rattle.method_check.specs.Seen.{Has}
use Rattle.method_check.proofs.names.stand_once.Given as goal

-- the names to come break, beside what was found so far, what all break; those before them were seen
abbrev pub invariant-loop-place : goal.invariant-loop-place
invariant-loop-place l = record {
  broken : least_with l.found (stand_once (take l.place l.names) (drop l.place l.names)) ≡ least_with l.fn.found (stand_once (take l.earlier l.names) (drop l.earlier l.names));
  seen : Has l.seen (take l.place l.names);
}
