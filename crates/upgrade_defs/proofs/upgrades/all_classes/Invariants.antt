use Rattle.std.proofs.Common.{◌≡◌, ◌-◌}
use Rattle.method_parse.specs.Reader.{repeat}
use Rattle.upgrade_defs.specs.Upgrades.{all_classes, is_class, more_classes}
use Rattle.upgrade_defs.proofs.upgrades.all_classes.Given as goal

-- what was read before, and what is still read
abbrev pub invariant-loop-turn : goal.invariant-loop-turn
invariant-loop-turn l =
    all_classes l.fn.first l.fn.tokens ≡ repeat (l._turn-end - l._turn) is_class more_classes l.read l.rest
