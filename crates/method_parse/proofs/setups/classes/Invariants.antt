use Rattle.std.proofs.Common.{◌≡◌, ◌-◌}
use Rattle.method_parse.specs.Reader.{repeat}
use Rattle.method_parse.specs.Setups.{begins_class, more_classes, classes}
use Rattle.method_parse.proofs.setups.classes.Given as goal

-- what was read before, and what is still read
abbrev pub invariant-loop-turn : goal.invariant-loop-turn
invariant-loop-turn l =
    classes l.fn.tokens ≡ repeat (256 - l._turn) (λ classes. begins_class) more_classes l.read l.rest
