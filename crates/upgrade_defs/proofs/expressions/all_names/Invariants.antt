use Rattle.std.proofs.Common.{◌≡◌, ◌-◌}
use Rattle.method_parse.specs.Reader.{repeat}
use Rattle.upgrade_defs.specs.Expressions.{all_names, is_dot, more_names}
use Rattle.upgrade_defs.proofs.expressions.all_names.Given as goal

-- what was read before, and what is still read
abbrev pub invariant-loop-turn : goal.invariant-loop-turn
invariant-loop-turn l =
    all_names l.fn.first l.fn.tokens ≡ repeat (l._turn-end - l._turn) is_dot more_names l.read l.rest
