use Rattle.std.proofs.Common.{◌≡◌, ◌-◌}
use Rattle.method_parse.specs.Reader.{repeat}
use Rattle.method_parse.specs.Setups.{begins_type}
use Rattle.upgrade_defs.specs.Upgrades.{fields, more_fields}
use Rattle.upgrade_defs.proofs.upgrades.fields.Given as goal

-- what was read before, and what is still read
abbrev pub invariant-loop-turn : goal.invariant-loop-turn
invariant-loop-turn l =
    fields l.fn.tokens ≡ repeat (32 - l._turn) (λ fields. begins_type) more_fields l.read l.rest
