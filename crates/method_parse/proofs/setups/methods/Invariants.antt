use Rattle.std.proofs.Common.{◌≡◌, ◌-◌}
use Rattle.method_parse.specs.Reader.{repeat}
use Rattle.method_parse.specs.Setups.{more_methods, methods}
use Rattle.std.specs.Prelude.{codes}
use Rattle.method_parse.specs.Matching.{is}
use Rattle.method_parse.proofs.setups.methods.Given as goal

-- what was read before, and what is still read
abbrev pub invariant-loop-turn : goal.invariant-loop-turn
invariant-loop-turn l =
    methods l.fn.tokens ≡ repeat (64 - l._turn) (λ methods. is (codes "method")) more_methods l.read l.rest
