use Rattle.std.proofs.Common.{◌≡◌, ◌-◌}
use Rattle.method_parse.specs.Reader.{repeat}
use Rattle.method_parse.specs.Setups.{more_parameters, other_parameters}
use Rattle.std.specs.Prelude.{codes}
use Rattle.method_parse.specs.Matching.{is}
use Rattle.method_parse.proofs.setups.other_parameters.Given as goal

-- what was read before, and what is still read
abbrev pub invariant-loop-turn : goal.invariant-loop-turn
invariant-loop-turn l =
    other_parameters l.fn.first l.fn.tokens ≡ repeat (7 - l._turn) (λ parameters. is (codes ",")) more_parameters l.read l.rest
